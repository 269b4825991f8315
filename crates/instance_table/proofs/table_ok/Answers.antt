-- `table_ok` meets its contract: the first part of the test that fails makes the whole fail.
use Rattle.std.proofs.Common.{sym, refl, ◌∙◌, le-leb}
use borrow.Author.Tests.{lt-leb}
use Rattle.instance_table.proofs.Finding.{rise_read}
use Rattle.instance_table.proofs.Records.{table_by}
use Rattle.instance_table.proofs.table_ok.Goals as goal

pub returns-then-places-count : goal.returns-then-places-count
returns-then-places-count c =
    let a = c.args in
    table_by a.places a.count a.next a.t.now (lt-leb _ _ c.if-places-count.true) refl refl refl refl

pub returns-then-not-zero_from : goal.returns-then-not-zero_from
returns-then-not-zero_from c =
    table_by c.args.places c.args.count c.args.next c.args.t.now
    (le-leb _ _ c.if-places-count.false) (sym c.zero_from.ensures ∙ c.if-not-zero_from.true) refl refl refl

pub returns-then-not-records_ok : goal.returns-then-not-records_ok
returns-then-not-records_ok c =
    table_by c.args.places c.args.count c.args.next c.args.t.now
    (le-leb _ _ c.if-places-count.false) (sym c.zero_from.ensures ∙ c.if-not-zero_from.false)
    (sym c.records_ok.ensures ∙ c.if-not-records_ok.true) refl refl

pub returns-then-not-keys_rise : goal.returns-then-not-keys_rise
returns-then-not-keys_rise c =
    table_by c.args.places c.args.count c.args.next c.args.t.now
    (le-leb _ _ c.if-places-count.false) (sym c.zero_from.ensures ∙ c.if-not-zero_from.false)
    (sym c.records_ok.ensures ∙ c.if-not-records_ok.false)
    (sym (rise_read c.args.count c.args.t.now) ∙ sym c.keys_rise.ensures ∙ c.if-not-keys_rise.true) refl

pub returns : goal.returns
returns c =
    table_by c.args.places c.args.count c.args.next c.args.t.now
    (le-leb _ _ c.if-places-count.false) (sym c.zero_from.ensures ∙ c.if-not-zero_from.false)
    (sym c.records_ok.ensures ∙ c.if-not-records_ok.false)
    (sym (rise_read c.args.count c.args.t.now) ∙ sym c.keys_rise.ensures ∙ c.if-not-keys_rise.false)
    (sym c.handles_ok.ensures)
