-- The first and the last of a list that rises.
use Rattle.instance_pass.proofs.SpanLaws.{span_none, span_all}
use Rattle.instance_pass.proofs.span_of.Goals as goal

pub returns-then-n-eq0 : goal.returns-then-n-eq0
returns-then-n-eq0 c = span_none _ c.args.gone.now.list.now c.if-n-eq0.true

pub returns : goal.returns
returns c =
    let gone = c.args.gone.now in
    span_all gone.list.now c.guid_at-low.result c.guid_at-high.result c.if-n-eq0.false gone.listed c.guid_at-low.ensures c.guid_at-high.ensures
