-- `lone_table_ok` meets its contract.
use Rattle.std.proofs.Common.{ℕ, ap, ◌∙◌}
use Rattle.model.specs.Reads.{table_ok}
use Rattle.model.specs.WellFormed.{instance_table_ok}
use Rattle.instance_table.proofs.lone_table_ok.Goals as goal

pub returns : goal.returns
unfolding table_ok
returns c =
    let a = c.args in
    c.table_ok.ensures ∙ ap (λ (n : ℕ). instance_table_ok a.places n 9223372036854775808 a.t.now) c.used-count.ensures
