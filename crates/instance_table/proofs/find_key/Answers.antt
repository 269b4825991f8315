-- `find_key` meets its contract: the table's keys are the instances' keys.
use Rattle.std.proofs.Common.{ℕ, List, ap, ◌∙◌, arith}
use Rattle.model.specs.Guids.{num}
use Rattle.tables.specs.Found.{found_in}
use Rattle.instance_table.proofs.Finding.{keys_read, rise_read}
use Rattle.instance_table.proofs.find_key.Goals as goal

pub find-requires : goal.find-requires
find-requires c =
    let a = c.args in
    (omega arith, c.requires.0, omega arith, rise_read a.count a.t.now ∙ c.requires.2)

pub returns : goal.returns
returns c =
    let a = c.args in
    c.find.ensures ∙ ap (λ (ks : List ℕ). found_in ks (num a.key)) (keys_read a.count a.t.now)
