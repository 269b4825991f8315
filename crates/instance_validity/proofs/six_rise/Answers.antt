-- `six_rise` meets its contract: the first GUID that is not below the next makes the whole fail.
use Prim.Native.Nat.{◌+◌}
use mathlib.Core.Path.{◌≡◌, refl, sym, ◌∙◌}
use Rattle.octets.specs.Octets.{be}
use Rattle.instance_validity.proofs.Rise.{next_by, rise_six}
use Rattle.instance_validity.proofs.six_rise.Goals as goal

pub returns-in_default : goal.returns-in_default
returns-in_default c = rise_six c.args.s.now c.args.at c.in_default.ensures refl refl refl refl

pub returns-in_default-next_beside : goal.returns-in_default-next_beside
returns-in_default-next_beside c =
    rise_six c.args.s.now c.args.at c.in-Some.ensures.0 c.in_default-next_beside.ensures refl refl refl

pub returns-in_default-next_beside-2 : goal.returns-in_default-next_beside-2
returns-in_default-next_beside-2 c =
    rise_six c.args.s.now c.args.at c.in-Some.ensures.0 c.in-Some-next_beside.ensures.0 c.in_default-next_beside-2.ensures refl refl

pub returns-in_default-next_beside-3 : goal.returns-in_default-next_beside-3
returns-in_default-next_beside-3 c =
    rise_six c.args.s.now c.args.at c.in-Some.ensures.0 c.in-Some-next_beside.ensures.0 c.in-Some-next_beside-2.ensures.0
    c.in_default-next_beside-3.ensures refl

pub returns : goal.returns
returns c =
    rise_six c.args.s.now c.args.at c.in-Some.ensures.0 c.in-Some-next_beside.ensures.0 c.in-Some-next_beside-2.ensures.0
    c.in-Some-next_beside-3.ensures.0
    (next_by c.args.s.now c.next_beside-5.result (c.args.at + 64) (λ l. l ≡ be 8 c.args.s.now (c.args.at + 64 + 24)) c.next_beside-5.ensures
    ∙ sym c.is_some.ensures)
