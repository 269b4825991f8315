-- `coded` meets its contract: each range is sent to its call, and a code of none is refused as 2.
use mathlib.Core.Option.{none}
use mathlib.Core.Path.{◌≡◌, ◌∙◌}
use native.Mathlib.Omega.{arith}
use Rattle.model.specs.Call.{lent_of}
use Rattle.model.specs.Calls.{call_of_code}
use Rattle.call_codes.proofs.Codes.{unknown}
use Rattle.call_laws.proofs.Chain.{refused-left, coded_2}
use Rattle.dcps.proofs.coded.Goals as goal
use Rattle.dcps.proofs.coded.Goals.{in_default-via-then-s-lt1, in_default-via-else-s-lt1+else-s-lt22+then-s-lt32, in_default-via-else-s-lt1+else-s-lt22+else-s-lt32+else-s-lt41+then-s-lt48, in_default-via-else-s-lt1+else-s-lt22+else-s-lt32+else-s-lt41+else-s-lt48+else-s-lt52}

pub instances-requires : goal.instances-requires
instances-requires c =
    (c.requires, omega arith, omega arith)

pub tracker-requires : goal.tracker-requires
tracker-requires c =
    (c.requires, omega arith, omega arith)

pub joined-requires : goal.joined-requires
joined-requires c =
    (c.requires, omega arith, omega arith)

pub returns-in-1-to-21 : goal.returns-in-1-to-21
returns-in-1-to-21 c = c.instances.ensures

pub returns-in-32-to-40 : goal.returns-in-32-to-40
returns-in-32-to-40 c = c.tracker.ensures

pub returns-in-48-to-51 : goal.returns-in-48-to-51
returns-in-48-to-51 c = c.joined.ensures

pub returns-in_default : goal.returns-in_default
returns-in_default c =
    let a = c.args in
    let n = a.s.code in
    let l = lent_of a.head a.pens.now a.writers.now a.lost.now a.out.now in
    let none-such : call_of_code n ≡ none =
    elim c.in_default.branch [
      | in_default-via-then-s-lt1 w ↦ unknown n (λ i j. absurd (omega arith)) (λ i j. absurd (omega arith)) (λ i j. absurd (omega arith))
      | in_default-via-else-s-lt1+else-s-lt22+then-s-lt32 w ↦ unknown n (λ i j. absurd (omega arith)) (λ i j. absurd (omega arith)) (λ i j. absurd (omega arith))
      | in_default-via-else-s-lt1+else-s-lt22+else-s-lt32+else-s-lt41+then-s-lt48 w ↦ unknown n (λ i j. absurd (omega arith)) (λ i j. absurd (omega arith)) (λ i j. absurd (omega arith))
      | in_default-via-else-s-lt1+else-s-lt22+else-s-lt32+else-s-lt41+else-s-lt48+else-s-lt52 w ↦ unknown n (λ i j. absurd (omega arith)) (λ i j. absurd (omega arith)) (λ i j. absurd (omega arith))
    ] in
    refused-left 2 _ a.head a.pens.now a.writers.now a.lost.now a.out.now c.refused.ensures ∙ coded_2 a.head.places a.s l none-such
