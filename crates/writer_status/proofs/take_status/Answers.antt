-- `writer_status::take_status` meets its contract.
use mathlib.Core.Path.{◌≡◌, ◌∙◌}
use native.Mathlib.Omega.{arith}
use Rattle.model.specs.Answers.{reporting}
use Rattle.model.specs.Reads.{head_status}
use Rattle.writer_status.proofs.Idle.{status_kept}
use Rattle.writer_status.proofs.take_status.Goals as goal

pub returns : goal.returns
returns c =
    let h = c.args.head in
    let a : c.reporting.result ≡ reporting (head_status h) = c.reporting.ensures ∙ rw c.head_status.ensures in
    status_kept c.args.sheet h (omega (arith, c.well_formed)) record { answer = c.reporting.result; head = c.with_changes.result } a
    c.with_changes.ensures
