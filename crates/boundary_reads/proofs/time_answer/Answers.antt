-- `boundary_reads::time_answer` meets its contract.
use mir.Syntax.{w32}
use mir.Val.{SFits}
use Rattle.boundary.proofs.Read.{bits_back}
use borrow.Author.Rules.{rules}
use Rattle.boundary_reads.proofs.time_answer.Goals as goal

pub returns-in-Refused : goal.returns-in-Refused
returns-in-Refused c = rw (c.refused_answer.ensures, c.in-Refused.is)

pub returns-in-Missing : goal.returns-in-Missing
returns-in-Missing c = rw (c.refused_answer-in-Missing.ensures, c.in-Missing.is)

pub returns-in-Is : goal.returns-in-Is
returns-in-Is c =
    let fits : SFits w32 c.in-Is.t.sec = search rules in
    rw (c.in-Is.is, bits_back fits c.bits_of.ensures)
