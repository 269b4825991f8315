-- `status_answer` meets its contract.
use Rattle.dcps_c.proofs.status_answer.Goals as goal

pub returns-in-Refused : goal.returns-in-Refused
returns-in-Refused c = rw (c.refused_with.ensures, c.in-Refused.is)

pub returns-in-Is : goal.returns-in-Is
returns-in-Is c = rw (c.reporting.ensures, c.in-Is.is)
