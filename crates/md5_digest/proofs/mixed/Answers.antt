-- `md5::mixed` meets its contract, round by round.
use Rattle.md5_digest.specs.Md5.{mixed}
use Rattle.md5_digest.proofs.mixed.Goals as goal

pub returns-in-First : goal.returns-in-First
unfolding mixed
returns-in-First c = rw c.in-First.is

pub returns-in-Second : goal.returns-in-Second
unfolding mixed
returns-in-Second c = rw c.in-Second.is

pub returns-in-Third : goal.returns-in-Third
unfolding mixed
returns-in-Third c = rw c.in-Third.is

pub returns-in-Fourth : goal.returns-in-Fourth
unfolding mixed
returns-in-Fourth c = rw c.in-Fourth.is
