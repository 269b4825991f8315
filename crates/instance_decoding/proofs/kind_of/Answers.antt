-- `kind_of` meets its contract.
use native.Mathlib.Omega.{arith}
use Rattle.instance_decoding.proofs.Rows.{kind_rest}
use Rattle.instance_decoding.proofs.kind_of.Goals as goal

pub returns-in_default : goal.returns-in_default
returns-in_default c = kind_rest c.args.n (λ e. omega arith) (λ e. omega arith)
