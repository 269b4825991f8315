-- How much an instance counts.
--     bit_le, call_bounded     at most one in a call on every instance
--     byte_bit                 a test as a number
use Prim.Native.Nat.{◌≤◌}
use mathlib.Core.Bool.{Bool, true, false}
use mathlib.Core.Path.{◌≡◌, refl}
use mir.Val.{bool_byte}
use native.Mathlib.Omega.{arith}
use Rattle.model.specs.declared.InstanceCall.{InstanceCall}
use Rattle.model.specs.declared.Sheet.{Sheet}
use Rattle.model.specs.InstanceRecord.{bit}
use Rattle.instance_pass.specs.Acts.{Bounded}
use Rattle.instance_pass.specs.Steps.{counts, call_act}

pub bit_le : (b : Bool) → bit b ≤ 1
bit_le true = omega arith
bit_le false = omega arith

-- a test as a number
pub byte_bit : (b : Bool) → bool_byte b ≡ bit b
byte_bit true = refl
byte_bit false = refl

pub call_bounded : (c : InstanceCall) (s : Sheet) → Bounded (call_act c s)
call_bounded c s x = omega (arith, bit_le (counts c s x))
