-- What a pass makes of the state of an instance.
--     Act         what is left of it, whether it is listed in Out, how much it counts
--     Bounded     it counts no more than Lost has room for
--     Keeps       it purges nothing
use Rattle.std.specs.Prelude.{ℕ, ◌≤◌, Bool, true, ◌≡◌}
use Rattle.std.proofs.Math.Option.{Option}
use Rattle.model.specs.declared.InstanceState.{InstanceState}
use Rattle.model.specs.Tables.{is_some}

-- none is left of an instance that is purged
pub record Act : Type 0 where
  pub left : InstanceState → Option InstanceState
  pub listed : InstanceState → Bool
  pub counted : InstanceState → ℕ

abbrev pub Bounded : Act → Type 0
Bounded a = (x : InstanceState) → a.counted x ≤ 256

abbrev pub Keeps : Act → Type 0
Keeps a = (x : InstanceState) → is_some (a.left x) ≡ true
