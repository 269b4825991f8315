-- What a call past refusal 1 is lent.
use Rattle.std.specs.Prelude.{ℕ, ◌*◌, ◌≤◌, ◌≡◌, length}
use Rattle.model.specs.State.{Lent}

-- each buffer has its length for the instance places that the head says, of which there are no more than 128
pub record Lengths (l : Lent) : Type 0 where
  pub few : l.head.places ≤ 128
  pub pens : length l.pens ≡ l.head.places * 512
  pub writers : length l.writers ≡ 5120
  pub lost : length l.lost ≡ 4096
  pub out : length l.out ≡ 4096
