-- A console that keeps its instances by joined calls: what stands in its lists.
use Rattle.std.specs.Prelude.{ℕ, Bool, true, ◌&&◌, ◌||◌, List, [], ◌∷◌, ◌≡◌, leb}
use Rattle.std.proofs.Math.Option.{none, some}
use Rattle.model.specs.declared.Instance.{Instance}
use Rattle.model.specs.Guids.{num}
use Rattle.accounts.specs.Accounts.{Accounts, absent, accepted, advance}
use Rattle.accounts.specs.InstanceAccounts.{Event}
use Rattle.abandonment.specs.Standing.{Stand, nobody, someone, is_code, stand_after, heard}

-- codes 11 to 21, 32 to 40, 48 to 51
abbrev pub among : ℕ → Bool
among n = (leb 11 n && leb n 21) || ((leb 32 n && leb n 40) || (leb 48 n && leb n 51))

-- codes 1, 2, 8 and 9, by a key: all start what is not there, and 1, 2 and 9 revive
abbrev pub by_keyed : Event → Bool
by_keyed e = is_code 1 e || (is_code 2 e || (is_code 8 e || is_code 9 e))

-- the sheet's handle is that of an instance for which some writer stands, or of none
abbrev pub AtStanding : Event → Accounts → (ℕ → Stand) → Type 0
AtStanding e acc stands =
    (k : ℕ) (x : Instance) → acc.instances.at k ≡ some x → x.handle.0 ≡ e.sheet.handle.0 → someone (stands k) ≡ true

-- one call of such a list
pub data Fits (e : Event) (acc : Accounts) (stands : ℕ → Stand) : Type 0 where
  -- refused, or of an unknown code
  skipped : accepted e ≡ none → Fits e acc stands
  free : among e.sheet.code ≡ true → Fits e acc stands
  -- note_writer where some writer stands, or nothing is there
  noting : is_code 6 e ≡ true → AtStanding e acc stands → Fits e acc stands
  -- these four where some writer stands for their key
  keyed : by_keyed e ≡ true → someone (stands (num e.sheet.key)) ≡ true → Fits e acc stands

abbrev pub stands_after : Event → Accounts → (ℕ → Stand) → ℕ → Stand
stands_after e acc stands k = stand_after e acc.writers.at (heard e acc.writers).at k (stands k)

unfoldable pub KeepsFrom : List Event → Accounts → (ℕ → Stand) → Type 0
KeepsFrom [] acc stands = Unit {0}
KeepsFrom (e ∷ h) acc stands = Fits e acc stands × KeepsFrom h (advance e acc) (stands_after e acc stands)

-- every call of the list is such, from fresh
abbrev pub Keeps : List Event → Type 0
Keeps h = KeepsFrom h absent (λ k. nobody)
