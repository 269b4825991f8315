-- Section 6 speaks of every GUID and of every key. Both are sixteen bytes and go by their number: an account is a function
-- of it. Here is what is gathered from such a function over all numbers below a bound.
use Rattle.std.specs.Prelude.{ℕ, zero, suc, ◌+◌, ◌/◌, ◌%◌, ◌^◌, Bool, cond, List, [], ◌∷◌}
use Rattle.std.proofs.Math.Option.{Option, none, some}
use Rattle.model.specs.declared.Guid.{Guid}
use Rattle.model.specs.Tables.{kept}

-- sixteen bytes make a number below this
unfoldable pub bound : ℕ
bound = 2 ^ 128

-- the sixteen bytes of a number
unfoldable pub guid_numbered : ℕ → Guid
guid_numbered n = record { hi = n / 2 ^ 64; lo = n % 2 ^ 64 }

-- of the n numbers from lo on, those of which p holds, rising
unfoldable pub between : ℕ → ℕ → (ℕ → Bool) → List ℕ
between lo zero p = []
between lo (suc n) p = cond (p lo) (lo ∷ between (suc lo) n p) (between (suc lo) n p)

-- the sum of f over the n numbers from lo on
unfoldable pub sum_over : ℕ → ℕ → (ℕ → ℕ) → ℕ
sum_over lo zero f = 0
sum_over lo (suc n) f = f lo + sum_over (suc lo) n f

-- the greatest number below n of which p holds, where there is one
unfoldable pub greatest : ℕ → (ℕ → Bool) → Option ℕ
greatest zero p = none
greatest (suc n) p = cond (p n) (some n) (greatest n p)

-- the accounts not absent, of the n numbers from lo on, in rising order
unfoldable pub present : {A : Type 0} → ℕ → ℕ → (ℕ → Option A) → List A
present lo zero acc = []
present lo (suc n) acc = kept (acc lo) (present (suc lo) n acc)

-- n, n + 1, n + 2 and on, as many as there are to be
unfoldable pub up_from : ℕ → ℕ → List ℕ
up_from n zero = []
up_from n (suc m) = n ∷ up_from (suc n) m
