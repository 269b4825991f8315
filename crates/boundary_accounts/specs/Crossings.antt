-- Section 6 at the C boundary: a list of calls through `boundary_call`, each lent the head's 64 bytes and the three buffers as
-- the one before left them, and demand 3's claim on it.
use Rattle.std.specs.Prelude.{ℕ, ◌*◌, List, [], ◌∷◌, ◌≡◌, length}
use Rattle.octets.specs.Bounds.{Bytes}
use Rattle.octets.specs.Lay.{All}
use Rattle.octets.specs.Octets.{be}
use Rattle.model.specs.Call.{lent_of}
use Rattle.model.specs.InstanceRecord.{instance_size}
use Rattle.model.specs.Sheets.{sheet_of}
use Rattle.model.specs.State.{places_in}
use Rattle.accounts.specs.Accounts.{Accounts, Told, accounts_of}
use Rattle.accounts.specs.InstanceAccounts.{Event}
use Rattle.boundary.specs.Layouts.{head_bytes, head_in}
use Rattle.dcps_c.specs.Boundary.{Crossed, boundary_call, boundary_fresh}

-- ---- the list: any sheet, Out and answer

-- what is lent anew to a call
pub record Lending : Type 0 where
  pub sheet : List ℕ
  pub out : List ℕ
  pub answer : List ℕ

-- the next call of the list, on what the one before left
abbrev pub next : Lending → Crossed → Crossed
next i x = boundary_call x.head i.sheet x.pens x.writers x.lost i.out i.answer

-- what the list leaves in the end
unfoldable pub final : List Lending → Crossed → Crossed
final [] x = x
final (i ∷ is) x = final is (next i x)

-- ---- what the accounts are fed: the number that was returned; outcome and handle from bytes 1 and 8 to 15 of the answer. An
-- answer of another length is not written, but such a call is refused, and the accounts skip it

abbrev pub event_of : List ℕ → Crossed → Event
event_of sheet x =
    record { sheet = sheet_of sheet; number = x.number; handle = be 8 x.answer 8; outcome = be 1 x.answer 1 }

unfoldable pub history : List Lending → Crossed → List Event
history [] x = []
history (i ∷ is) x = event_of i.sheet (next i x) ∷ history is (next i x)

-- ---- the claim

-- a sheet has bytes as elements
abbrev pub SheetBytes : Lending → Type 0
SheetBytes i = Bytes i.sheet

-- the 64 bytes are those of a head, and this head and the three buffers are those of the accounts
pub record ToldAcross (places : ℕ) (x : Crossed) (acc : Accounts) : Type 0 where
  pub head : x.head ≡ head_bytes (head_in x.head)
  pub told : Told places (lent_of (head_in x.head) x.pens x.writers x.lost x.out) acc

-- whatever the list, from what an accepted `boundary_fresh` leaves; the length of the pens that it was lent sets the number of
-- places
abbrev pub BoundaryDemand3 : Type 0
BoundaryDemand3 =
    (head pens writers lost : List ℕ) (is : List Lending) → (boundary_fresh head pens writers lost).number ≡ 0 → All SheetBytes is →
    ToldAcross (places_in pens) (final is (boundary_fresh head pens writers lost)) (accounts_of (history is (boundary_fresh head pens writers lost)))

-- the same, for the number of places that pens were lent for
abbrev pub SizedDemand3 : ℕ → Type 0
SizedDemand3 places =
    (head pens writers lost : List ℕ) (is : List Lending) → length pens ≡ places * instance_size →
    (boundary_fresh head pens writers lost).number ≡ 0 → All SheetBytes is →
    ToldAcross places (final is (boundary_fresh head pens writers lost)) (accounts_of (history is (boundary_fresh head pens writers lost)))
