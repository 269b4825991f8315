-- Document 02, request 1: the writer of a sample that admit takes owns the instance, from the sample that starts it on. Claims on
-- every list of calls.
use Rattle.std.specs.Prelude.{ℕ, true, List, ◌≡◌}
use Rattle.std.proofs.Math.Option.{Option, none, some}
use Rattle.octets.specs.Lay.{All}
use Rattle.model.specs.declared.Instance.{Instance}
use Rattle.model.specs.declared.InstanceState.{InstanceState}
use Rattle.model.specs.declared.JoinedCall.TheVariants.{Admit as admit}
use Rattle.model.specs.declared.Sheet.{Sheet}
use Rattle.model.specs.Call.{Left}
use Rattle.model.specs.Calls.{joined}
use Rattle.model.specs.Guids.{num}
use Rattle.model.specs.InstanceCalls.{accepted as accepts}
use Rattle.model.specs.State.{Lent, fresh}
use Rattle.accounts.specs.Accounts.{Accounts, accepted, advance, accounts_of, Lending, event_of, next, final, history, SheetBytes}
use Rattle.accounts.specs.InstanceAccounts.{Event}

-- the sheet's GUID is the owner, with the sheet's strength, and time 2 is owner_at
pub record OwnedBy (s : Sheet) (x : InstanceState) : Type 0 where
  pub owner : x.owner ≡ record { present = true; guid = s.guid; strength = s.second }
  pub owner_at : x.times.owner_at ≡ record { present = true; sec = s.time_2.sec; nanosec = s.time_2.nanosec }

-- an account that is there, with the handle answered, and so owned
pub record Owned (e : Event) (o : Option Instance) : Type 0 where
  pub instance : Instance
  pub there : o ≡ some instance
  pub handle : instance.handle.0 ≡ e.handle
  pub owned : OwnedBy e.sheet instance.state

-- the account that the sheet's key names
abbrev pub named : Event → Accounts → Option Instance
named e acc = acc.instances.at (num e.sheet.key)

-- such is an absent account after outcome 0 of code 48
abbrev pub OwnsFirst : Event → Accounts → Type 0
OwnsFirst e acc = accepted e ≡ some (joined admit) → e.outcome ≡ 0 → named e acc ≡ none → Owned e (named e (advance e acc))

-- and so is every account after it, absent before or let through by code 16's rule: one writer at a time
abbrev pub OwnsAdmitted : Event → Accounts → Type 0
OwnsAdmitted e acc =
    accepted e ≡ some (joined admit) → e.outcome ≡ 0 → (accepts e.sheet (named e acc) ≡ true) × Owned e (named e (advance e acc))

-- of the next call after any list
abbrev pub AfterAny : (Event → Accounts → Type 0) → ℕ → (List ℕ → Lent → Left) → Type 0
AfterAny P places call =
    (is : List Lending) (i : Lending) (out : List ℕ) → All SheetBytes is → SheetBytes i →
    P (event_of i.sheet (next call i (final call is (fresh places out))).answer) (accounts_of (history call is (fresh places out)))

abbrev pub FirstOwner : ℕ → (List ℕ → Lent → Left) → Type 0
FirstOwner = AfterAny OwnsFirst

abbrev pub AdmittedOwner : ℕ → (List ℕ → Lent → Left) → Type 0
AdmittedOwner = AfterAny OwnsAdmitted
