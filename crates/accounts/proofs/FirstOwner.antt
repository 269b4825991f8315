-- Document 02, request 1, on the accounts.
--     admitted-owner     for every list of calls: after outcome 0 of code 48 the account has the sheet's GUID and strength as
--                        owner, and time 2 as owner_at; before, it was absent or code 16's rule let the writer through
--     first-owner        the same of an absent key
--     admitted_owner_32, admitted_owner_128, first_owner_32, first_owner_128      with 32 places, and with 128
use mathlib.Core.Bool.{true, false}
use mathlib.Core.Option.{Option, none, some}
use mathlib.Core.Path.{◌≡◌, refl, sym, ap, ◌∙◌}
use Prim.Native.Nat.{ℕ}
use borrow.Author.Tests.{eq-eqb}
use lib.Dec.{eqb}
use Rattle.model.specs.declared.Instance.{Instance}
use Rattle.model.specs.declared.InstanceState.{InstanceState}
use Rattle.model.specs.declared.JoinedCall.TheVariants.{Admit as admit}
use Rattle.model.specs.declared.Sheet.{Sheet}
use Rattle.model.specs.Call.{call_in, call_of}
use Rattle.model.specs.Calls.{joined}
use Rattle.model.specs.Guids.{num}
use Rattle.model.specs.InstanceCalls.{accepted as accepts}
use Rattle.model.specs.State.{figure_ok}
use Rattle.model.specs.Instances.{started, takes_over, ownership_tried, admitted_observed, admitted_noted, writer_noted}
use Rattle.accounts.specs.Accounts.{Accounts, accepted, advance}
use Rattle.accounts.specs.FirstOwner.{OwnedBy, Owned, named, OwnsAdmitted, FirstOwner, AdmittedOwner}
use Rattle.accounts.specs.InstanceAccounts.{Event, admitting}
use Rattle.accounts.proofs.Answered.{Admitting, real_next}
use Rattle.accounts.proofs.Demand3.{after-fresh}
use Rattle.accounts.proofs.Runs.{told_in, after-in}

-- ---- one account

-- absent before, where the call answers a handle
begins-owned : (e : Event) (acc : Accounts) → accepted e ≡ some (joined admit) → named e acc ≡ none → eqb e.handle 0 ≡ false →
    Owned e (named e (advance e acc))
unfolding advance started
begins-owned e acc is n h =
    rw (is, n, eq-eqb (num e.sheet.key) (num e.sheet.key) refl, h)
    record { instance = _; there = refl; handle = refl; owned = record { owner = refl; owner_at = refl } }

-- there before, where code 16 lets the writer through
taken_owned : (s : Sheet) (x : InstanceState) → takes_over s x ≡ true → OwnedBy s (admitting s x)
unfolding ownership_tried admitted_observed admitted_noted writer_noted
taken_owned s x t = rw t record { owner = refl; owner_at = refl }

goes_on_owned : (e : Event) (acc : Accounts) (x : Instance) → accepted e ≡ some (joined admit) → e.outcome ≡ 0 →
    named e acc ≡ some x → x.handle.0 ≡ e.handle → takes_over e.sheet x.state ≡ true → Owned e (named e (advance e acc))
unfolding advance
goes_on_owned e acc x is o n h t =
    rw (is, n, eq-eqb (num e.sheet.key) (num e.sheet.key) refl, o)
    record { instance = _; there = refl; handle = h; owned = taken_owned e.sheet x.state t }

-- what a run's admit tells suffices
owns-admitted : (e : Event) (acc : Accounts) → Admitting (joined admit) e acc → OwnsAdmitted e acc
owns-admitted e acc r is o = (r.takes zero, go (named e acc) refl)
  where
    zero : eqb e.outcome 0 ≡ true
    zero = ap (λ (n : ℕ). eqb n 0) o

    go : (before : Option Instance) → named e acc ≡ before → Owned e (named e (advance e acc))
    go none n = begins-owned e acc is n (r.absent zero n)
    go (some x) n =
        goes_on_owned e acc x is o n (r.present zero x n) (sym (ap (accepts e.sheet) n) ∙ r.takes zero)

-- ---- every list

admitted-in : (places : ℕ) → AdmittedOwner places (call_in places)
admitted-in places is i out b c a o =
    owns-admitted _ _ (real_next places i _ _ c (after-fresh places is out b) (joined admit) a).admitted a o

pub admitted-owner : (places : ℕ) → figure_ok places ≡ true → AdmittedOwner places call_of
admitted-owner places ok is i out b c = rw (after-in places ok is out i, told_in places ok is out) (admitted-in places is i out b c)

pub first-owner : (places : ℕ) → figure_ok places ≡ true → FirstOwner places call_of
first-owner places ok is i out b c a o n = (admitted-owner places ok is i out b c a o).1

pub admitted_owner_32 : AdmittedOwner 32 call_of
admitted_owner_32 = admitted-owner 32 refl

pub admitted_owner_128 : AdmittedOwner 128 call_of
admitted_owner_128 = admitted-owner 128 refl

pub first_owner_32 : FirstOwner 32 call_of
first_owner_32 = first-owner 32 refl

pub first_owner_128 : FirstOwner 128 call_of
first_owner_128 = first-owner 128 refl
