-- The rows of specs/Lists.antt, by evaluation.
--     turned_away_does_not_stand, noted_stands      a sample turned away, and the remedy
--     turned_away_leaves      such a sample never makes its writer stand
--     noted_keeps      the remedy's list is a console's
use mathlib.Core.Bool.{true, false}
use mathlib.Core.Option.{Option, none, some}
use mathlib.Core.Path.{◌≡◌, refl, sym, ◌∙◌}
use Prim.Native.Nat.{ℕ}
use lib.Dec.{eqb}
use Rattle.octets.specs.Lay.{All}
use Rattle.model.specs.declared.Instance.{Instance}
use Rattle.model.specs.Calls.{Call, calls, amongst, call_of_code}
use Rattle.model.specs.Guids.{num}
use Rattle.model.specs.Handles.{allocated}
use Rattle.model.specs.InstanceCalls.{handle_bytes, instance_turn, instance_call, instances_after, begun, next_after, late_refusal}
use Rattle.model.specs.Instances.{revived, revived_new, admitted_observed, admitted_noted, writer_noted, ownership_tried, takes_over, outbids, owner_cleared, left_by, writer_dropped, started_state, started}
use Rattle.model.specs.Joined.{sampled, first_owned, admitted, admit_with, after_loss, loss_call, left_without_all, left_by_one, clearings, clearings_in}
use Rattle.model.specs.Sets.{set_of, has, insert, remove}
use Rattle.model.specs.State.{fresh_state}
use Rattle.model.specs.Tables.{find, pick, any, put, sift}
use Rattle.model.specs.Times.{time_value, filter_admits, order_admits, deadline_missed}
use Rattle.model.specs.Writers as W
use Rattle.model.proofs.Tests.{split}
use Rattle.accounts.specs.Accounts.{Accounts, absent, accepted, seen, advance_by, advance}
use Rattle.accounts.specs.InstanceAccounts.{Event, is_keyed}
use Rattle.accounts.specs.WriterAccounts.{Writers, hear, asserts, lapses, writers_after}
use Rattle.accounts.proofs.Basics.{missing}
use Rattle.abandonment.specs.Console.{KeepsFrom, Keeps, free, noting}
use Rattle.abandonment.specs.Standing.{Stand, is_code, stand_after, stand_from}
use Rattle.abandonment.specs.Lists.{events, ending, Holds, turned_away, noted_after, rows}
use Rattle.abandonment.proofs.OnInstance.{turned_away_lem}

pub all-rows : All Holds rows
unfolding calls amongst call_of_code num allocated handle_bytes instance_turn instance_call instances_after begun next_after late_refusal revived revived_new admitted_observed admitted_noted writer_noted ownership_tried takes_over outbids owner_cleared left_by writer_dropped started_state started sampled first_owned admitted admit_with after_loss loss_call left_without_all left_by_one clearings clearings_in set_of has insert remove find pick any put sift time_value filter_admits order_admits deadline_missed W.covers W.renews W.asserted W.expires W.expired W.unmatched_from W.writers_after W.movers W.last_after W.next_due W.tracker_state W.tracker_turn W.tracker_call asserts lapses writers_after stand_after stand_from events ending
all-rows = (refl, (refl, (refl, (refl, (refl, (refl, (refl, (refl, (refl, (refl, (refl, tt)))))))))))

-- an admit with another outcome than 0 leaves who stands, whatever the list before it
pub turned_away_leaves : (e : Event) (before after : Writers) (k : ℕ) (x : Stand) → is_code 48 e ≡ true →
    eqb e.outcome 0 ≡ false → stand_after e before after k x ≡ x
unfolding stand_after
turned_away_leaves e before after k x c o =
    split (eqb e.number 0) (λ z. rw (z, c) (turned_away_lem e k x o)) (λ z. rw z)

pub turned_away_does_not_stand : Holds turned_away
turned_away_does_not_stand = all-rows.0

pub noted_stands : Holds noted_after
noted_stands = all-rows.1.0

-- ---- not vacuous: the remedy's list is a console's

-- a call by another key starts no instance of key number k
absent_still : (e : Event) (acc : Accounts) (k : ℕ) → is_keyed e.sheet k ≡ false → acc.instances.at k ≡ none →
    (advance e acc).instances.at k ≡ none
unfolding advance
absent_still e acc k d n = go (accepted e)
  where
    go : (c : Option Call) →
        (advance_by c e acc (hear (seen (accepted e)) e.sheet acc.writers)).instances.at k ≡ none
    go none = n
    go (some c) = rw (n, d)

never_there : {B : Type 0} (a b c : Event) (k : ℕ) (x : Instance) →
    (advance c (advance b (advance a absent))).instances.at k ≡ some x → is_keyed a.sheet k ≡ false →
    is_keyed b.sheet k ≡ false → is_keyed c.sheet k ≡ false → B
never_there a b c k x q f g h =
    missing
    (sym (absent_still c (advance b (advance a absent)) k h (absent_still b (advance a absent) k g (absent_still a absent k f refl)))
    ∙ q)

pub noted_keeps : Keeps (events noted_after.calls fresh_state)
unfolding calls amongst call_of_code num allocated handle_bytes instance_turn instance_call instances_after begun next_after late_refusal revived revived_new admitted_observed admitted_noted writer_noted ownership_tried takes_over outbids owner_cleared left_by writer_dropped started_state started sampled first_owned admitted admit_with after_loss loss_call left_without_all left_by_one clearings clearings_in set_of has insert remove find pick any put sift time_value filter_admits order_admits deadline_missed W.covers W.renews W.asserted W.expires W.expired W.unmatched_from W.writers_after W.movers W.last_after W.next_due W.tracker_state W.tracker_turn W.tracker_call asserts lapses writers_after stand_after stand_from events ending KeepsFrom
noted_keeps = (
  free refl,
  (
    free refl,
    (
      free refl,
      (noting refl (λ k x q h. split (eqb k 7) (λ d. rw d) (λ d. never_there _ _ _ k x q d d d)), (free refl, tt)),
    ),
  ),
)
