-- The calls by name and by number: sections 3 ("pen calls"), 4 and 5.
use Rattle.std.specs.Prelude.{ℕ, cond, List, [], ◌∷◌, map, eqb}
use Rattle.std.proofs.Math.Option.{Option, none, some}
pub use Rattle.model.specs.declared.InstanceCall.{InstanceCall}
pub use Rattle.model.specs.declared.InstanceCall.TheVariants.{Register as register, EnsureRegisteredLimited as ensure_registered_limited, Dispose as dispose, Unregister as unregister, UnregisterWriter as unregister_writer, NoteWriter as note_writer, DropWriter as drop_writer, ObserveLifecycle as observe_lifecycle, ObserveAdmitted as observe_admitted, NoteAdmitted as note_admitted, RecordDelivery as record_delivery, NoteTaken as note_taken, MarkViewSeen as mark_view_seen, MarkViewNew as mark_view_new, DrainSamples as drain_samples, AcceptUnderExclusiveOwnership as accept_under_exclusive_ownership, UpdateOwnerStrength as update_owner_strength, ClearOwnerForWriter as clear_owner_for_writer, ClearOwnerForWriterPrefix as clear_owner_for_writer_prefix, ReleaseOwnerOf as release_owner_of, Autopurge as autopurge}
pub use Rattle.model.specs.declared.TrackerCall.{TrackerCall}
pub use Rattle.model.specs.declared.TrackerCall.TheVariants.{Matched as matched, Unmatched as unmatched, LostWithParticipant as lost_with_participant, WriterAsserted as writer_asserted, ParticipantAsserted as participant_asserted, Expire as expire, TakeLost as take_lost, TakeStatus as take_status, Acknowledge as acknowledge}
pub use Rattle.model.specs.declared.JoinedCall.{JoinedCall}
pub use Rattle.model.specs.declared.JoinedCall.TheVariants.{Admit as admit, Lapse as lapse, Part as part, Depart as depart}

pub data Call : Type 0 where
  instances : InstanceCall → Call
  tracker : TrackerCall → Call
  joined : JoinedCall → Call

pub record Numbered : Type 0 where
  pub code : ℕ
  pub call : Call

abbrev numbered : ℕ → Call → Numbered
numbered n c = record { code = n; call = c }

-- codes 1 to 21, 32 to 40 and 48 to 51; there are no others
unfoldable pub calls : List Numbered
calls =
    numbered 1 (instances register)
    ∷ numbered 2 (instances ensure_registered_limited)
    ∷ numbered 3 (instances dispose)
    ∷ numbered 4 (instances unregister)
    ∷ numbered 5 (instances unregister_writer)
    ∷ numbered 6 (instances note_writer)
    ∷ numbered 7 (instances drop_writer)
    ∷ numbered 8 (instances observe_lifecycle)
    ∷ numbered 9 (instances observe_admitted)
    ∷ numbered 10 (instances note_admitted)
    ∷ numbered 11 (instances record_delivery)
    ∷ numbered 12 (instances note_taken)
    ∷ numbered 13 (instances mark_view_seen)
    ∷ numbered 14 (instances mark_view_new)
    ∷ numbered 15 (instances drain_samples)
    ∷ numbered 16 (instances accept_under_exclusive_ownership)
    ∷ numbered 17 (instances update_owner_strength)
    ∷ numbered 18 (instances clear_owner_for_writer)
    ∷ numbered 19 (instances clear_owner_for_writer_prefix)
    ∷ numbered 20 (instances release_owner_of)
    ∷ numbered 21 (instances autopurge)
    ∷ numbered 32 (tracker matched)
    ∷ numbered 33 (tracker unmatched)
    ∷ numbered 34 (tracker lost_with_participant)
    ∷ numbered 35 (tracker writer_asserted)
    ∷ numbered 36 (tracker participant_asserted)
    ∷ numbered 37 (tracker expire)
    ∷ numbered 38 (tracker take_lost)
    ∷ numbered 39 (tracker take_status)
    ∷ numbered 40 (tracker acknowledge)
    ∷ numbered 48 (joined admit)
    ∷ numbered 49 (joined lapse)
    ∷ numbered 50 (joined part)
    ∷ numbered 51 (joined depart)
    ∷ []

-- the last code of each range
abbrev pub last_instance : ℕ
last_instance = 21

abbrev pub last_tracker : ℕ
last_tracker = 40

abbrev pub last_joined : ℕ
last_joined = 51

abbrev pub code_of : Numbered → ℕ
code_of n = n.code

-- the valid codes, rising
unfoldable pub valid_codes : List ℕ
unfolding calls
valid_codes = map code_of calls

unfoldable pub amongst : ℕ → List Numbered → Option Call
amongst n [] = none
amongst n (c ∷ cs) = cond (eqb c.code n) (some c.call) (amongst n cs)

-- the call of a code, none for an unknown one
unfoldable pub call_of_code : ℕ → Option Call
call_of_code n = amongst n calls
