-- Section 6, one instance ("pen"): absent (none) or section 2's fields.
use Rattle.std.specs.Prelude.{ℕ, Bool, true, not, ◌&&◌, cond, List, [], ◌∷◌, ◌++◌, eqb}
use Rattle.std.proofs.Math.Option.{Option, none, some}
use Rattle.model.specs.declared.Guid.{Guid}
use Rattle.model.specs.declared.Instance.{Instance}
use Rattle.model.specs.declared.InstanceState.{InstanceState}
use Rattle.model.specs.declared.Sheet.{Sheet}
use Rattle.model.specs.declared.InstanceCall.{InstanceCall}
use Rattle.model.specs.declared.InstanceCall.TheVariants.{Register as register, EnsureRegisteredLimited as ensure_registered_limited, Dispose as dispose, Unregister as unregister, UnregisterWriter as unregister_writer, NoteWriter as note_writer, DropWriter as drop_writer, ObserveLifecycle as observe_lifecycle, ObserveAdmitted as observe_admitted, NoteAdmitted as note_admitted, RecordDelivery as record_delivery, NoteTaken as note_taken, MarkViewSeen as mark_view_seen, MarkViewNew as mark_view_new, DrainSamples as drain_samples, AcceptUnderExclusiveOwnership as accept_under_exclusive_ownership, UpdateOwnerStrength as update_owner_strength, ClearOwnerForWriter as clear_owner_for_writer, ClearOwnerForWriterPrefix as clear_owner_for_writer_prefix, ReleaseOwnerOf as release_owner_of, Autopurge as autopurge}
use Rattle.model.specs.declared.JoinedCall.TheVariants.{Admit as admit, Lapse as lapse, Part as part, Depart as depart}
use Rattle.model.specs.Calls.{Call, instances, tracker, joined}
use Rattle.model.specs.Guids.{num}
use Rattle.model.specs.Instances.{effect, started, ownership_tried, owned_from, admitted_observed, admitted_noted}
use Rattle.model.specs.Joined.{left_without_all}
use Rattle.model.specs.Times.{if_present}

-- ---- a call reaches it by key, by present handle, or as a call on every instance (7, 17, 18, 19, 21, 49 to 51)

-- the three ways
pub data Way : Type 0 where
  by_key by_handle on_every : Way

-- how each call of section 3 reaches
abbrev pub way_of : InstanceCall → Way
way_of register = by_key
way_of ensure_registered_limited = by_key
way_of dispose = by_handle
way_of unregister = by_handle
way_of unregister_writer = by_handle
way_of note_writer = by_handle
way_of drop_writer = on_every
way_of observe_lifecycle = by_key
way_of observe_admitted = by_key
way_of note_admitted = by_key
way_of record_delivery = by_key
way_of note_taken = by_handle
way_of mark_view_seen = by_handle
way_of mark_view_new = by_key
way_of drain_samples = by_handle
way_of accept_under_exclusive_ownership = by_key
way_of update_owner_strength = on_every
way_of clear_owner_for_writer = on_every
way_of clear_owner_for_writer_prefix = on_every
way_of release_owner_of = by_key
way_of autopurge = on_every

-- the sheet names the key of number k
abbrev pub is_keyed : Sheet → ℕ → Bool
is_keyed s k = eqb k (num s.key)

-- whether a call that reaches in a way reaches the instance x of key number k
abbrev pub reached_by : Way → Sheet → ℕ → Instance → Bool
reached_by by_key s k x = is_keyed s k
reached_by by_handle s k x = eqb x.handle.0 s.handle.0
reached_by on_every s k x = true

-- ---- what a list's call tells: its sheet and, from the answer, refusal number, handle and outcome

-- one call of the list
pub record Event : Type 0 where
  pub sheet : Sheet
  pub number : ℕ
  pub handle : ℕ
  pub outcome : ℕ

-- ---- a call that reaches it acts as in sections 3 and 5, on its own fields and the sheet; a purge makes it absent

-- what the call leaves of it: key and handle stay, and nothing where it is purged
abbrev pub leaving : Instance → Option InstanceState → Option Instance
leaving x none = none
leaving x (some y) = some record { key = x.key; handle = x.handle; state = y }

-- codes 16, 9 and 10
abbrev pub admitting : Sheet → InstanceState → InstanceState
admitting s x = admitted_noted s (admitted_observed s (ownership_tried s x))

-- codes 7 and 18 for each writer gone
abbrev pub losing : List Guid → Sheet → Instance → Option Instance
losing gone s x = leaving x (some (left_without_all gone (if_present s.time_1) x.state))

-- `gone` are the writers of codes 49 to 51. Outcomes 1 to 4 of code 48 change nothing
abbrev pub on_present : Call → Event → List Guid → ℕ → Instance → Option Instance
on_present (instances c) e gone k x =
    cond (reached_by (way_of c) e.sheet k x) (leaving x (effect c e.sheet x.state)) (some x)
on_present (tracker c) e gone k x = some x
on_present (joined admit) e gone k x =
    cond (is_keyed e.sheet k && eqb e.outcome 0) (leaving x (some (admitting e.sheet x.state))) (some x)
on_present (joined lapse) e gone k x = losing gone e.sheet x
on_present (joined part) e gone k x = losing gone e.sheet x
on_present (joined depart) e gone k x = losing gone e.sheet x

-- ---- a call that answers a handle starts an absent instance with it before it acts (code 48: after its code 16); no
-- other call alters an absent one. Document 02, request 1: one that code 48 starts has writer and strength of the sheet as
-- owner, and time 2 as owner_at

-- what the call does to the instance that it started
abbrev pub on_started : Call → Sheet → Instance → Option Instance
on_started (instances c) s x = leaving x (effect c s x.state)
on_started (tracker c) s x = some x
on_started (joined admit) s x = leaving x (some (owned_from s (admitted_noted s (admitted_observed s x.state))))
on_started (joined lapse) s x = some x
on_started (joined part) s x = some x
on_started (joined depart) s x = some x

-- the answer has a handle, which is never 0
abbrev pub answers_handle : Event → Bool
answers_handle e = not (eqb e.handle 0)

-- an absent instance: started where the call is by its key and answers a handle
abbrev pub on_absent : Call → Event → ℕ → Option Instance
on_absent c e k =
    cond (is_keyed e.sheet k && answers_handle e) (on_started c e.sheet (started e.sheet.key e.handle)) none

-- the account of key number k in an accepted call
abbrev pub on_instance : Call → Event → List Guid → ℕ → Option Instance → Option Instance
on_instance c e gone k none = on_absent c e k
on_instance c e gone k (some x) = on_present c e gone k x

-- ---- the instances' accounts, and the handles with which calls have started them, in order

-- the accounts of all keys, and the handles started
pub record InstanceAccounts : Type 0 where
  pub at : ℕ → Option Instance
  pub handles : List ℕ

-- all absent, and none started
abbrev pub no_instances : InstanceAccounts
no_instances = record { at = λ k. none; handles = [] }

-- the handle with which a call starts the instance of its key, where that is absent
abbrev pub starts_at : Event → Option Instance → List ℕ
starts_at e none = cond (answers_handle e) (e.handle ∷ []) []
starts_at e (some x) = []

-- an accepted call, or none
abbrev pub reach : Option Call → Event → List Guid → InstanceAccounts → InstanceAccounts
reach none e gone acc = acc
reach (some c) e gone acc =
    record {
      at = λ k. on_instance c e gone k (acc.at k);
      handles = acc.handles ++ starts_at e (acc.at (num e.sheet.key));
    }
