-- What holds of the state after every call of a list: it is in step with the accounts, and it is well formed.
--     accepted-sheet     what an accepted sheet has
--     held_turn          an accepted call keeps it so
--     held_fits, held_valid      so the state fits its bytes and is well formed
--     held_fresh         the fresh state
use mathlib.Core.Bool.{Bool, true, false, not, ◌&&◌, ◌||◌}
use mathlib.Core.List.{List, [], ◌∷◌}
use mathlib.Core.Option.{Option, none}
use mathlib.Core.Path.{◌≡◌, refl, sym, ap, ◌∙◌}
use Prim.Native.Nat.{ℕ, ◌^◌, ◌≤◌, ◌*◌}
use native.Mathlib.Omega.{arith}
use borrow.Author.Tests.{ne_eqb, le-leb, lt-ltb, leb-true, leb-false, not-false}
use lib.Dec.{eqb, leb}
use lib.ListN.{length}
use Rattle.octets.specs.Lay.{All}
use Rattle.model.specs.declared.Guid.{Guid}
use Rattle.model.specs.declared.Instance.{Instance}
use Rattle.model.specs.declared.Sheet.{Sheet}
use Rattle.model.specs.Call.{turn}
use Rattle.model.specs.declared.InstanceCall.{InstanceCall}
use Rattle.model.specs.declared.TrackerCall.{TrackerCall}
use Rattle.model.specs.declared.JoinedCall.{JoinedCall}
use Rattle.model.specs.declared.TrackerCall.TheVariants.{Unmatched as unmatched, LostWithParticipant as lost_with_participant, Expire as expire}
use Rattle.model.specs.declared.JoinedCall.TheVariants.{Admit as admit, Lapse as lapse, Part as part, Depart as depart}
use Rattle.model.specs.Calls.{Call, instances, tracker, joined}
use Rattle.model.specs.Guids.{num, guid_bytes}
use Rattle.model.specs.InstanceCalls.{Turned, with_instances, known, full, spent, crowds, at_limit, late_refusal, instance_turn, instance_call, instances_after, next_after}
use Rattle.model.specs.Instances.{rule, limited_by, has_key}
use Rattle.model.specs.Joined.{admitted, admit_with, after_loss, loss_call}
use Rattle.model.specs.Refusals.{times_used, clocks_used, clocks_used_by, holder_used, holder_fits, kind_ok, acknowledge_ok, nanoseconds_ok, optional, sheet_refusal}
use Rattle.model.specs.State.{State, fresh_state, instance_key, writer_key, Lent, lay_out}
use Rattle.model.specs.Tables.{all, is_some, find}
use Rattle.model.specs.Times.{if_present}
use Rattle.model.specs.WellFormed.{clock_ok, instance_ok, other_handle, handles_distinct, handle_below, instances_ok, writer_ok, writers_ok, within, valid}
use Rattle.model.specs.Writers.{movers, tracker_late, tracker_state, tracker_turn, tracker_call, acknowledgeable}
use Rattle.model.proofs.Fits.{FitsInstance, FitsWriter, FitsGuid}
use Rattle.model.proofs.StateLaws.{Fitting}
use Rattle.octets.proofs.LayLaws.{length-lay}
use native.Mathlib.Nat.{mul-le-mul_right}
use Rattle.model.specs.InstanceRecord.{instance_bytes}
use Rattle.model.specs.WriterRecord.{writer_bytes}
use Rattle.model.proofs.GuidLaws.{length-guid}
use Rattle.model.proofs.InstanceLaws.{length-instance}
use Rattle.model.proofs.WriterLaws.{length-writer}
use Rattle.accounts.specs.Accounts.{Accounts, absent}
use Rattle.accounts.specs.Ranges.{bound, up_from}
use Rattle.model.proofs.Tests.{split}
use Rattle.accounts.proofs.Basics.{never, all_from, all_weaken}
use Rattle.accounts.proofs.EffectLaws.{two-times}
use Rattle.accounts.proofs.InstanceTurns.{admitted-is}
use Rattle.accounts.proofs.InstanceSound.{SoundInstance, Handled, Other, Distinct, SoundInstances, instance-sound, losses_sound, stays-sound, admit-sound}
use Rattle.accounts.proofs.RangeLaws.{sum-zero}
use Rattle.accounts.proofs.SheetLaws.{SheetFits, used-time}
use Rattle.accounts.proofs.Sound.{ok-state, fits_state}
use Rattle.accounts.proofs.Steps.{admit_cases, Sim, advanced, passed, roomy, turned}
use Rattle.accounts.proofs.TurnLaws.{lookup, Within, within-rises, any_lookup}
use Rattle.accounts.proofs.WriterTurns.{SoundWriter}
use Rattle.accounts.proofs.WriterSound.{ok-writer, fits_writer, SoundWriters, all_plain, tracker-sound}

pub record InStep (places : ℕ) (st : State) (acc : Accounts) : Type 0 where
  pub sim : Sim st acc
  pub writers : SoundWriters st
  pub instances : SoundInstances places st

-- ---- an accepted sheet

pub record Accepted (c : Call) (s : Sheet) (st : State) : Type 0 where
  pub times : all nanoseconds_ok (times_used c s) ≡ true
  pub clocks : all clock_ok (clocks_used c s) ≡ true
  pub holder : holder_used c s ≡ true → s.holder.len ≤ 144
  pub kind : kind_ok c s ≡ true
  pub acknowledged : acknowledge_ok c s st ≡ true

used_fits : (b : Bool) (n : ℕ) → (not b || leb n 144) ≡ true → b ≡ true → n ≤ 144
used_fits true n e d = leb-true n 144 e
used_fits false n e d = never (sym d)

accepted-sheet : (c : Call) (s : Sheet) (st : State) → eqb (sheet_refusal c s st) 0 ≡ true → Accepted c s st
unfolding sheet_refusal
accepted-sheet c s st e =
    let a = passed (not (all nanoseconds_ok (times_used c s))) 4 _ refl e in
    let b = passed (not (all clock_ok (clocks_used c s))) 5 _ refl a.1 in
    let d = passed (not (holder_fits c s)) 6 _ refl b.1 in
    let f = passed (not (kind_ok c s)) 7 _ refl d.1 in
    let g = passed (not (acknowledge_ok c s st)) 8 0 refl f.1 in
    record {
      times = not-false (all nanoseconds_ok (times_used c s)) a.0;
      clocks = not-false (all clock_ok (clocks_used c s)) b.0;
      holder = used_fits (holder_used c s) s.holder.len (not-false (holder_fits c s) d.0);
      kind = not-false (kind_ok c s) f.0;
      acknowledged = not-false (acknowledge_ok c s st) g.0;
    }

-- ---- instance calls

writers_unmoved : (st : State) (xs : List Instance) (n : ℕ) → SoundWriters st → SoundWriters (with_instances xs n st)
writers_unmoved st xs n m =
    record { near_alive = m.near_alive; near_not_alive = m.near_not_alive; few = m.few; each = m.each; few_lost = m.few_lost; lost = m.lost }

turn_unmoved : (c : InstanceCall) (s : Sheet) (st : State) → SoundWriters st → SoundWriters (instance_turn c s st).state
unfolding instance_turn
turn_unmoved c s st m = writers_unmoved st (instances_after c s st) (next_after c s st) m

pub record FormedParts (places : ℕ) (st : State) : Type 0 where
  pub writers : SoundWriters st
  pub instances : SoundInstances places st

instance_parts : (places : ℕ) (c : InstanceCall) (s : Sheet) (st : State) → SheetFits s → Accepted (instances c) s st →
    Within instance_key 0 bound st.instances → eqb (instance_call places c s st).answer.number 0 ≡ true →
    FormedParts places st →
    FormedParts places (instance_call places c s st).state
unfolding instance_call
instance_parts places c s st f a w ok m =
    split (limited_by (rule c).reach && at_limit s st)
    (λ l. rw l m)
    (λ l.
    split (eqb (late_refusal places c s st) 0)
    (λ e.
    let r = roomy places c s st e in
    rw (l, e) record {
      writers = turn_unmoved c s st m.writers;
      instances = instance-sound places c s st
          record {
            fits = f;
            place = λ b. leb-false places (length st.instances) (r.room_for_one b);
            handle = r.handles;
            crowd = r.writers;
            times = a.times;
            holder = a.holder;
          } w m.instances;
    })
    (λ e. never (sym (rw (l, e) at ok) ∙ e)))

-- ---- tracker calls

tracker_parts : (places : ℕ) (c : TrackerCall) (s : Sheet) (st : State) → SheetFits s → Accepted (tracker c) s st →
    Within writer_key 0 bound st.writers → eqb (tracker_call c s st).answer.number 0 ≡ true → FormedParts places st →
    FormedParts places (tracker_call c s st).state
unfolding tracker_call tracker_turn
tracker_parts places c s st f a w ok m =
    split (eqb (tracker_late c s st) 0)
    (λ e.
    rw e record {
      writers = tracker-sound c s st record { clocks = a.clocks; guid = f.guid } a.acknowledged e w m.writers;
      instances = unfold tracker_state in stays-sound places st (tracker_state c s st) refl refl m.instances;
    })
    (λ e. never (sym (rw e at ok) ∙ e))

-- ---- joined calls

loss_parts : (places : ℕ) (c : TrackerCall) (gs : List Guid) (s : Sheet) (st : State) → SheetFits s →
    all nanoseconds_ok (optional s.time_1) ≡ true →
    all clock_ok (clocks_used_by c s) ≡ true → acknowledgeable c s st ≡ true → Within writer_key 0 bound st.writers →
    eqb (loss_call c gs s st).answer.number 0 ≡ true → FormedParts places st → FormedParts places (loss_call c gs s st).state
unfolding loss_call after_loss tracker_turn
loss_parts places c gs s st f t k a w ok m =
    split (eqb (tracker_late c s st) 0)
    (λ e.
    rw e record {
      writers =
          writers_unmoved (tracker_state c s st) _ _
          (tracker-sound c s st record { clocks = k; guid = f.guid } a e w m.writers);
      instances =
          unfold tracker_state in losses_sound places gs (if_present s.time_1) st _
          (used-time s.time_1 f.time1 t) refl refl m.instances;
    })
    (λ e. never (sym (rw e at ok) ∙ e))

admit_parts : (places : ℕ) (s : Sheet) (st : State) → SheetFits s → Accepted (joined admit) s st →
    Within instance_key 0 bound st.instances →
    eqb (admit_with places s st (find (has_key s.key) st.instances)).answer.number 0 ≡ true → FormedParts places st →
    FormedParts places (admit_with places s st (find (has_key s.key) st.instances)).state
admit_parts places s st f a w ok m =
    admit_cases (λ (t : Turned). eqb t.answer.number 0 ≡ true → FormedParts places t.state) places s st x
    (λ n e q. m) (λ n e q. never (sym q ∙ e)) (λ e4 e5 e6 e7 q. taken e4 e5 e6) ok
  where
    x : Option Instance
    x = find (has_key s.key) st.instances

    unknown : lookup instance_key (num s.key) st.instances ≡ none → known s st ≡ false
    unknown n = any_lookup instance_key (num s.key) st.instances ∙ ap is_some n

    taken : (not (known s st) && full places st) ≡ false → (not (known s st) && spent st) ≡ false → crowds s x ≡ false →
        FormedParts places (admitted s st).state
    taken e4 e5 e6 =
        record {
          writers = rw (admitted-is s st) (turn_unmoved _ s _ (turn_unmoved _ s _ (turn_unmoved _ s _ (turn_unmoved _ s st m.writers))));
          instances = admit-sound places s st
              record {
                fits = f;
                time1 = (two-times s.time_1 s.time_2 a.times).0;
                time2 = (two-times s.time_1 s.time_2 a.times).1;
                holder = a.holder refl;
                place = λ n. leb-false places (length st.instances) (rw (unknown n) at e4);
                handle = λ n. leb-false (2 ^ 63) st.next_handle (rw (unknown n) at e5);
                crowd = e6;
              } w m.instances;
        }

joined_parts : (places : ℕ) (c : JoinedCall) (s : Sheet) (st : State) → SheetFits s → Accepted (joined c) s st →
    Within instance_key 0 bound st.instances → Within writer_key 0 bound st.writers →
    eqb (turn places (joined c) s st).answer.number 0 ≡ true →
    FormedParts places st → FormedParts places (turn places (joined c) s st).state
joined_parts places admit s st f a w v ok m = admit_parts places s st f a w ok m
joined_parts places lapse s st f a w v ok m =
    loss_parts places expire (movers expire s st.writers) s st f a.times a.clocks refl v ok m
joined_parts places part s st f a w v ok m =
    loss_parts places unmatched (s.guid ∷ []) s st f a.times a.clocks refl v ok m
joined_parts places depart s st f a w v ok m =
    loss_parts places lost_with_participant (s.guid ∷ []) s st f a.times a.clocks refl v ok m

turn_parts : (places : ℕ) (c : Call) (s : Sheet) (st : State) → SheetFits s → Accepted c s st →
    Within instance_key 0 bound st.instances →
    Within writer_key 0 bound st.writers → eqb (turn places c s st).answer.number 0 ≡ true → FormedParts places st →
    FormedParts places (turn places c s st).state
turn_parts places (instances c) s st f a w v ok m = instance_parts places c s st f a w ok m
turn_parts places (tracker c) s st f a w v ok m = tracker_parts places c s st f a v ok m
turn_parts places (joined c) s st f a w v ok m = joined_parts places c s st f a w v ok m

-- ---- an accepted call

pub held_turn : (places : ℕ) (c : Call) (s : Sheet) (st : State) (acc : Accounts) → SheetFits s →
    eqb (sheet_refusal c s st) 0 ≡ true →
    eqb (turn places c s st).answer.number 0 ≡ true → InStep places st acc →
    InStep places (turn places c s st).state (advanced c s (turn places c s st).answer acc)
held_turn places c s st acc f a ok m =
    let p : FormedParts places (turn places c s st).state =
    turn_parts places c s st f (accepted-sheet c s st a) m.sim.instances.rising
    m.sim.writers.rising ok record { writers = m.writers; instances = m.instances } in
    record {
      sim = turned places c s st acc f.key f.guid (all_plain st.writers m.writers.each) m.sim ok;
      writers = p.writers;
      instances = p.instances;
    }

-- ---- well formed, and fit for its bytes

ok_distinct : (xs : List Instance) → Distinct xs → handles_distinct xs ≡ true
unfolding handles_distinct
ok_distinct [] d = refl
ok_distinct (x ∷ xs) d =
    rw (all_from (Other x.handle.0) (other_handle x.handle.0) (λ y o. rw (ne_eqb y.handle.0 x.handle.0 o)) xs
    d.0)
    (ok_distinct xs d.1)

ok-below : (n : ℕ) (x : Instance) → Handled n x → handle_below n x ≡ true
ok-below n x h = rw (le-leb 1 x.handle.0 h.0, lt-ltb x.handle.0 n h.1)

pub held_valid : (places : ℕ) (st : State) (acc : Accounts) → InStep places st acc → valid places st ≡ true
unfolding valid instances_ok writers_ok
held_valid places st acc m =
    rw (
      le-leb 1 st.next_handle m.instances.low,
      le-leb st.next_handle (2 ^ 63) m.instances.high,
      m.writers.near_alive,
      m.writers.near_not_alive,
      le-leb (length st.instances) places m.instances.few,
      within-rises instance_key 0 bound st.instances m.sim.instances.rising,
      all_from SoundInstance instance_ok (λ x q. ok-state x.state q.state) st.instances m.instances.each,
      all_from (Handled st.next_handle) (handle_below st.next_handle) (ok-below st.next_handle) st.instances
          m.instances.below,
      ok_distinct st.instances m.instances.distinct,
      le-leb (length st.writers) 128 m.writers.few,
      within-rises writer_key 0 bound st.writers m.sim.writers.rising,
      all_from SoundWriter writer_ok ok-writer st.writers m.writers.each,
      le-leb (length st.lost) 256 m.writers.few_lost,
    )

both_each : (n : ℕ) (xs : List Instance) → n ≤ 2 ^ 63 → All SoundInstance xs → All (Handled n) xs → All FitsInstance xs
both_each n [] l a b = tt
both_each n (x ∷ xs) l a b = (
  record { key = a.0.key; handle = omega (arith, b.0.1); state = fits_state x.state a.0.state },
  both_each n xs l a.1 b.1,
)

pub held_fits : (places : ℕ) (st : State) (acc : Accounts) → InStep places st acc → Fitting places st
held_fits places st acc m =
    record {
      instances =
          both_each st.next_handle st.instances m.instances.high m.instances.each m.instances.below;
      few_instances = m.instances.few;
      writers = all_weaken SoundWriter FitsWriter fits_writer st.writers m.writers.each;
      few_writers = m.writers.few;
      lost = m.writers.lost;
      few_lost = m.writers.few_lost;
    }

-- the buffers of a state that fits have their lengths
pub record Sizes (places : ℕ) (l : Lent) : Type 0 where
  pub pens : length l.pens ≡ places * 512
  pub writers : length l.writers ≡ 5120
  pub lost : length l.lost ≡ 4096

pub laid_sizes : (places : ℕ) (st : State) (out : List ℕ) → Fitting places st → Sizes places (lay_out places st out)
unfolding lay_out
laid_sizes places st out f =
    record {
      pens = length-lay instance_bytes 512 FitsInstance length-instance (places * 512) st.instances f.instances (mul-le-mul_right 512 f.few_instances);
      writers = length-lay writer_bytes 40 FitsWriter (λ w q. length-writer w) 5120 st.writers f.writers (omega (arith, f.few_writers));
      lost = length-lay guid_bytes 16 FitsGuid (λ g q. length-guid g) 4096 st.lost f.lost (omega (arith, f.few_lost));
    }

-- ---- the fresh state

pub held_fresh : (places : ℕ) → InStep places fresh_state absent
unfolding find within up_from
held_fresh places =
    record {
      sim = record {
        writers = record {
          rising = tt;
          agree = λ j. refl;
          lost = refl;
          acknowledged_alive = refl;
          acknowledged_not_alive = refl;
          last = refl;
          changes = rw (sum-zero 0 bound);
        };
        instances = record { rising = tt; agree = λ j. refl; handles = refl; next = refl };
      };
      writers =
          record { near_alive = refl; near_not_alive = refl; few = omega arith; each = tt; few_lost = omega arith; lost = tt };
      instances = record { low = omega arith; high = omega arith; few = omega arith; each = tt; below = tt; distinct = tt };
    }
