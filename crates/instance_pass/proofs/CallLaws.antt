-- The calls on every instance, and the loss of writers: what they leave of the state, from what a pass leaves.
--     by_report, by_owner, by_prefix
--                            the pass of a call, by what it reports
--     Few, passed-few        a tally is no more than the instances allow
--     Every, every-turn      model's call, by the steps of a pass
--     every-few, every-left  the bounds of its tally; the call from its pass
--     Lost, lost             what model says of the loss of writers, by the steps of a pass
use Prim.Native.Nat.{ℕ, ◌+◌, ◌*◌, ◌≤◌}
use mathlib.Core.Bool.{Bool, true, false}
use mathlib.Core.List.{List, [], ◌∷◌}
use mathlib.Core.Path.{◌≡◌, refl, sym, ap, ◌∙◌}
use native.Mathlib.Omega.{arith}
use lib.ListN.{length}
use Rattle.octets.specs.Bounds.{Bytes}
use Rattle.model.specs.declared.Answer.{Answer}
use Rattle.model.specs.declared.Guid.{Guid}
use Rattle.model.specs.declared.Instance.{Instance}
use Rattle.model.specs.declared.InstanceCall.{InstanceCall}
use Rattle.model.specs.declared.InstanceCall.TheVariants.{DropWriter, UpdateOwnerStrength, ClearOwnerForWriter, ClearOwnerForWriterPrefix, Autopurge}
use Rattle.model.specs.declared.InstanceHandle.{InstanceHandle}
use Rattle.model.specs.declared.MaybeTime.{MaybeTime}
use Rattle.model.specs.declared.Report.{Report}
use Rattle.model.specs.declared.Report.TheVariants.{Nothing, Left, Owner, Prefix, Purge}
use Rattle.model.specs.declared.Sheet.{Sheet}
use Rattle.model.specs.Answers.{counting}
use Rattle.model.specs.Call.{list_in}
use Rattle.model.specs.InstanceCalls as calls
use Rattle.model.specs.InstanceCalls.{begun, next_after, instances_after, late_refusal, instance_turn, instance_call, handle_bytes, owned_by, prefix_owned, is_purged}
use Rattle.model.specs.InstanceRecord.{instance_of}
use Rattle.model.specs.Instances.{rule, on_every, owner_cleared, prefix_cleared}
use Rattle.model.specs.Joined.{after_loss, clearings, clearings_in}
use Rattle.model.specs.State.{instances_in}
use Rattle.model.specs.Tables.{pick, sift}
use Rattle.model.proofs.Keeps.{every_cases}
use Rattle.model.proofs.RowLaws.{length_read}
use Rattle.model.proofs.Tests.{split}
use Rattle.model.proofs.TableLaws.{length-sift}
use Rattle.instance_table.proofs.LaidOut.{table-formed, table-laid}
use Rattle.instance_pass.specs.declared.PassCounts.{PassCounts}
use Rattle.instance_pass.specs.Acts.{Act, Bounded}
use Rattle.instance_pass.specs.Steps.{call_act, loss_act, owner_act}
use Rattle.instance_pass.specs.Passes.{remaining, listing, amount, total, Passed}
use Rattle.instance_table.specs.TableCalls.{TableFormed, state_with}
use Rattle.instance_pass.specs.EveryCalls.{answer_as, LeavesTableAndOut}
use Rattle.instance_pass.proofs.EditLaws.{table_editable}
use Rattle.instance_pass.proofs.ListLaws.{total-pick}
use Rattle.instance_pass.proofs.StepLaws.{call_bounded}

-- ---- a tally is bounded

length-pick : (q : Instance → Bool) (xs : List Instance) → length (pick q xs) ≤ length xs
unfolding pick
length-pick q [] = omega arith
length-pick q (x ∷ xs) = split (q x) (λ e. rw e (omega (arith, length-pick q xs))) (λ e. rw e (omega (arith, length-pick q xs)))

total-le : (a : Instance → ℕ) → ((x : Instance) → a x ≤ 256) → (xs : List Instance) → total a xs ≤ length xs * 256
unfolding total
total-le a h [] = omega arith
total-le a h (x ∷ xs) = omega (arith, h x, total-le a h xs)

pub record Few (r : PassCounts) (n : ℕ) : Type 0 where
  pub kept : r.kept ≤ n
  pub listed : r.listed ≤ n
  pub counted : r.counted ≤ n * 256

pub passed-few : (a : Act) (xs : List Instance) (t out t' out' : List ℕ) (r : PassCounts) → Bounded a → Passed a xs t out t' out' r → Few r (length xs)
passed-few a xs t out t' out' r h d =
    record {
      kept = omega (arith, d.kept, length-sift (remaining a) xs);
      listed = omega (arith, d.listed, length-pick (listing a) xs);
      counted = omega (arith, d.counted, total-le (amount a) (λ x. h x.state) xs);
    }

-- ---- the call, by what it reports

abbrev reporting : Report → InstanceCall
reporting Nothing = UpdateOwnerStrength
reporting Left = DropWriter
reporting Owner = ClearOwnerForWriter
reporting Prefix = ClearOwnerForWriterPrefix
reporting Purge = Autopurge

reported : (c : InstanceCall) → on_every c ≡ true → c ≡ reporting (rule c).reports
reported c h = every_cases (λ (d : InstanceCall). d ≡ reporting (rule d).reports) c h refl refl refl refl refl

module _ (c : InstanceCall) (s : Sheet) (k : Report) (h : on_every c ≡ true) (e : k ≡ (rule c).reports) (xs : List Instance) (t out t' out' : List ℕ) (r : PassCounts) where
  pub by_report : (v : Report) → k ≡ v → Passed (call_act (reporting v) s) xs t out t' out' r → Passed (call_act c s) xs t out t' out' r
  by_report v q p =
      let d : c ≡ reporting v = reported c h ∙ ap reporting (sym e ∙ q) in
      rw d p

  pub by_owner : k ≡ Owner → Passed (owner_act false s.guid) xs t out t' out' r → Passed (call_act c s) xs t out t' out' r
  unfolding owner_cleared
  by_owner q p = by_report Owner q p

  pub by_prefix : k ≡ Prefix → Passed (owner_act true s.guid) xs t out t' out' r → Passed (call_act c s) xs t out t' out' r
  unfolding prefix_cleared
  by_prefix q p = by_report Prefix q p

-- ---- model's call

pub record Every (places : ℕ) (s : Sheet) (xs : List Instance) (next : ℕ) (c : InstanceCall) : Type 0 where
  pub answer : answer_as (rule c).reports (length (pick (listing (call_act c s)) xs)) (total (amount (call_act c s)) xs) ≡ (instance_call places c s (state_with xs next)).answer
  pub instances : sift (remaining (call_act c s)) xs ≡ (instance_call places c s (state_with xs next)).state.instances
  pub same : next ≡ (instance_call places c s (state_with xs next)).state.next_handle
  pub list : handle_bytes (pick (listing (call_act c s)) xs) ≡ (instance_call places c s (state_with xs next)).list

pub every-turn : (places : ℕ) (c : InstanceCall) (s : Sheet) (xs : List Instance) (next : ℕ) → on_every c ≡ true → Every places s xs next c
unfolding instance_call late_refusal instance_turn begun next_after instances_after
every-turn places c s xs next e =
    every_cases (Every places s xs next) c e
    record { answer = refl; instances = refl; same = refl; list = refl }
    record { answer = refl; instances = refl; same = refl; list = refl }
    record { answer = ap counting (total-pick (owned_by s) xs); instances = refl; same = refl; list = refl }
    record { answer = ap counting (total-pick (prefix_owned s) xs); instances = refl; same = refl; list = refl }
    record { answer = ap counting (total-pick (is_purged s) xs); instances = refl; same = refl; list = refl }

-- the bounds of its tally
pub every-few : (places count next : ℕ) (c : InstanceCall) (s : Sheet) (t out t' out' : List ℕ) (r : PassCounts) → TableFormed places count next t →
    Passed (call_act c s) (instances_in count t) t out t' out' r → Few r 128
every-few places count next c s t out t' out' r d p =
    let h = table_editable places count next t d in
    let n : length (instances_in count t) ≡ count = length_read instance_of 512 count t in
    let w = passed-few (call_act c s) (instances_in count t) t out t' out' r (call_bounded c s) p in
    record { kept = omega (arith, w.kept, h.few); listed = omega (arith, w.listed, h.few); counted = omega (arith, w.counted, h.few) }

-- the call from its pass
pub every-left : (places count : ℕ) (c : InstanceCall) (s : Sheet) (next : InstanceHandle) (t out t' out' : List ℕ) (r : PassCounts) (a : Answer) → on_every c ≡ true →
    Bytes t → TableFormed places count next.0 t →
    Passed (call_act c s) (instances_in count t) t out t' out' r →
    a ≡ answer_as (rule c).reports r.listed r.counted →
    LeavesTableAndOut places (instance_call places c s (state_with (instances_in count t) next.0)) out record { answer = a; count = r.kept; next_handle = next } t' out'
every-left places count c s next t out t' out' r a e b d p q =
    let v = every-turn places c s (instances_in count t) next.0 e in
    record {
      answer = q ∙ rw (p.listed, p.counted) v.answer;
      count = p.kept ∙ ap length v.instances;
      next = v.same;
      laid = rw v.instances at (p.laid places (table-laid places count next.0 t d.size b (table-formed places count next.0 t d.formed)));
      list = p.list ∙ ap (λ (l : List ℕ). list_in l out) v.list;
    }

-- ---- the loss of writers after a tracker call

pub record Lost (gone : List Guid) (at : MaybeTime) (T : calls.Turned) : Type 0 where
  pub instances : sift (remaining (loss_act gone at)) T.state.instances ≡ (after_loss gone at T).state.instances
  pub list : handle_bytes (pick (listing (loss_act gone at)) T.state.instances) ≡ (after_loss gone at T).list
  pub counted : total (amount (loss_act gone at)) T.state.instances ≡ clearings_in gone at T.state.instances

loss_total : (gone : List Guid) (at : MaybeTime) (xs : List Instance) → total (amount (loss_act gone at)) xs ≡ clearings_in gone at xs
unfolding total clearings_in
loss_total gone at [] = refl
loss_total gone at (x ∷ xs) = ap (λ (n : ℕ). clearings gone at x.state + n) (loss_total gone at xs)

pub lost : (gone : List Guid) (at : MaybeTime) (T : calls.Turned) → Lost gone at T
unfolding after_loss
lost gone at T = record { instances = refl; list = refl; counted = loss_total gone at T.state.instances }
