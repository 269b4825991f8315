-- The loss of several writers over the records of a table.
--     lost-one                    one record of the pass from its parts
--     losses_passed               all at once, or one after the other
--     none_passed                 a list with no writer
--     gones_back, one-gone, one-listed
--                                 a list as bytes; one of one writer
--     drop-passed                 code 7 for the writer of a sheet
--     loss_bounded, by_bounded    how much an instance counts at most
use Prim.Native.Nat.{ℕ, ◌+◌, ◌-◌, ◌*◌, ◌/◌, ◌≤◌, ◌<◌}
use mathlib.Core.Bool.{Bool, true, false, ◌&&◌, cond}
use mathlib.Core.List.{List, [], ◌∷◌, append-nil}
use mathlib.Core.Option.{some}
use mathlib.Core.Path.{◌≡◌, refl, sym, ap, ◌∙◌}
use native.Mathlib.Omega.{arith}
use borrow.Rule.Slice.PartMut.{put_mid}
use lib.ListN.{length, replicate}
use Rattle.octets.specs.Lay.{All, rows}
use Rattle.octets.specs.Octets.{put}
use Rattle.octets.specs.Patch.{patch}
use Rattle.octets.proofs.PatchLaws.{puts-patch}
use Rattle.model.specs.declared.Guid.{Guid}
use Rattle.model.specs.declared.Instance.{Instance}
use Rattle.model.specs.declared.InstanceCall.TheVariants.{DropWriter}
use Rattle.model.specs.declared.InstanceHandle.{InstanceHandle}
use Rattle.model.specs.declared.InstanceState.{InstanceState}
use Rattle.model.specs.declared.MaybeTime.{MaybeTime}
use Rattle.model.specs.declared.Sheet.{Sheet}
use Rattle.model.specs.Call.{list_in}
use Rattle.model.specs.Guids.{guid_of, guids_in, guid_bytes, guids_bytes}
use Rattle.model.specs.InstanceCalls.{handle_bytes}
use Rattle.model.specs.InstanceRecord.{bit, instance_of, instance_bytes}
use Rattle.model.specs.Instances.{owns, writer_dropped}
use Rattle.model.specs.Joined.{left_without, left_without_all, left_by_one, clearings}
use Rattle.model.specs.Layout.{read_rows}
use Rattle.model.specs.State.{instances_in}
use Rattle.model.specs.Tables.{above, pick, rising, sift}
use Rattle.model.specs.Times.{if_present}
use Rattle.model.proofs.Fits.{FitsGuid}
use Rattle.model.proofs.GuidLaws.{length_guids, guids_back}
use Rattle.model.proofs.HandleLists.{list_start}
use Rattle.model.proofs.RowLaws.{length_read}
use Rattle.writer_set.specs.Places.{Sound}
use Rattle.instance_decoding.specs.Parts.{record_at}
use Rattle.instance_decoding.proofs.Rows.{put_back}
use Rattle.instance_edits.specs.Edits.{changed}
use Rattle.instance_edits.specs.Losses.{owned_by}
use Rattle.instance_edits.proofs.LossForms.{left_form, drop_form, cleared_form, listed_form, loss_form}
use Rattle.instance_loss.specs.declared.Told.{Told}
use Rattle.instance_loss.specs.Lost.{lost_by, told_of}
use Rattle.writer_set_bytes.specs.Lists.{gones_in, Listed}
use Rattle.instance_pass.specs.declared.PassCounts.{PassCounts}
use Rattle.instance_pass.specs.Acts.{Act, Bounded}
use Rattle.instance_pass.specs.Passes.{remaining, listing, amount, total, UsableIn, RisesIn, Editable, TookOne, Passed, with_told}
use Rattle.instance_pass.specs.Steps.{call_act, loss_act, loss_by}
use Rattle.instance_pass.proofs.ActLaws.{Agree, passed_as}
use Rattle.instance_pass.proofs.StepLaws.{bit_le}

-- ---- one record

pub lost-one : (clears : Bool) (gone : List Guid) (at : MaybeTime) (i : ℕ) (t out t' out' p r : List ℕ) (c c' : PassCounts) (told : Told) (h : InstanceHandle) → c.kept ≡ i →
    p ≡ record_at t i → h ≡ (instance_of (record_at t i)).handle → t' ≡ put_mid (i * 512) (i * 512 + 512 - i * 512) t r →
    (r ≡ instance_bytes (changed (lost_by clears gone at) (instance_of p))) × (told ≡ told_of clears gone (instance_of p).state) →
    out' ≡ cond told.left (put 8 out (c.listed * 8) h.0) out → c' ≡ with_told c told →
    TookOne (loss_by clears gone at) (instance_of (record_at t i)) t out c t' out' c'
lost-one clears gone at i t out t' out' p r c c' told h k e eh v w n q =
    let x : Instance = instance_of (record_at t i) in
    let b : r ≡ instance_bytes (changed (lost_by clears gone at) x) = w.0 ∙ ap (λ (z : List ℕ). instance_bytes (changed (lost_by clears gone at) (instance_of z))) e in
    let d : told ≡ told_of clears gone x.state = w.1 ∙ ap (λ (z : List ℕ). told_of clears gone (instance_of z).state) e in
    record {
      table = v ∙ put_back (i * 512) 512 t r ∙ ap (λ (z : List ℕ). patch t (i * 512) 512 z) b
          ∙ ap (λ (j : ℕ). patch t (j * 512) 512 (instance_bytes (changed (lost_by clears gone at) x))) (sym k);
      list = n ∙ ap (λ (u : Told). cond u.left (put 8 out (c.listed * 8) h.0) out) d ∙ rw eh;
      kept = ap (λ (u : PassCounts). u.kept) q;
      listed = ap (λ (u : PassCounts). u.listed) q ∙ ap (λ (u : Told). c.listed + bit u.left) d;
      counted = ap (λ (u : PassCounts). u.counted) q ∙ ap (λ (u : Told). c.counted + bit u.cleared) d;
    }

-- ---- how much an instance counts

clearings-le : (gone : List Guid) (at : MaybeTime) (x : InstanceState) → clearings gone at x ≤ length gone
unfolding clearings
clearings-le [] at x = omega arith
clearings-le (g ∷ gs) at x = omega (arith, bit_le (owns g (writer_dropped g at x).owner), clearings-le gs at (left_without g at x))

pub loss_bounded : (gone : List ℕ) (at : MaybeTime) → length gone ≤ 4096 → Bounded (loss_act (gones_in gone) at)
loss_bounded gone at h x = omega (arith, clearings-le (gones_in gone) at x, length_read guid_of 16 (length gone / 16) gone)

pub by_bounded : (clears : Bool) (gone : List Guid) (at : MaybeTime) → Bounded (loss_by clears gone at)
by_bounded clears gone at x = omega (arith, bit_le (clears && owned_by gone x.owner))

-- ---- the whole pass

agree-all : (a b : Act) → ((x : Instance) → Sound x.state.writers → RisesIn x → Agree a b x) → (xs : List Instance) → All UsableIn xs → All RisesIn xs → All (Agree a b) xs
agree-all a b f [] u r = tt
agree-all a b f (x ∷ xs) u r = (f x u.0.writers r.0, agree-all a b f xs u.1 r.1)

module _ (count : ℕ) (t out t' out' : List ℕ) (r : PassCounts) (d : Editable count t) where
  pub losses_passed : (gone : List Guid) (at : MaybeTime) → Passed (loss_by true gone at) (instances_in count t) t out t' out' r →
      Passed (loss_act gone at) (instances_in count t) t out t' out' r
  losses_passed gone at p =
      passed_as (loss_by true gone at) (loss_act gone at) (instances_in count t) t out t' out' r
      (agree-all (loss_by true gone at) (loss_act gone at)
      (λ x s u.
      record {
        left = ap (λ (y : InstanceState). some y) (sym (loss_form gone at x.state s u));
        listed = sym (listed_form gone at x.state s u);
        counted = sym (cleared_form gone at x.state);
      })
      (instances_in count t) d.usable d.rises) p

  pub drop-passed : (s : Sheet) (gone : List Guid) (at : MaybeTime) → gone ≡ s.guid ∷ [] → at ≡ if_present s.time_1 →
      Passed (loss_by false gone at) (instances_in count t) t out t' out' r → Passed (call_act DropWriter s) (instances_in count t) t out t' out' r
  drop-passed s gone at e f p =
      passed_as (loss_by false gone at) (call_act DropWriter s) (instances_in count t) t out t' out' r
      (agree-all (loss_by false gone at) (call_act DropWriter s)
      (λ x u v.
      rw (e, f)
      record {
        left = ap (λ (y : InstanceState). some y) (sym (drop_form s.guid (if_present s.time_1) x.state u v));
        listed = sym (left_form s.guid x.state v);
        counted = refl;
      })
      (instances_in count t) d.usable d.rises) p

-- ---- a list of one

-- GUIDs laid out are read back
pub gones_back : (gs : List Guid) → All FitsGuid gs → gones_in (guids_bytes gs) ≡ gs
gones_back gs f =
    let n : length (guids_bytes gs) / 16 ≡ length gs = omega (arith, length_guids gs) in
    rw n (ap (guids_in (length gs)) (sym (append-nil (guids_bytes gs))) ∙ guids_back gs [] f)

pub one-gone : (g : Guid) (b : List ℕ) → FitsGuid g → b ≡ put 8 (put 8 (replicate 16 0) 0 g.hi) 8 g.lo → gones_in b ≡ g ∷ []
unfolding rows guid_bytes
one-gone g b f e =
    let stored : b ≡ guid_bytes g = e ∙ puts-patch (8 ∷ 8 ∷ []) (g.hi ∷ g.lo ∷ []) (replicate 16 0) 0 0 (omega arith) tt ∙ append-nil _ in
    ap gones_in (stored ∙ sym (append-nil (guid_bytes g))) ∙ gones_back (g ∷ []) (f, tt)

pub one-listed : (g : Guid) (b : List ℕ) → length b ≡ 16 → gones_in b ≡ g ∷ [] → Listed b
unfolding rising above
one-listed g b n e = record { few = omega (arith, n); rises = rw e }

-- ---- nobody is lost

module _ (at : MaybeTime) where
  none_left : (xs : List Instance) → sift (remaining (loss_act [] at)) xs ≡ xs
  unfolding sift left_without_all
  none_left [] = refl
  none_left (x ∷ xs) = ap (λ (ys : List Instance). x ∷ ys) (none_left xs)

  none_listed : (xs : List Instance) → pick (listing (loss_act [] at)) xs ≡ []
  unfolding pick left_by_one
  none_listed [] = refl
  none_listed (x ∷ xs) = none_listed xs

  none_counted : (xs : List Instance) → total (amount (loss_act [] at)) xs ≡ 0
  unfolding total clearings
  none_counted [] = refl
  none_counted (x ∷ xs) = omega (arith, none_counted xs)

  pub none_passed : (gone : List ℕ) (count : ℕ) (t out : List ℕ) → length gone < 16 →
      Passed (loss_act (gones_in gone) at) (instances_in count t) t out t out record { kept = count; listed = 0; counted = 0 }
  unfolding read_rows
  none_passed gone count t out h =
      let z : length gone / 16 ≡ 0 = omega arith in
      let xs : List Instance = instances_in count t in
      rw z
      record {
        laid = λ places l. rw (none_left xs) l;
        list = sym (ap (λ (ys : List Instance). list_in (handle_bytes ys) out) (none_listed xs) ∙ sym (list_start out));
        kept = sym (ap length (none_left xs) ∙ length_read instance_of 512 count t);
        listed = sym (ap length (none_listed xs));
        counted = sym (none_counted xs);
      }
