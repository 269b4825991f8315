-- A record whose set loses the writers of a list.
--     set-part           the set of a record, lent as a part of its own
--     set_filled         it is that of the instance
--     set_back           the record when the part is back
--     flags_kept         its flags are still those of the instance
--     dropped_left       what is left once the flags are settled
use Prim.Native.Nat.{ℕ, ◌-◌, ◌%◌, ◌≤◌, ◌<◌}
use mathlib.Core.Bool.{Bool}
use mathlib.Core.List.{List, [], ◌++◌, append-nil, append_assoc}
use mathlib.Core.Path.{◌≡◌, refl, sym, ap, ◌∙◌}
use native.Mathlib.Omega.{arith}
use borrow.Rule.Slice.PartMut.{put_mid}
use lib.ListN.{length, take, drop, length-append, length-drop}
use lib.Seq.{take_all, take_at, drop-length}
use Rattle.octets.specs.Bounds.{Bytes}
use Rattle.octets.specs.Patch.{fields}
use Rattle.octets.proofs.PatchLaws.{length_fields}
use Rattle.model.specs.declared.Guid.{Guid}
use Rattle.model.specs.declared.Instance.{Instance}
use Rattle.model.specs.declared.MaybeTime.{MaybeTime}
use Rattle.model.specs.Guids.{guid_of, guids_in, guids_bytes}
use Rattle.model.specs.InstanceRecord.{flags_at, instance_of, instance_bytes, instance_values, instance_widths}
use Rattle.model.specs.Instances.{writers_in}
use Rattle.model.proofs.GuidLaws.{bytes_drop, guids_forth}
use Rattle.model.proofs.InstanceLaws.{instance_fits, instance_forth}
use Rattle.model.proofs.RowLaws.{length_read, take_read}
use Rattle.instance_decoding.proofs.Rows.{put_back}
use Rattle.writer_set.specs.Places.{padded}
use Rattle.writer_set_bytes.specs.Others.{others}
use Rattle.writer_set_bytes.specs.Walks.{Filled}
use Rattle.writer_set_bytes.proofs.SideBySide.{length-others}
use Rattle.instance_edits.specs.Edits.{changed, Formed, Settled, unsettled}
use Rattle.instance_edits.specs.Losses.{emptied_by, dropped_of}
use Rattle.instance_edits.proofs.RecordEdits.{flags_in, flags_old}

module _ (r : List ℕ) (bytes : Bytes r) (f : Formed r) where
  abbrev x : Instance
  x = instance_of r

  abbrev n : ℕ
  n = flags_at r % 32

  abbrev set : List ℕ
  set = drop 256 r

  pub len_is : x.state.writers.len ≡ n
  unfolding instance_of
  len_is = refl

  whole : instance_bytes x ≡ r
  whole = instance_forth r bytes f.size f.kind

  wide : length set ≡ 256
  wide = omega (arith, length-drop 256 r, f.size)

  pub set-part : take (512 - 256) set ≡ set
  set-part = take_all 256 set (omega (arith, wide))

  pub set_guids : guids_in n set ≡ writers_in x.state
  unfolding instance_of
  set_guids = sym (take_read guid_of 16 n 16 set (omega (arith, f.sound.few, len_is)))

  items_are : guids_in 16 set ≡ x.state.writers.items
  unfolding instance_of
  items_are = refl

  pub set_filled : Filled n set
  set_filled =
      record {
        few = omega (arith, f.sound.few, len_is);
        laid = sym (take_all 256 set (omega (arith, wide))) ∙ sym (guids_forth 16 set (bytes_drop 256 r bytes) (omega (arith, wide)))
            ∙ ap guids_bytes (items_are ∙ f.sound.nils ∙ ap padded (sym set_guids));
        rises = rw set_guids f.rises;
      }

  module _ (o : List Guid) where
    pub set_back : (r' : List ℕ) → r' ≡ put_mid 256 (512 - 256) r (guids_bytes (padded o)) → r' ≡ unsettled o x
    unfolding unsettled instance_bytes
    set_back r' e =
        let fs : List ℕ = fields instance_widths (instance_values x) in
        let h : List ℕ = x.state.holder.bytes in
        let s : List ℕ = guids_bytes x.state.writers.items in
        let a : length fs ≡ 112 = length_fields instance_widths (instance_values x) tt in
        let b : length h ≡ 144 = (instance_fits r bytes f.size).state.holder.size in
        let c : length (fs ++ h) ≡ 256 = omega (arith, length-append fs h) in
        let t : take 256 r ≡ fs ++ h = ap (take 256) (sym whole ∙ sym (append_assoc fs h s)) ∙ take_at (fs ++ h) s 256 c in
        let d : drop 512 r ≡ [] = ap (λ (k : ℕ). drop k r) (sym f.size) ∙ drop-length r in
        e ∙ put_back 256 256 r (guids_bytes (padded o)) ∙ rw (t, d, append-nil (guids_bytes (padded o))) (append_assoc fs h (guids_bytes (padded o)))

    pub flags_kept : (r' : List ℕ) → r' ≡ unsettled o x → flags_at r' ≡ flags_at r
    flags_kept r' e =
        let m : x.state.writers.len < 32 = omega (arith, f.sound.few) in
        ap flags_at e ∙ flags_old o x m ∙ sym (flags_in x m) ∙ ap flags_at whole

  -- the part of the set, as the flags v tell of it
  abbrev part : List ℕ
  part = take 256 set

  pub part_filled : (v : ℕ) → v ≡ flags_at r → Filled (v % 32) part
  part_filled v e = rw (e, set-part) set_filled

  module _ (v k : ℕ) (gone : List Guid) (set' : List ℕ) (e : v ≡ flags_at r) (c : k ≡ length (others gone (guids_in (v % 32) part)))
      (b : set' ≡ guids_bytes (padded (others gone (guids_in (v % 32) part)))) where
    abbrev o : List Guid
    o = others gone (writers_in x.state)

    others_are : others gone (guids_in (v % 32) part) ≡ o
    others_are = rw (e, set-part) (ap (others gone) set_guids)

    is-unsettled : put_mid 256 256 r set' ≡ unsettled o x
    is-unsettled = set_back o (put_mid 256 256 r set') (ap (put_mid 256 256 r) (b ∙ ap (λ (s : List Guid). guids_bytes (padded s)) others_are))

    pub flags_stay : flags_at (put_mid 256 256 r set') ≡ v
    flags_stay = flags_kept o (put_mid 256 256 r set') is-unsettled ∙ sym e

    pub count-few : k ≤ v % 32
    count-few = omega (arith, c, length-others gone (guids_in (v % 32) part), length_read guid_of 16 (v % 32) part)

    pub dropped_left : (at : MaybeTime) (s : List ℕ) (left : Bool) → Settled (v % 32) k at (put_mid 256 256 r set') s left →
        (s ≡ instance_bytes (changed (dropped_of gone at) x)) × (left ≡ emptied_by gone x.state)
    dropped_left at s left t =
        t x o is-unsettled f.sound (len_is ∙ rw e) (sym (c ∙ ap length others_are))
