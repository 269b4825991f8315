-- The flags and the writers of an instance, in its record's bytes.
--     alive-flag, dead_flag, view_flag      the kind and the view
--     set-few, members_read                 how many writers there are, and which
--     writes_dead, writes-is                an alive instance that has the GUID
--     rest_part                             the writers' bytes lent as a part
--     part-ok, part-told                    record i of a table lent as a part
--     place_table                           the place of the first of which p holds
use Prim.Native.Nat.{ℕ, zero, suc, ◌+◌, ◌-◌, ◌*◌, ◌/◌, ◌%◌, ◌≤◌, ◌<◌}
use mathlib.Core.Bool.{Bool, true, false}
use mathlib.Core.List.{List}
use mathlib.Core.Path.{◌≡◌, refl, sym, ◌∙◌}
use native.Mathlib.Omega.{arith}
use lib.Dec.{eqb}
use lib.ListN.{length, take, drop, length-drop}
use lib.Seq.{length-take-le, take_all}
use Rattle.octets.specs.Octets.{be}
use Rattle.model.specs.declared.Guid.{Guid}
use Rattle.model.specs.declared.Instance.{Instance}
use Rattle.model.specs.Guids.{guid_of, guids_in}
use Rattle.model.specs.InstanceRecord.{kind_numbered, instance_of}
use Rattle.model.specs.Instances.{is_alive, writers_in}
use Rattle.model.specs.Reads.{used_in, table_of, writes}
use Rattle.model.specs.Sets.{has}
use Rattle.model.specs.WellFormed.{instance_ok}
use Rattle.instance_decoding.specs.Parts.{record_at}
use Rattle.model.proofs.RowLaws.{take_read}
use Rattle.instance_decoding.proofs.Rows.{lent-part}
use Rattle.tables.specs.Places.{place_of}
use Rattle.instance_reads.proofs.Scans.{place_row}
use Rattle.instance_reads.proofs.Stored.{set_len}

-- each number but 0 is a kind that is not alive
not-alive : (n : ℕ) → 1 ≤ n → is_alive (kind_numbered n) ≡ false
not-alive zero h = absurd (omega arith)
not-alive (suc zero) h = refl
not-alive (suc (suc n)) h = refl

module _ (r : List ℕ) (f : ℕ) (ef : f ≡ be 2 r 24) where
  pub alive-flag : f < 16384 → is_alive (instance_of r).state.life.kind ≡ true
  unfolding instance_of
  alive-flag h = let e : f / 16384 ≡ 0 = omega arith in rw (← ef, e)

  pub dead_flag : 16384 ≤ f → is_alive (instance_of r).state.life.kind ≡ false
  unfolding instance_of
  dead_flag h = rw (← ef) (not-alive (f / 16384) (omega arith))

  pub view_flag : (instance_of r).state.life.view_new ≡ eqb (f / 8192 % 2) 1
  unfolding instance_of
  view_flag = rw (← ef)

  len : (instance_of r).state.writers.len ≡ f % 32
  unfolding instance_of
  len = rw (← ef)

  pub set-few : instance_ok (instance_of r) ≡ true → f % 32 ≤ 16
  set-few ok = omega (arith, set_len (instance_of r) ok, len)

  pub members_read : f % 32 ≤ 16 → writers_in (instance_of r).state ≡ guids_in (f % 32) (drop 256 r)
  unfolding instance_of
  members_read h = rw (← ef) (take_read guid_of 16 (f % 32) 16 (drop 256 r) h)

  module _ (g : Guid) where
    pub writes_dead : 16384 ≤ f → false ≡ writes g (instance_of r)
    writes_dead h = rw (dead_flag h)

    pub writes-is : f < 16384 → f % 32 ≤ 16 → (b : Bool) → b ≡ has g (guids_in (f % 32) (drop 256 r)) → b ≡ writes g (instance_of r)
    writes-is h l b e = rw (alive-flag h, members_read l) e

-- what is lent from byte 256 on: the writers
pub rest_part : (r : List ℕ) → length r ≡ 512 → take (length r - 256) (drop 256 r) ≡ drop 256 r
rest_part r e = take_all (length r - 256) (drop 256 r) (omega (arith, length-drop 256 r))

-- ---- in a table

pub part-ok : (t : List ℕ) (i : ℕ) → i * 512 + 512 ≤ length t → instance_ok (instance_of (record_at t i)) ≡ true →
    (length (take (i * 512 + 512 - i * 512) (drop (i * 512) t)) ≡ 512)
    × (instance_ok (instance_of (take (i * 512 + 512 - i * 512) (drop (i * 512) t))) ≡ true)
part-ok t i h v =
    rw (lent-part (i * 512) 512 t) (length-take-le 512 (drop (i * 512) t) (omega (arith, length-drop (i * 512) t)), v)

-- what was told of a record that was lent as a part
pub part-told : (p : Instance → Bool) (t : List ℕ) (i : ℕ) (b : Bool) → b ≡ p (instance_of (take (i * 512 + 512 - i * 512) (drop (i * 512) t))) →
    p (instance_of (record_at t i)) ≡ b
part-told p t i b e = sym (e ∙ rw (lent-part (i * 512) 512 t))

pub place_table : (places : ℕ) (t : List ℕ) (p : Instance → Bool) (count i : ℕ) → count ≡ used_in places t → i ≤ count →
    ((j : ℕ) → j < i → p (instance_of (record_at t j)) ≡ false) → (i < count → p (instance_of (record_at t i)) ≡ true) →
    i ≡ place_of p (table_of places t)
unfolding table_of
place_table places t p count i c l b e =
    place_row instance_of 512 (used_in places t) t p i (omega arith) b (λ m. e (omega arith))
