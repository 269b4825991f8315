-- The writers that expire declared, while the loop runs, over plain variables.
--     lay_push                          a record written behind the last is one record more
--     Declaring                         table, Lost and last writer at the loop's head; declaring_start, declaring_room,
--                                       declaring_alive, declared, passed and declared_end are its laws
--     nobody                            where nobody expires, nothing changes
use Prim.Native.Nat.{ℕ, ◌+◌, ◌-◌, ◌*◌, ◌≤◌, ◌<◌}
use mathlib.Core.Bool.{Bool, true, false, cond}
use mathlib.Core.Path.{◌≡◌, refl, sym, ap, ◌∙◌}
use mathlib.Core.List.{List, [], ◌∷◌, ◌++◌, map, append_assoc, append-nil}
use native.Mathlib.Nat.{add-mul}
use native.Mathlib.Omega.{arith}
use lib.Dec.{leb}
use lib.ListN.{length, take, get_or, replicate, length-map, length-append, length-replicate, replicate-append-replicate}
use lib.Seq.{take_all}
use Rattle.octets.specs.Bounds.{Bytes}
use Rattle.octets.specs.Lay.{rows, lay, All}
use Rattle.octets.proofs.LayLaws.{rows_append, length-rows}
use Rattle.octets.specs.Patch.{patch}
use Rattle.octets.proofs.PatchLaws.{patch-at, length-patch}
use Rattle.model.specs.declared.Guid.{Guid}
use Rattle.std.specs.Prelude.{Some}
use Rattle.model.specs.declared.Writer.{Writer}
use Rattle.model.specs.Guids.{guid_at, guid_of, guid_bytes, guids_in}
use Rattle.model.specs.State.{writers_in, lost_of, LastWriter}
use Rattle.model.specs.Tables.{pick}
use Rattle.model.specs.Writers.{is_alive_state, leased, due_at, expires, expired, guid_in, last_after}
use Rattle.model.specs.WriterRecord.{writer_of, writer_bytes}
use Rattle.model.proofs.GuidLaws.{length-guid, guid-part}
use Rattle.model.proofs.RowLaws.{length_read}
use Rattle.model.proofs.Tests.{both}
use Rattle.writer_record.specs.Records.{lapsed}
use Rattle.writer_pass.specs.Passes.{writer_in, Sound}
use Rattle.writer_pass.proofs.Passing.{Amid, amid_from, amid_read, amid_put, amid_kept, amid_end}
use Rattle.writer_pass.proofs.Picks.{take_more, pick-part, count_snoc, mapped_snoc, last_snoc}

-- ---- a record more

module _ {A : Type 0} (row : A → List ℕ) (size : ℕ) (P : A → Type 0) (width : (x : A) → P x → length (row x) ≡ size) where
  pub lay_push : (n : ℕ) (a : List A) (y : A) → All P a → length a * size + size ≤ n →
      patch (lay row size n a) (length a * size) size (row y) ≡ lay row size n (a ++ y ∷ [])
  unfolding lay rows
  lay_push n a y ha h =
      let k : ℕ = n - length (a ++ y ∷ []) * size in
      let e : length (a ++ y ∷ []) * size ≡ length a * size + 1 * size = rw (length-append a (y ∷ [])) (add-mul (length a) 1 size) in
      let less : n - length a * size ≡ size + k = omega (arith, e) in
      rw (rows_append row a (y ∷ []), append-nil (row y), append_assoc (rows row a) (row y) (replicate k 0), less, ← replicate-append-replicate {A = ℕ} size k 0)
      (patch-at (rows row a) (replicate size 0) (replicate k 0) (length a * size) size (row y) (length-rows row size P width a ha) (length-replicate size 0))

-- ---- Lost

abbrev pub AnyGuid : Guid → Type 0
AnyGuid g = Unit {0}

pub wide-guid : (g : Guid) → AnyGuid g → length (guid_bytes g) ≡ 16
wide-guid g u = length-guid g

pub any_guids : (gs : List Guid) → All AnyGuid gs
any_guids [] = tt
any_guids (g ∷ gs) = (tt, any_guids gs)

pub guid-in : (t : List ℕ) (i : ℕ) → guid_at t (i * 40) ≡ (writer_in t i).guid
unfolding writer_of
guid-in t i = sym (guid-part 40 (i * 40) t (omega arith))

-- ---- where nobody expires

pub nobody : (clock : ℕ) (ws : List Writer) → length (pick (expires clock) ws) ≡ 0 → (pick (expires clock) ws ≡ []) × (map (expired clock) ws ≡ ws)
unfolding pick expired
nobody clock [] e = (refl, refl)
nobody clock (w ∷ ws) e = each (nobody clock ws) (expires clock w) refl e
  where
    each : (length (pick (expires clock) ws) ≡ 0 → (pick (expires clock) ws ≡ []) × (map (expired clock) ws ≡ ws)) → (b : Bool) → expires clock w ≡ b → length (cond b (w ∷ pick (expires clock) ws) (pick (expires clock) ws)) ≡ 0 →
        (cond b (w ∷ pick (expires clock) ws) (pick (expires clock) ws) ≡ []) × (expired clock w ∷ map (expired clock) ws ≡ w ∷ ws)
    each rest true p e = absurd (omega arith)
    each rest false p e = let n = rest e in (n.0, rw (p, n.1))

-- ---- the loop

-- those of the first i writers that expire, by their GUIDs
abbrev gone : ℕ → ℕ → List Writer → List Guid
gone clock i ws = map guid_in (pick (expires clock) (take i ws))

pub record Declaring (t₀ : List ℕ) (count clock : ℕ) (lost₀ : List ℕ) (n : ℕ) (last : LastWriter) (t lost : List ℕ) (newest : LastWriter) (at i : ℕ) : Type 0 where
  pub amid : Amid (expired clock) t₀ count t i
  pub long : length lost ≡ length lost₀
  pub place : at ≡ n + length (pick (expires clock) (take i (writers_in count t₀)))
  pub fits : at ≤ 256
  pub held : lost ≡ lost_of (guids_in n lost₀ ++ gone clock i (writers_in count t₀))
  pub told : newest ≡ last_after (gone clock i (writers_in count t₀)) last

module _ (t₀ : List ℕ) (count clock : ℕ) (lost₀ : List ℕ) (n : ℕ) (last : LastWriter) (b : Bytes t₀) (s : Sound count t₀) (long₀ : length lost₀ ≡ 4096)
    (laid : lost_of (guids_in n lost₀) ≡ lost₀) (room : n + length (pick (expires clock) (writers_in count t₀)) ≤ 256) where
  abbrev ws : List Writer
  ws = writers_in count t₀

  size : length ws ≡ count
  size = length_read writer_of 40 count t₀

  pub declaring_start : Declaring t₀ count clock lost₀ n last t₀ lost₀ last n 0
  unfolding pick last_after
  declaring_start =
      record {
        amid = amid_from (expired clock) t₀ count b s 0 (omega arith) refl;
        long = refl;
        place = omega arith;
        fits = omega arith;
        held = sym laid ∙ ap lost_of (sym (append-nil (guids_in n lost₀)));
        told = refl;
      }

  module _ (t lost : List ℕ) (newest : LastWriter) (at i : ℕ) (d : Declaring t₀ count clock lost₀ n last t lost newest at i) where
    module _ (h : i < count) where
      abbrev w : Writer
      w = writer_in t i

      read : w ≡ get_or ws i w
      read = amid_read (expired clock) t₀ count b s t i d.amid h w

      one : take (i + 1) ws ≡ take i ws ++ w ∷ []
      one = take_more ws i w (omega (arith, size)) ∙ ap (λ (z : Writer). take i ws ++ z ∷ []) (sym read)

      more : (y : Bool) → expires clock w ≡ y → gone clock (i + 1) ws ≡ gone clock i ws ++ cond y (w.guid ∷ []) []
      more y p = ap (λ (l : List Writer). map guid_in (pick (expires clock) l)) one ∙ mapped_snoc guid_in (expires clock) (take i ws) w ∙ rw p

      count_more : (y : Bool) → expires clock w ≡ y →
          length (pick (expires clock) (take (i + 1) ws)) ≡ cond y (length (pick (expires clock) (take i ws)) + 1) (length (pick (expires clock) (take i ws)))
      count_more y p = ap (λ (l : List Writer). length (pick (expires clock) l)) one ∙ count_snoc (expires clock) (take i ws) w ∙ rw p

      newer : (y : Bool) → expires clock w ≡ y → last_after (gone clock (i + 1) ws) last ≡ cond y (Some w.guid) newest
      newer true p =
          ap (λ (l : List Guid). last_after l last) (more true p) ∙ last_snoc (gone clock i ws) true w.guid last
      newer false p =
          ap (λ (l : List Guid). last_after l last) (more false p) ∙ last_snoc (gone clock i ws) false w.guid last ∙ sym d.told

      part : length (pick (expires clock) (take (i + 1) ws)) ≤ length (pick (expires clock) ws)
      part = pick-part (expires clock) (i + 1) ws

      pub declaring_alive : expires clock w ≡ true → is_alive_state w.liveliness.state ≡ true
      unfolding expires
      declaring_alive p =
          (both (is_alive_state w.liveliness.state) w.liveliness.lease.present (both (leased w) (leb (due_at w) clock) p).0).0

      -- the place is free
      pub declaring_room : expires clock w ≡ true → at * 16 + 16 ≤ length lost
      declaring_room p = omega (arith, d.place, d.long, long₀, room, part, count_more true p)

      pub declared : expires clock w ≡ true → (t' lost' : List ℕ) (r : LastWriter) → t' ≡ patch t (i * 40) 40 (writer_bytes (lapsed w)) →
          lost' ≡ patch lost (at * 16) 16 (guid_bytes w.guid) → r ≡ Some w.guid → Declaring t₀ count clock lost₀ n last t' lost' r (at + 1) (i + 1)
      unfolding expired
      declared p t' lost' r u q v =
          let xs : List Guid = guids_in n lost₀ ++ gone clock i ws in
          let k : length xs ≡ at =
          omega (
            arith,
            length-append (guids_in n lost₀) (gone clock i ws),
            length_read guid_of 16 n lost₀,
            length-map (pick (expires clock) (take i ws)) guid_in,
            d.place,
          ) in
          let c = count_more true p in
          let l : at + 1 ≤ 256 = omega (arith, d.place, room, part, c) in
          let e : lost' ≡ lost_of (xs ++ w.guid ∷ []) =
          q ∙ ap (λ (z : List ℕ). patch z (at * 16) 16 (guid_bytes w.guid)) d.held
          ∙ ap (λ (m : ℕ). patch (lost_of xs) (m * 16) 16 (guid_bytes w.guid)) (sym k)
          ∙ lay_push guid_bytes 16 AnyGuid wide-guid 4096 xs w.guid (any_guids xs) (omega (arith, k)) in
          record {
            amid = amid_put (expired clock) t₀ count b s t i d.amid h (lapsed w) t' (rw p) u;
            long = ap length q ∙ length-patch lost (at * 16) 16 (guid_bytes w.guid) (declaring_room p) (length-guid w.guid) ∙ d.long;
            place = omega (arith, d.place, c);
            fits = l;
            held = e ∙ ap lost_of (append_assoc (guids_in n lost₀) (gone clock i ws) (w.guid ∷ []) ∙ ap (λ (z : List Guid). guids_in n lost₀ ++ z) (sym (more true p)));
            told = v ∙ sym (newer true p);
          }

      pub passed : expires clock w ≡ false → Declaring t₀ count clock lost₀ n last t lost newest at (i + 1)
      unfolding expired
      passed p =
          record {
            amid = amid_kept (expired clock) t₀ count b s t i d.amid h (rw p);
            long = d.long;
            place = omega (arith, d.place, count_more false p);
            fits = d.fits;
            held = d.held ∙ ap (λ (z : List Guid). lost_of (guids_in n lost₀ ++ z)) (sym (more false p ∙ append-nil (gone clock i ws)));
            told = sym (newer false p);
          }

    pub declared_end : count ≤ i → (t ≡ lay writer_bytes 40 (length t₀) (map (expired clock) ws))
        × (lost ≡ lost_of (guids_in n lost₀ ++ map guid_in (pick (expires clock) ws))) × (newest ≡ last_after (map guid_in (pick (expires clock) ws)) last)
    declared_end h =
        let all : take i ws ≡ ws = take_all i ws (omega (arith, size)) in
        (amid_end (expired clock) t₀ count b s t i d.amid h, rw all at d.held, rw all at d.told)

  -- where nobody expires
  pub undeclared : length (pick (expires clock) ws) ≡ 0 → (t₀ ≡ lay writer_bytes 40 (length t₀) (map (expired clock) ws))
      × (lost₀ ≡ lost_of (guids_in n lost₀ ++ map guid_in (pick (expires clock) ws))) × (last ≡ last_after (map guid_in (pick (expires clock) ws)) last)
  unfolding last_after
  undeclared e =
      let p = nobody clock ws e in
      rw (p.0, p.1) (sym s.laid, sym laid ∙ ap lost_of (sym (append-nil (guids_in n lost₀))), refl)
