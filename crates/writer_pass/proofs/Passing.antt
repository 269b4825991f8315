-- A pass while it runs, over plain variables.
--     counts_small                    no class has more than there are
--     partly                          the writers, the first i of them turned by g; mid_split, mid_next, mid_from, mid_rest
--                                     and mid_length are its laws
--     Amid                            the table with the first i of its writers turned; amid_from, amid_read, amid_bounded,
--                                     amid_forth, amid_put, amid_kept, amid_rest and amid_end are its laws
use Prim.Native.Nat.{ℕ, suc, ◌+◌, ◌*◌, ◌≤◌, ◌<◌}
use mathlib.Core.Option.{some}
use mathlib.Core.Path.{◌≡◌, refl, sym, ap, ◌∙◌}
use mathlib.Core.List.{List, [], ◌∷◌, ◌++◌, map, map-append, append_assoc}
use native.Mathlib.Numerals.{add-one}
use native.Mathlib.Omega.{arith}
use lib.ListN.{length, take, drop, get_or, set, drop_of_length-le, take-append-drop}
use lib.Seq.{drop-cons}
use Rattle.octets.specs.Bounds.{Bytes}
use Rattle.octets.specs.Lay.{lay, All}
use Rattle.octets.proofs.LayLaws.{all-get, length-lay, lay_read, lay-set}
use Rattle.octets.specs.Patch.{patch}
use Rattle.model.specs.declared.Writer.{Writer}
use Rattle.model.specs.State.{counts_alive, counts_not_alive, alive_count, not_alive_count, writers_in}
use Rattle.model.specs.WellFormed.{writer_ok}
use Rattle.model.specs.WriterRecord.{writer_of, writer_bytes}
use Rattle.model.proofs.RowLaws.{length_read}
use Rattle.model.proofs.WriterLaws.{length-writer, writer_back}
use Rattle.model.proofs.Fits.{FitsWriter}
use Rattle.tables.proofs.Passes.{length_midway, midway, midway_get, midway_keep, midway_turned, survivors_all}
use Rattle.writer_pass.specs.Passes.{writer_in, Bounded, Sound, counts_of}
use Rattle.writer_pass.proofs.Picks.{take_more, pick-le, all-at, writers_fit, bounded}

-- the first i are turned by g
abbrev pub partly : (Writer → Writer) → ℕ → List Writer → List Writer
partly g i ws = midway (λ (w : Writer). some (g w)) ws i

-- every writer's record is 40 bytes
abbrev pub Any : Writer → Type 0
Any w = Unit {0}

pub wide : (w : Writer) → Any w → length (writer_bytes w) ≡ 40
wide w u = length-writer w

pub any-all : (ws : List Writer) → All Any ws
any-all [] = tt
any-all (w ∷ ws) = (tt, any-all ws)

-- a record that lies in a table is read as it was laid out
pub read_laid : (n : ℕ) (ws : List Writer) (i : ℕ) (d : Writer) → i < length ws → FitsWriter (get_or ws i d) →
    writer_of (take 40 (drop (i * 40) (lay writer_bytes 40 n ws))) ≡ get_or ws i d
read_laid n ws i d h f = ap writer_of (lay_read writer_bytes 40 Any wide n ws i d h (any-all ws)) ∙ writer_back (get_or ws i d) f

-- ---- the classes

pub counts_small : (ws : List Writer) → ((counts_of ws).alive ≤ length ws) × ((counts_of ws).not_alive ≤ length ws)
unfolding alive_count not_alive_count
counts_small ws = (pick-le counts_alive ws, pick-le counts_not_alive ws)

-- ---- the writers midway

module _ (g : Writer → Writer) (ws : List Writer) (i : ℕ) where
  module _ (d : Writer) (h : i < length ws) where
    pub mid_split : partly g i ws ≡ map g (take i ws) ++ get_or ws i d ∷ drop (suc i) ws
    mid_split = midway_turned g ws i (omega arith) ∙ ap (λ (l : List Writer). map g (take i ws) ++ l) (drop-cons ws i d h)

    pub mid_next : partly g (i + 1) ws ≡ map g (take i ws) ++ g (get_or ws i d) ∷ drop (suc i) ws
    mid_next =
        midway_turned g ws (i + 1) (omega arith)
        ∙ rw (take_more ws i d h, map-append g (take i ws) (get_or ws i d ∷ []), add-one)
        (append_assoc (map g (take i ws)) (g (get_or ws i d) ∷ []) (drop (suc i) ws))

    mid_get : get_or (partly g i ws) i d ≡ get_or ws i d
    mid_get = midway_get (λ (w : Writer). some (g w)) ws i d (omega arith)

    mid_set : set (partly g i ws) i (g (get_or ws i d)) ≡ partly g (i + 1) ws
    mid_set =
        ap (λ (k : ℕ). set (partly g i ws) k (g (get_or ws i d))) (sym (survivors_all g ws i (omega arith)))
        ∙ midway_keep (λ (w : Writer). some (g w)) ws i d h (g (get_or ws i d)) refl

  module _ (h : i ≤ length ws) where
    -- those before i stay as they are
    pub mid_from : map g (take i ws) ≡ take i ws → partly g i ws ≡ ws
    mid_from e = midway_turned g ws i h ∙ ap (λ (l : List Writer). l ++ drop i ws) e ∙ take-append-drop i ws

    -- those from i on do
    pub mid_rest : map g (drop i ws) ≡ drop i ws → partly g i ws ≡ map g ws
    mid_rest e =
        midway_turned g ws i h ∙ ap (λ (l : List Writer). map g (take i ws) ++ l) (sym e) ∙ sym (map-append g (take i ws) (drop i ws))
        ∙ ap (map g) (take-append-drop i ws)

    pub mid_length : length (partly g i ws) ≡ length ws
    mid_length = length_midway (λ (w : Writer). some (g w)) ws i h

-- ---- the table, midway

pub record Amid (f : Writer → Writer) (t₀ : List ℕ) (count : ℕ) (t : List ℕ) (i : ℕ) : Type 0 where
  pub below : i ≤ count
  pub long : length t ≡ length t₀
  pub table : t ≡ lay writer_bytes 40 (length t₀) (partly f i (writers_in count t₀))

module _ (f : Writer → Writer) (t₀ : List ℕ) (count : ℕ) (b : Bytes t₀) (s : Sound count t₀) where
  abbrev ws : List Writer
  ws = writers_in count t₀

  size : length ws ≡ count
  size = length_read writer_of 40 count t₀

  amid : (i : ℕ) (t : List ℕ) → i ≤ count → t ≡ lay writer_bytes 40 (length t₀) (partly f i ws) → Amid f t₀ count t i
  amid i t h e =
      let n : length (partly f i ws) ≡ length ws = mid_length f ws i (omega (arith, size)) in
      record {
        below = h;
        long =
            ap length e ∙ length-lay writer_bytes 40 Any wide (length t₀) (partly f i ws) (any-all (partly f i ws)) (omega (arith, size, s.room, n));
        table = e;
      }

  -- f leaves the first i as they are
  pub amid_from : (i : ℕ) → i ≤ count → map f (take i ws) ≡ take i ws → Amid f t₀ count t₀ i
  amid_from i h e =
      amid i t₀ h
      (sym s.laid ∙ ap (lay writer_bytes 40 (length t₀)) (sym (mid_from f ws i (omega (arith, size)) e)))

  module _ (t : List ℕ) (i : ℕ) (d : Amid f t₀ count t i) where
    module _ (h : i < count) where
      inside : i < length ws
      inside = omega (arith, size)

      within : i < length (partly f i ws)
      within = omega (arith, inside, mid_length f ws i (omega (arith, size)))

      pub amid_read : (e : Writer) → writer_in t i ≡ get_or ws i e
      amid_read e =
          let m : List Writer = partly f i ws in
          let g : get_or m i e ≡ get_or ws i e = mid_get f ws i e inside in
          ap (λ (z : List ℕ). writer_in z i) d.table
          ∙ read_laid (length t₀) m i e within (rw g (all-get FitsWriter ws i e inside (writers_fit count t₀ b))) ∙ g

      pub amid_bounded : Bounded (writer_in t i)
      amid_bounded =
          let e : Writer = writer_in t i in
          bounded e (rw (amid_read e) (all-at writer_ok ws i e s.ok inside))

      pub amid_forth : writer_bytes (writer_in t i) ≡ take 40 (drop (i * 40) t)
      amid_forth =
          let e : Writer = writer_in t i in
          let m : List Writer = partly f i ws in
          ap writer_bytes (amid_read e ∙ sym (mid_get f ws i e inside))
          ∙ sym (ap (λ (z : List ℕ). take 40 (drop (i * 40) z)) d.table ∙ lay_read writer_bytes 40 Any wide (length t₀) m i e within (any-all m))

      pub amid_put : (v : Writer) (t' : List ℕ) → v ≡ f (writer_in t i) → t' ≡ patch t (i * 40) 40 (writer_bytes v) → Amid f t₀ count t' (i + 1)
      amid_put v t' q p =
          let w : Writer = writer_in t i in
          let m : List Writer = partly f i ws in
          amid (i + 1) t' (omega arith)
          (p ∙ ap (λ (z : List ℕ). patch z (i * 40) 40 (writer_bytes v)) d.table
          ∙ lay-set writer_bytes 40 Any wide (length t₀) m i v within (any-all m) tt
          ∙ ap (λ (z : Writer). lay writer_bytes 40 (length t₀) (set m i z)) (q ∙ ap f (amid_read w))
          ∙ ap (lay writer_bytes 40 (length t₀)) (mid_set f ws i w inside))

      pub amid_kept : f (writer_in t i) ≡ writer_in t i → Amid f t₀ count t (i + 1)
      amid_kept q =
          let w : Writer = writer_in t i in
          let v : get_or ws i w ≡ f (get_or ws i w) = rw (← amid_read w) (sym q) in
          amid (i + 1) t (omega arith)
          (d.table
          ∙ ap (lay writer_bytes 40 (length t₀))
          (mid_split f ws i w inside ∙ ap (λ (z : Writer). map f (take i ws) ++ z ∷ drop (suc i) ws) v ∙ sym (mid_next f ws i w inside)))

    -- f leaves those from i on as they are
    pub amid_rest : map f (drop i ws) ≡ drop i ws → t ≡ lay writer_bytes 40 (length t₀) (map f ws)
    amid_rest e = d.table ∙ ap (lay writer_bytes 40 (length t₀)) (mid_rest f ws i (omega (arith, size, d.below)) e)

    pub amid_end : count ≤ i → t ≡ lay writer_bytes 40 (length t₀) (map f ws)
    amid_end h = let none : drop i ws ≡ [] = drop_of_length-le ws {i = i} (omega (arith, size)) in amid_rest (rw none)
