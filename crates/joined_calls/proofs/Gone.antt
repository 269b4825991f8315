-- The writers that a joined call loses, as the bytes of a list.
--     gone_fits         GUIDs of writers that were read fit
--     gone-rises, gone-few
--                       those expired rise, and are no more than the writers
--     expired-gone      the part of Lost that an expiry added
use Prim.Native.Nat.{ℕ, ◌-◌, ◌*◌, ◌≤◌}
use mathlib.Core.Bool.{Bool, true}
use mathlib.Core.List.{List, [], ◌∷◌, ◌++◌, map}
use mathlib.Core.Path.{◌≡◌, refl, ap, ◌∙◌}
use native.Mathlib.Omega.{arith}
use lib.Dec.{ltb}
use lib.ListN.{length, take, drop, replicate, length-append, length-map}
use lib.Seq.{take_at, drop_at}
use Rattle.octets.specs.Bounds.{Bytes}
use Rattle.octets.specs.Lay.{All}
use Rattle.octets.proofs.LayLaws.{lay-append}
use Rattle.model.specs.declared.Guid.{Guid}
use Rattle.model.specs.declared.Sheet.{Sheet}
use Rattle.model.specs.declared.TrackerCall.TheVariants.{Expire}
use Rattle.model.specs.declared.Writer.{Writer}
use Rattle.model.specs.Guids.{num, guid_bytes, guids_bytes}
use Rattle.model.specs.State.{writer_key, writers_in, lost_of}
use Rattle.model.specs.Tables.{above, pick, rising}
use Rattle.model.specs.Writers.{guid_in, movers}
use Rattle.model.proofs.Fits.{FitsGuid, FitsWriter}
use Rattle.model.proofs.GuidLaws.{length-guid, length_guids}
use Rattle.model.proofs.Tests.{both, split}
use Rattle.writer_pass.proofs.Picks.{pick-le, writers_fit}
use Rattle.writer_set_bytes.specs.Lists.{gones_in}
use Rattle.instance_pass.proofs.LossLaws.{gones_back}
use Rattle.joined_calls.specs.Losses.{gone_since}

-- ---- the writers expired

picked_fit : (p : Writer → Bool) (ws : List Writer) → All FitsWriter ws → All FitsGuid (map guid_in (pick p ws))
unfolding pick
picked_fit p [] f = tt
picked_fit p (w ∷ ws) f = split (p w) (λ e. rw e (f.0.guid, picked_fit p ws f.1)) (λ e. rw e (picked_fit p ws f.1))

pub gone_fits : (s : Sheet) (n : ℕ) (t : List ℕ) → Bytes t → All FitsGuid (movers Expire s (writers_in n t))
unfolding movers
gone_fits s n t b = picked_fit _ (writers_in n t) (writers_fit n t b)

-- ---- they rise, and are no more than the writers

picked_above : (p : Writer → Bool) (n : ℕ) (ws : List Writer) → above writer_key n ws ≡ true → above num n (map guid_in (pick p ws)) ≡ true
unfolding above pick
picked_above p n [] h = refl
picked_above p n (w ∷ ws) h =
    let b = both (ltb n (writer_key w)) (above writer_key n ws) h in
    split (p w) (λ e. rw (e, b.0) (picked_above p n ws b.1)) (λ e. rw e (picked_above p n ws b.1))

picked_rise : (p : Writer → Bool) (ws : List Writer) → rising writer_key ws ≡ true → rising num (map guid_in (pick p ws)) ≡ true
unfolding rising pick
picked_rise p [] h = refl
picked_rise p (w ∷ ws) h =
    let b = both (above writer_key (writer_key w) ws) (rising writer_key ws) h in
    split (p w) (λ e. rw (e, picked_above p (writer_key w) ws b.0) (picked_rise p ws b.1)) (λ e. rw e (picked_rise p ws b.1))

pub gone-rises : (s : Sheet) (ws : List Writer) → rising writer_key ws ≡ true → rising num (movers Expire s ws) ≡ true
unfolding movers
gone-rises s ws h = picked_rise _ ws h

picked_few : (p : Writer → Bool) (ws : List Writer) → length (map guid_in (pick p ws)) ≤ length ws
picked_few p ws = omega (arith, length-map (pick p ws) guid_in, pick-le p ws)

pub gone-few : (s : Sheet) (ws : List Writer) → length (movers Expire s ws) ≤ length ws
unfolding movers
gone-few s ws = picked_few _ ws

-- ---- the part of Lost

-- from behind the GUIDs that were there on
pub expired-gone : (old gs : List Guid) (m n : ℕ) (t : List ℕ) → All FitsGuid gs → m ≡ length old → n ≡ length (old ++ gs) → t ≡ lost_of (old ++ gs) →
    gone_since m n t ≡ gs
expired-gone old gs m n t f em en e =
    let z : List ℕ = replicate (4096 - length (old ++ gs) * 16) 0 in
    let laid : t ≡ guids_bytes old ++ (guids_bytes gs ++ z) = e ∙ lay-append guid_bytes 16 FitsGuid (λ g h. length-guid g) 4096 old gs in
    let behind : drop (m * 16) t ≡ guids_bytes gs ++ z =
    ap (drop (m * 16)) laid ∙ drop_at (guids_bytes old) (guids_bytes gs ++ z) (m * 16) (omega (arith, length_guids old)) in
    let part : take (n * 16 - m * 16) (drop (m * 16) t) ≡ guids_bytes gs =
    ap (take (n * 16 - m * 16)) behind ∙ take_at (guids_bytes gs) z (n * 16 - m * 16) (omega (arith, length_guids gs, length-append old gs)) in
    ap gones_in part ∙ gones_back gs f
