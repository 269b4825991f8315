-- Code 38, over plain variables.
--     take-leaves       what the call leaves is model's turn
use Prim.Native.Nat.{ℕ, ◌+◌, ◌*◌, ◌^◌, ◌<◌, ◌≤◌}
use mathlib.Core.Bool.{true}
use mathlib.Core.Path.{◌≡◌, refl, sym, ap, ◌∙◌}
use mathlib.Core.List.{List, []}
use native.Mathlib.Omega.{arith}
use lib.ListN.{length, take, drop, replicate}
use lib.Seq.{paste}
use Rattle.octets.specs.Bounds.{Bytes}
use Rattle.octets.proofs.LayLaws.{lay_clear}
use Rattle.octets.specs.Patch.{patch}
use Rattle.model.specs.declared.Called.{Called}
use Rattle.model.specs.declared.Guid.{Guid}
use Rattle.model.specs.declared.Head.{Head}
use Rattle.model.specs.declared.Sheet.{Sheet}
use Rattle.model.specs.declared.TrackerCall.TheVariants.{TakeLost}
use Rattle.model.specs.Answers.{listing}
use Rattle.model.specs.Call.{list_in}
use Rattle.model.specs.Guids.{guid_of, guid_bytes, guids_in, guids_bytes}
use Rattle.model.specs.State.{state_of, writers_in, lost_of}
use Rattle.model.specs.WellFormed.{lost_ok}
use Rattle.model.specs.Writers.{tracker_state, tracker_turn, tracker_call}
use Rattle.model.proofs.GuidLaws.{guids_forth, length_guids}
use Rattle.model.proofs.RowLaws.{length_read}
use Rattle.model.proofs.Tests.{less-less}
use Rattle.writer_pass.proofs.Declaring.{AnyGuid, wide-guid, any_guids}
use Rattle.writer_status.specs.Status.{changed_head}
use Rattle.writer_status.proofs.Idle.{idle-head, take_after, take_who}
use Rattle.writer_expiry.specs.Losing.{Takes}
use Rattle.writer_expiry.proofs.Expiring.{lost-laid, lost-few}
use lib.IntN.{pos}

module _ (s : Sheet) (head : Head) (lost out : List ℕ) (bytes : Bytes lost) (long : length lost ≡ 4096) (formed : lost_ok head.lost_count lost ≡ true)
    (small : head.changes < 2 ^ 64) where
  abbrev n : ℕ
  n = head.lost_count

  abbrev gs : List Guid
  gs = guids_in head.lost_count lost

  few : n ≤ 256
  few = lost-few n lost formed

  list-is : guids_bytes gs ≡ take (n * 16) lost
  list-is = guids_forth n lost bytes (omega (arith, few))

  list-size : length (guids_bytes gs) ≡ n * 16
  list-size = length_guids gs ∙ ap (λ (k : ℕ). k * 16) (length_read guid_of 16 n lost)

  listed : (out' : List ℕ) → out' ≡ paste out 0 (drop 0 lost) (n * 16) → out' ≡ list_in (guids_bytes gs) out
  listed out' e = let z : 0 + n * 16 ≡ n * 16 = omega arith in e ∙ rw (list-size, list-is, z)

  emptied : (lost' : List ℕ) → lost' ≡ patch lost 0 (n * 16) (replicate (n * 16) 0) → lost' ≡ lost_of []
  emptied lost' e =
      let k : length gs ≡ n = length_read guid_of 16 n lost in
      e ∙ ap (λ (z : List ℕ). patch z 0 (n * 16) (replicate (n * 16) 0)) (sym (lost-laid n lost bytes long formed))
      ∙ ap (λ (m : ℕ). patch (lost_of gs) 0 (m * 16) (replicate (m * 16) 0)) (sym k)
      ∙ lay_clear guid_bytes 16 AnyGuid wide-guid 4096 [] gs tt (any_guids gs) (omega (arith, few))

  pub take-leaves : (r : Called) (lost' out' : List ℕ) → r.answer ≡ listing n → r.head ≡ changed_head head 0 head.alive_change head.not_alive_change →
      lost' ≡ patch lost 0 (n * 16) (replicate (n * 16) 0) → out' ≡ paste out 0 (drop 0 lost) (n * 16) → Takes s head lost out r lost' out'
  unfolding tracker_call tracker_turn tracker_state state_of
  take-leaves r lost' out' a h e f pens w k =
      let ws = writers_in head.writer_count w in
      let hd =
      idle-head TakeLost s head pens w lost 0 head.alive_change head.not_alive_change small k (take_after s ws) (take_who s ws) refl
      (sym (less-less (pos head.alive) head.alive_change)) (sym (less-less (pos head.not_alive) head.not_alive_change)) in
      record {
        kept = record { answer = a ∙ rw (length_read guid_of 16 n lost); head = h ∙ hd };
        emptied = emptied lost' e;
        listed = listed out' f;
      }
