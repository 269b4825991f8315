-- What a lent table is that no read refuses.
--     wrong_length, wrong_form, no_refusal     the refusals 1 and 3, and none
--     Whole, whole                             such a table as plain facts
--     count-table, at_place, room_at, valid-at its instances by their places
--     located                                  where a key is looked for
--     found_room, found_here                   the instance of a key that was found
--     found_none                               a key that was not
use Prim.Native.Nat.{ℕ, ◌+◌, ◌*◌, ◌≤◌, ◌<◌}
use mathlib.Core.Bool.{true, false, cond}
use mathlib.Core.List.{List, [], map}
use mathlib.Core.Logic.{◌≢◌, ⊎_elim}
use mathlib.Core.Option.{none, some}
use mathlib.Core.Path.{◌≡◌, sym, ap, ◌∙◌}
use native.Mathlib.Nat.{mul-le-mul_right}
use native.Mathlib.Omega.{arith}
use borrow.Author.Tests.{eq-eqb, ne_eqb}
use lib.ListN.{length, get_or}
use Rattle.model.specs.declared.Guid.{Guid}
use Rattle.model.specs.declared.Instance.{Instance}
use Rattle.model.specs.Guids.{num}
use Rattle.model.specs.InstanceRecord.{instance_of}
use Rattle.model.specs.Instances.{has_key}
use Rattle.model.specs.Reads.{used_in, table_ok, table_of, table_refusal}
use Rattle.model.specs.State.{instance_key, instances_in}
use Rattle.model.specs.Tables.{find, all, rising}
use Rattle.model.specs.WellFormed.{instance_ok}
use Rattle.model.proofs.RowLaws.{length_read, get_read}
use Rattle.std.specs.Prelude.{Result, Ok, Err}
use Rattle.tables.specs.Found.{found_in}
use Rattle.tables.proofs.RecordLaws.{at_lt, find_at, find_none}
use Rattle.instance_decoding.specs.Parts.{record_at}
use Rattle.instance_table.proofs.LaidOut.{Formed, lone_formed}
use Rattle.model.proofs.Tests.{split, eq-or-ne}
use Rattle.tables.proofs.Finds.{all-at}

module _ (places : ℕ) (t : List ℕ) where
  -- ---- the refusals

  pub wrong_length : length t ≢ places * 512 → 1 ≡ table_refusal places t
  unfolding table_refusal
  wrong_length n = rw (ne_eqb (length t) (places * 512) n)

  by_form : length t ≡ places * 512 → table_refusal places t ≡ cond (table_ok places t) 0 3
  unfolding table_refusal
  by_form e = rw (eq-eqb (length t) (places * 512) e)

  pub wrong_form : length t ≡ places * 512 → table_ok places t ≡ false → 3 ≡ table_refusal places t
  wrong_form e f = sym (by_form e ∙ rw f)

  pub no_refusal : length t ≡ places * 512 → table_ok places t ≡ true → 0 ≡ table_refusal places t
  no_refusal e f = sym (by_form e ∙ rw f)

  -- ---- what a table is that is not refused

  pub record Whole : Type 0 where
    pub size : length t ≡ places * 512
    pub few : used_in places t ≤ places
    pub room : used_in places t * 512 ≤ length t
    pub rises : rising instance_key (table_of places t) ≡ true
    pub valid : all instance_ok (table_of places t) ≡ true

  formed_whole : length t ≡ places * 512 → Formed places (used_in places t) 9223372036854775808 t → Whole
  unfolding table_of
  formed_whole e f =
      record {
        size = e;
        few = f.few;
        room = omega (arith, mul-le-mul_right 512 f.few);
        rises = f.rises;
        valid = f.valid;
      }

  pub whole : table_refusal places t ≡ 0 → Whole
  whole r =
      ⊎_elim
      (λ e. split (table_ok places t) (λ f. formed_whole e (lone_formed places t f)) (λ f. absurd (omega (arith, wrong_form e f))))
      (λ n. absurd (omega (arith, wrong_length n)))
      (eq-or-ne (length t) (places * 512))

  -- ---- its instances

  pub count-table : length (table_of places t) ≡ used_in places t
  unfolding table_of
  count-table = length_read instance_of 512 (used_in places t) t

  pub at_place : (i : ℕ) (d : Instance) → i < used_in places t → get_or (table_of places t) i d ≡ instance_of (record_at t i)
  unfolding table_of
  at_place i d h = get_read instance_of 512 (used_in places t) t i d h

  pub located : (count k : ℕ) (f : Result ℕ ℕ) → count ≡ used_in places t → f ≡ found_in (map instance_key (instances_in count t)) k →
      f ≡ found_in (map instance_key (table_of places t)) k
  unfolding table_of
  located count k f e h = rw e at h

  module _ (r : table_refusal places t ≡ 0) where
    pub room_at : (i : ℕ) → i < used_in places t → i * 512 + 512 ≤ length t
    room_at i h = omega (arith, (whole r).room)

    pub valid-at : (i : ℕ) → i < used_in places t → instance_ok (instance_of (record_at t i)) ≡ true
    valid-at i h =
        rw (← at_place i (instance_of []) h)
        (all-at instance_ok (table_of places t) (instance_of []) (whole r).valid i (omega (arith, count-table)))

    -- ---- by key: f is where the key was found

    module _ (key : Guid) (i : ℕ) (f : Result ℕ ℕ) (e : f ≡ found_in (map instance_key (table_of places t)) (num key)) where
      found_lt : f ≡ Ok i → i < used_in places t
      found_lt a = omega (arith, at_lt instance_key (table_of places t) (num key) i (sym e ∙ a), count-table)

      pub found_room : f ≡ Ok i → i * 512 + 512 ≤ length t
      found_room a = room_at i (found_lt a)

      pub found_here : f ≡ Ok i → find (has_key key) (table_of places t) ≡ some (instance_of (record_at t i))
      found_here a =
          find_at instance_key (table_of places t) (num key) i (sym e ∙ a) (instance_of [])
          ∙ ap some (at_place i (instance_of []) (found_lt a))

      pub found_none : f ≡ Err i → find (has_key key) (table_of places t) ≡ none
      found_none a = find_none instance_key (table_of places t) (num key) i (whole r).rises (sym e ∙ a)
