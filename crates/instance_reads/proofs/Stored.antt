-- A stored holder in the bytes of the table.
--     holder_len, set_len                   what a valid instance's holder and writer set take at most
--     stored_none, stored_here              where it stands, by the record's flags
--     place_refused, place_none, place_here     where the holder of a key stands, as it is looked for
--     in_force                              the bytes at that place, or those offered, are the holder in force
--     place_room                            the place is within the table
--     force_at, offered_there, part-there, part_room     the same of a place that was looked for
use Prim.Native.Nat.{ℕ, ◌+◌, ◌-◌, ◌*◌, ◌/◌, ◌%◌, ◌≤◌, ◌<◌}
use mathlib.Core.Bool.{true, false, ◌&&◌}
use mathlib.Core.List.{List, [], map}
use mathlib.Core.Logic.{◌≢◌, ⊎_elim}
use mathlib.Core.Option.{none, some}
use mathlib.Core.Path.{◌≡◌, refl, sym, ap, ◌∙◌}
use native.Mathlib.Omega.{arith}
use borrow.Author.Tests.{eq-eqb, ne_eqb, leb-true}
use lib.Dec.{leb}
use lib.ListN.{length, take, drop}
use lib.Seq.{drop-drop, take-take}
use Rattle.octets.specs.Octets.{be}
use Rattle.octets.specs.Zeros.{all_zero}
use Rattle.model.specs.declared.Guid.{Guid}
use Rattle.model.specs.declared.Instance.{Instance}
use Rattle.model.specs.Guids.{num}
use Rattle.model.specs.InstanceRecord.{instance_of}
use Rattle.model.specs.Instances.{has_key}
use Rattle.model.specs.Reads.{used_in, table_of, table_refusal, stored_or, holder_or, holder_in_force}
use Rattle.model.specs.Sets.{members}
use Rattle.model.specs.State.{instance_key}
use Rattle.model.specs.Tables.{find, all, rising}
use Rattle.model.specs.WellFormed.{instance_ok, holder_ok, set_ok, is_nil}
use Rattle.model.proofs.Valid.{valid_parts}
use Rattle.instance_decoding.specs.Parts.{record_at}
use Rattle.octets.proofs.Laws.{be-part}
use Rattle.instance_decoding.proofs.Rows.{drop-take}
use Rattle.instance_table.proofs.Finding.{key_only}
use Rattle.std.specs.Prelude.{Result, Ok}
use Rattle.tables.specs.Found.{found_in}
use Rattle.tables.specs.Places.{place_of, Only}
use Rattle.model.proofs.Tests.{both, split, lt-or-le, eq-or-ne}
use Rattle.tables.proofs.Finds.{find-nowhere, find_place, noplace, place_unique}
use Rattle.instance_reads.specs.declared.HolderPlace.{HolderPlace}
use Rattle.instance_reads.specs.HolderPlaces.{no_place, stored_at, place_in, holder_place, bytes_at}
use Rattle.instance_reads.proofs.Table.{whole, count-table, at_place, room_at, valid-at, found_here}

-- ---- what a valid instance takes

pub holder_len : (x : Instance) → instance_ok x ≡ true → x.state.holder.present ≡ true → x.state.holder.len ≤ 144
unfolding holder_ok
holder_len x ok p =
    let h = x.state.holder in
    leb-true h.len 144 (both (leb h.len 144) (all_zero (drop h.len h.bytes)) (rw p at (valid_parts x.state ok).holder)).0

pub set_len : (x : Instance) → instance_ok x ≡ true → x.state.writers.len ≤ 16
unfolding set_ok
set_len x ok =
    let w = x.state.writers in
    leb-true w.len 16 (both (leb w.len 16) (rising num (members w) && all is_nil (drop w.len w.items)) (valid_parts x.state ok).writers).0

-- ---- by the flags f and the length n of record i

module _ (t : List ℕ) (i f : ℕ) (ef : f ≡ be 2 t (i * 512 + 24)) where
  flags : be 2 (record_at t i) 24 ≡ f
  flags = be-part 2 512 (i * 512) t 24 (omega arith) ∙ sym ef

  pub stored_none : f / 32 % 2 ≢ 1 → no_place ≡ stored_at i (instance_of (record_at t i)).state.holder
  unfolding instance_of
  stored_none h = rw (flags, ne_eqb (f / 32 % 2) 1 h)

  pub stored_here : (n : ℕ) → n ≡ be 2 t (i * 512 + 26) → f / 32 % 2 ≡ 1 →
      record { stored = true; offset = i * 512 + 112; len = n } ≡ stored_at i (instance_of (record_at t i)).state.holder
  unfolding instance_of
  stored_here n en h = rw (flags, eq-eqb (f / 32 % 2) 1 h, be-part 2 512 (i * 512) t 26 (omega arith), ← en)

-- ---- its bytes

-- a part of the holder of record i is that part of the table
holder-part : (t : List ℕ) (i n : ℕ) → n ≤ 144 → take n (drop (i * 512 + 112) t) ≡ take n (instance_of (record_at t i)).state.holder.bytes
unfolding instance_of
holder-part t i n l =
    rw (drop-take 112 512 (drop (i * 512) t), drop-drop 112 (i * 512) t)
    (sym (take-take n 144 (take 400 (drop (i * 512 + 112) t)) l ∙ take-take n 400 (drop (i * 512 + 112) t) (omega arith)))

module _ (t : List ℕ) (i : ℕ) where
  abbrev x : Instance
  x = instance_of (record_at t i)

  module _ (ok : instance_ok x ≡ true) where
    stored_bytes : (offered : List ℕ) → bytes_at (stored_at i x.state.holder) t offered ≡ stored_or offered x.state.holder
    stored_bytes offered =
        split x.state.holder.present (λ p. rw p (holder-part t i x.state.holder.len (holder_len x ok p))) (λ p. rw p)

    stored-room : (n : ℕ) → i * 512 + 512 ≤ n → (let p = stored_at i x.state.holder in p.offset + p.len ≤ n)
    stored-room n l =
        split x.state.holder.present (λ p. rw p (omega (arith, holder_len x ok p))) (λ p. rw p (omega arith))

-- ---- as it is read; n is the refusal's number

module _ (places : ℕ) (t : List ℕ) (key : Guid) where
  abbrev xs : List Instance
  xs = table_of places t

  abbrev place : ℕ
  place = place_of (has_key key) xs

  pub place_refused : (n : ℕ) → n ≡ table_refusal places t → n ≢ 0 → no_place ≡ holder_place places t key
  unfolding holder_place
  place_refused n en z = rw (← en, ne_eqb n 0 z)

  module _ (r : table_refusal places t ≡ 0) where
    place_found : holder_place places t key ≡ place_in place (find (has_key key) xs)
    unfolding holder_place
    place_found = rw r

    force_found : (offered : List ℕ) → holder_in_force places t key offered ≡ holder_or offered (find (has_key key) xs)
    unfolding holder_in_force
    force_found offered = rw r

    pub place_none : find (has_key key) xs ≡ none → no_place ≡ holder_place places t key
    place_none e = sym (place_found ∙ rw e)

    pub place_here : (i : ℕ) (f : Result ℕ ℕ) → f ≡ found_in (map instance_key xs) (num key) → f ≡ Ok i → (p : HolderPlace) →
        p ≡ stored_at i (instance_of (record_at t i)).state.holder → p ≡ holder_place places t key
    place_here i f e a p q =
        let o : Only (has_key key) xs i (instance_of []) = key_only xs (instance_of []) key i (whole places t r).rises (sym e ∙ a) in
        let at : place ≡ i =
        place_unique (has_key key) xs (instance_of []) i (omega (arith, o.within)) (λ j l. o.elsewhere j (omega (arith, o.within)) (λ m. omega arith)) (λ l. o.here) in
        q ∙ sym (place_found ∙ rw (at, found_here places t r key i f e a))

    -- an instance that has the key stands at its place
    module _ (l : place < length xs) where
      used : place < used_in places t
      used = omega (arith, l, count-table places t)

      looked_up_lem : find (has_key key) xs ≡ some (instance_of (record_at t place))
      looked_up_lem = find_place (has_key key) xs (instance_of []) l ∙ ap some (at_place places t place (instance_of []) used)

      bytes-here : (offered : List ℕ) → bytes_at (holder_place places t key) t offered ≡ holder_in_force places t key offered
      bytes-here offered =
          rw (place_found, force_found offered, looked_up_lem) (stored_bytes t place (valid-at places t r place used) offered)

      room-here : (let p = holder_place places t key in p.offset + p.len ≤ length t)
      room-here = rw (place_found, looked_up_lem) (stored-room t place (valid-at places t r place used) (length t) (room_at places t r place used))

    not_there : length xs ≤ place → find (has_key key) xs ≡ none
    not_there l = find-nowhere (has_key key) (instance_of []) xs (noplace (has_key key) xs (instance_of []) l)

    bytes-there : (offered : List ℕ) → bytes_at (holder_place places t key) t offered ≡ holder_in_force places t key offered
    bytes-there offered =
        ⊎_elim (λ l. bytes-here l offered) (λ l. rw (place_found, force_found offered, not_there l)) (lt-or-le place (length xs))

    room-there : (let p = holder_place places t key in p.offset + p.len ≤ length t)
    room-there = ⊎_elim room-here (λ l. rw (place_found, not_there l) (omega arith)) (lt-or-le place (length xs))

  force_refused : table_refusal places t ≢ 0 → (offered : List ℕ) → holder_in_force places t key offered ≡ offered
  unfolding holder_in_force
  force_refused z offered = rw (ne_eqb (table_refusal places t) 0 z)

  -- the bytes at the place, or those offered, are the holder in force
  pub in_force : (offered : List ℕ) → bytes_at (holder_place places t key) t offered ≡ holder_in_force places t key offered
  in_force offered =
      ⊎_elim (λ r. bytes-there r offered) (λ z. rw (← place_refused (table_refusal places t) refl z, force_refused z offered)) (eq-or-ne (table_refusal places t) 0)

  -- the place is within the table
  pub place_room : (let p = holder_place places t key in p.offset + p.len ≤ length t)
  place_room =
      ⊎_elim room-there (λ z. rw (← place_refused (table_refusal places t) refl z) (omega arith)) (eq-or-ne (table_refusal places t) 0)

  -- what a place that was looked for promises
  module _ (p : HolderPlace) (e : p ≡ holder_place places t key) where
    pub force_at : (p ≡ holder_place places t key) × ((offered : List ℕ) → bytes_at p t offered ≡ holder_in_force places t key offered)
    force_at = (e, λ offered. rw e (in_force offered))

    pub offered_there : p.stored ≡ false → (offered : List ℕ) → offered ≡ holder_in_force places t key offered
    offered_there n offered = (rw n at force_at).1 offered

    pub part-there : p.stored ≡ true → (offered : List ℕ) → take (p.offset + p.len - p.offset) (drop p.offset t) ≡ holder_in_force places t key offered
    part-there y offered =
        let s : p.offset + p.len - p.offset ≡ p.len = omega arith in
        rw s ((rw y at force_at).1 offered)

    pub part_room : p.offset + p.len ≤ length t
    part_room = rw e place_room
