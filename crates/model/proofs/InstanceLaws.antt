-- An instance laid out and read back, both ways.
--     length-instance     its 512 bytes
--     instance_flags      their flags
--     instance_back       what was laid out is read back
--     instance_forth      what was read is laid out as it was
--     instance_fits       what was read fits
use Prim.Native.Nat.{ℕ, ◌^◌, ◌<◌}
use mathlib.Core.Path.{◌≡◌, sym, ap, ◌∙◌}
use mathlib.Core.List.{List, [], ◌++◌, append-nil}
use native.Mathlib.Omega.{arith}
use lib.ListN.{length, take, drop, get_or, length-append, length-take, length-drop, take-append-drop}
use lib.Seq.{take_at, take_all, drop_at, drop-drop}
use Rattle.octets.specs.Bounds.{Bytes}
use Rattle.octets.proofs.BoundLaws.{be-lt}
use Rattle.octets.specs.Fields.{reads, Fit}
use Rattle.octets.specs.Octets.{be}
use Rattle.octets.specs.Patch.{fields}
use Rattle.octets.proofs.PatchLaws.{length_fields}
use Rattle.model.specs.declared.Guid.{Guid}
use Rattle.model.specs.declared.Instance.{Instance}
use Rattle.model.specs.Guids.{guid_of, guids_in, guids_bytes}
use Rattle.model.specs.InstanceRecord.{flags_at, flags_of, state_by, instance_of, instance_bytes, instance_widths, instance_values}
use Rattle.model.proofs.FieldLaws.{reads_front, fields-reads}
use Rattle.model.proofs.Fits.{FitsInstance}
use Rattle.model.proofs.FlagLaws.{Apart, flags_apart, flags_small, flags_again}
use Rattle.model.proofs.GuidLaws.{bytes_take, bytes_drop, guids_back, guids_forth, guids_fit, length_guids}
use Rattle.model.proofs.RowLaws.{length_read}

-- ---- laid out and read back

module _ (x : Instance) (fits : FitsInstance x) where
  values_fit : Fit instance_widths (instance_values x)
  values_fit =
      let s = fits.state in
      let l = s.life in
      let t = s.times in
      let f : flags_of x.state < 256 ^ 2 = omega (arith, flags_small x.state s.writers.few) in (
        fits.key.high,
        (
          fits.key.low,
          (
            fits.handle,
            (
              f,
              (
                s.holder.len,
                (
                  l.disposed,
                  (
                    l.no_writers,
                    (
                      l.count,
                      (
                        l.samples,
                        (
                          t.sample.sec,
                          (
                            t.sample.nanosec,
                            (
                              t.delivered.sec,
                              (
                                t.delivered.nanosec,
                                (
                                  t.filter.sec,
                                  (
                                    t.filter.nanosec,
                                    (
                                      t.disposed.sec,
                                      (
                                        t.disposed.nanosec,
                                        (
                                          t.no_writers.sec,
                                          (
                                            t.no_writers.nanosec,
                                            (
                                              t.owner.sec,
                                              (
                                                t.owner.nanosec,
                                                (s.owner.guid.high, (s.owner.guid.low, (s.owner.strength, tt))),
                                              ),
                                            ),
                                          ),
                                        ),
                                      ),
                                    ),
                                  ),
                                ),
                              ),
                            ),
                          ),
                        ),
                      ),
                    ),
                  ),
                ),
              ),
            ),
          ),
        ),
      )

  abbrev head : List ℕ
  head = fields instance_widths (instance_values x)

  length-head : length head ≡ 112
  length-head = length_fields instance_widths (instance_values x) tt

  pub length-instance : length (instance_bytes x) ≡ 512
  unfolding instance_bytes
  length-instance =
      omega (
        arith,
        length-append head (x.state.holder.bytes ++ guids_bytes x.state.writers.items),
        length-head,
        length-append x.state.holder.bytes (guids_bytes x.state.writers.items),
        fits.state.holder.size,
        length_guids x.state.writers.items,
        fits.state.writers.size,
      )

  holder_back : take 144 (drop 112 (instance_bytes x)) ≡ x.state.holder.bytes
  unfolding instance_bytes
  holder_back =
      ap (take 144) (drop_at head (x.state.holder.bytes ++ guids_bytes x.state.writers.items) 112 length-head)
      ∙ take_at x.state.holder.bytes (guids_bytes x.state.writers.items) 144 fits.state.holder.size

  set_back : guids_in 16 (drop 256 (instance_bytes x)) ≡ x.state.writers.items
  unfolding instance_bytes
  set_back =
      let b : List ℕ = x.state.holder.bytes in
      let w : List Guid = x.state.writers.items in
      let d : drop 256 (instance_bytes x) ≡ guids_bytes w =
      sym (drop-drop 144 112 (instance_bytes x)) ∙ ap (drop 144) (drop_at head (b ++ guids_bytes w) 112 length-head)
      ∙ drop_at b (guids_bytes w) 144 fits.state.holder.size in
      let k : guids_in (length w) (guids_bytes w ++ []) ≡ w = guids_back w [] fits.state.writers.items in
      rw (d) (rw (fits.state.writers.size, append-nil (guids_bytes w)) at k)

  values_back : reads instance_widths (instance_bytes x) 0 0 ≡ instance_values x
  unfolding instance_bytes
  values_back = reads_front instance_widths (instance_values x) (x.state.holder.bytes ++ guids_bytes x.state.writers.items) values_fit

  -- field number i of the layout
  field : (i : ℕ) → get_or (reads instance_widths (instance_bytes x) 0 0) i 0 ≡ get_or (instance_values x) i 0
  field i = ap (λ (l : List ℕ). get_or l i 0) values_back

  pub instance_flags : flags_at (instance_bytes x) ≡ flags_of x.state
  instance_flags = field 3

  pub instance_back : instance_of (instance_bytes x) ≡ x
  unfolding instance_of
  instance_back =
      let r : List ℕ = instance_bytes x in
      let e0 : be 8 r 0 ≡ x.key.hi = field 0 in
      let e1 : be 8 r 8 ≡ x.key.lo = field 1 in
      let e2 : be 8 r 16 ≡ x.handle.0 = field 2 in
      let e3 : be 2 r 24 ≡ flags_of x.state = field 3 in
      let e4 : be 2 r 26 ≡ x.state.holder.len = field 4 in
      let e5 : be 4 r 28 ≡ x.state.life.disposed_generations = field 5 in
      let e6 : be 4 r 32 ≡ x.state.life.no_writers_generations = field 6 in
      let e7 : be 4 r 36 ≡ x.state.life.writer_count = field 7 in
      let e8 : be 4 r 40 ≡ x.state.life.samples = field 8 in
      let e9 : be 4 r 44 ≡ x.state.times.last_sample.sec = field 9 in
      let e10 : be 4 r 48 ≡ x.state.times.last_sample.nanosec = field 10 in
      let e11 : be 4 r 52 ≡ x.state.times.last_delivered.sec = field 11 in
      let e12 : be 4 r 56 ≡ x.state.times.last_delivered.nanosec = field 12 in
      let e13 : be 4 r 60 ≡ x.state.times.last_filter.sec = field 13 in
      let e14 : be 4 r 64 ≡ x.state.times.last_filter.nanosec = field 14 in
      let e15 : be 4 r 68 ≡ x.state.times.disposed_at.sec = field 15 in
      let e16 : be 4 r 72 ≡ x.state.times.disposed_at.nanosec = field 16 in
      let e17 : be 4 r 76 ≡ x.state.times.no_writers_at.sec = field 17 in
      let e18 : be 4 r 80 ≡ x.state.times.no_writers_at.nanosec = field 18 in
      let e19 : be 4 r 84 ≡ x.state.times.owner_at.sec = field 19 in
      let e20 : be 4 r 88 ≡ x.state.times.owner_at.nanosec = field 20 in
      let e21 : be 8 r 92 ≡ x.state.owner.guid.hi = field 21 in
      let e22 : be 8 r 100 ≡ x.state.owner.guid.lo = field 22 in
      let e23 : be 4 r 108 ≡ x.state.owner.strength = field 23 in
      let a : Apart x.state (flags_of x.state) = flags_apart x.state fits.state.writers.few in
      rw (
        e3,
        a.kind,
        a.view,
        a.sample,
        a.delivered,
        a.filter,
        a.disposed,
        a.no_writers,
        a.owner,
        a.owner_at,
        a.holder,
        a.size,
        holder_back,
        set_back,
        e0,
        e1,
        e2,
        e4,
        e5,
        e6,
        e7,
        e8,
        e9,
        e10,
        e11,
        e12,
        e13,
        e14,
        e15,
        e16,
        e17,
        e18,
        e19,
        e20,
        e21,
        e22,
        e23,
      )

-- ---- read and laid out

module _ (r : List ℕ) (bytes : Bytes r) (size : length r ≡ 512) where
  pub instance_fits : FitsInstance (instance_of r)
  unfolding instance_of
  instance_fits =
      record {
        key = record { high = be-lt 8 r 0 bytes; low = be-lt 8 r 8 bytes };
        handle = be-lt 8 r 16 bytes;
        state = record {
          life = record { disposed = be-lt 4 r 28 bytes; no_writers = be-lt 4 r 32 bytes; count = be-lt 4 r 36 bytes; samples = be-lt 4 r 40 bytes };
          times = record {
            sample = record { sec = be-lt 4 r 44 bytes; nanosec = be-lt 4 r 48 bytes };
            delivered = record { sec = be-lt 4 r 52 bytes; nanosec = be-lt 4 r 56 bytes };
            filter = record { sec = be-lt 4 r 60 bytes; nanosec = be-lt 4 r 64 bytes };
            disposed = record { sec = be-lt 4 r 68 bytes; nanosec = be-lt 4 r 72 bytes };
            no_writers = record { sec = be-lt 4 r 76 bytes; nanosec = be-lt 4 r 80 bytes };
            owner = record { sec = be-lt 4 r 84 bytes; nanosec = be-lt 4 r 88 bytes };
          };
          owner = record { guid = record { high = be-lt 8 r 92 bytes; low = be-lt 8 r 100 bytes }; strength = be-lt 4 r 108 bytes };
          holder = record {
            len = be-lt 2 r 26 bytes;
            size = omega (arith, length-take 144 (drop 112 r), length-drop 112 r, size);
            bytes = bytes_take 144 (drop 112 r) (bytes_drop 112 r bytes);
          };
          writers = record {
            few = omega arith;
            size = length_read guid_of 16 16 (drop 256 r);
            items = guids_fit 16 (drop 256 r) (bytes_drop 256 r bytes);
          };
        };
      }

  pub instance_forth : flags_at r < 49152 → instance_bytes (instance_of r) ≡ r
  unfolding instance_bytes instance_of
  instance_forth h =
      let e : flags_of (state_by r (flags_at r)) ≡ flags_at r = flags_again r (flags_at r) h in
      let f : fields instance_widths (instance_values (instance_of r)) ≡ take 112 r =
      rw e (fields-reads instance_widths r bytes (omega arith)) in
      let g : guids_bytes (guids_in 16 (drop 256 r)) ≡ drop 256 r =
      guids_forth 16 (drop 256 r) (bytes_drop 256 r bytes) (omega (arith, length-drop 256 r, size))
      ∙ take_all 256 (drop 256 r) (omega (arith, length-drop 256 r, size)) in
      let d : take 144 (drop 112 r) ++ drop 256 r ≡ drop 112 r =
      ap (λ (l : List ℕ). take 144 (drop 112 r) ++ l) (sym (drop-drop 144 112 r)) ∙ take-append-drop 144 (drop 112 r) in
      rw (f, g, d) (take-append-drop 112 r)
