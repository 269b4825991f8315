-- The test of a record, in the order in which the code tests, and that of the records of a table.
--     times_by, record_by     the six times, and one record, from their parts
--     records-ok              what model asks of the first n records of a table, record by record
use Prim.Native.Nat.{ℕ, zero, suc}
use mathlib.Core.Bool.{Bool, true, false, ◌&&◌, and_assoc, and-false}
use mathlib.Core.Path.{◌≡◌, refl, sym, ◌∙◌}
use mathlib.Core.List.{List}
use native.Mathlib.Omega.{arith}
use lib.Dec.{ltb}
use lib.ListN.{take, drop}
use Rattle.model.specs.InstanceRecord.{instance_of, flag, flags_at, time_at, life_of, times_of, owner_of, holder_of, writer_set_of}
use Rattle.model.specs.Layout.{read_rows}
use Rattle.model.specs.State.{instances_in}
use Rattle.model.specs.Tables.{all}
use Rattle.model.specs.WellFormed.{time_ok, times_ok, owner_ok, holder_ok, set_ok, life_ok, instance_state_ok, instance_ok, kinds_ok}
use Rattle.instance_decoding.specs.Parts.{record_ok, records_ok}
use Rattle.octets.proofs.Laws.{be-take}

pub times_by : (s : List ℕ) (f : ℕ) {a b c d e g : Bool} → time_ok (time_at s 44 (flag 4096 f)) ≡ a → time_ok (time_at s 52 (flag 2048 f)) ≡ b →
    time_ok (time_at s 60 (flag 1024 f)) ≡ c → time_ok (time_at s 68 (flag 512 f)) ≡ d → time_ok (time_at s 76 (flag 256 f)) ≡ e → time_ok (time_at s 84 (flag 64 f)) ≡ g →
    (a && (b && (c && (d && (e && g))))) ≡ times_ok (times_of s f)
unfolding times_ok
times_by s f p q r u v w = sym (rw (p, q, r, u, v, w))

pub record_by : (s : List ℕ) (f : ℕ) → f ≡ flags_at s → {a b c d e : Bool} → (ltb f 49152 && life_ok (life_of s f)) ≡ a → times_ok (times_of s f) ≡ b →
    owner_ok (owner_of s f) ≡ c → holder_ok (holder_of s f) ≡ d → set_ok (writer_set_of s f) ≡ e →
    (a && (b && (c && (d && e)))) ≡ record_ok s
unfolding instance_of instance_state_ok
record_by s f w p q r u v =
    sym
    (sym (and_assoc (ltb (flags_at s) 49152) (life_ok (life_of s (flags_at s)))
    (times_ok (times_of s (flags_at s)) && (owner_ok (owner_of s (flags_at s)) && (holder_ok (holder_of s (flags_at s)) && set_ok (writer_set_of s (flags_at s))))))
    ∙ rw (← w, p, q, r, u, v))

pub records-ok : (n : ℕ) (t : List ℕ) → records_ok n t ≡ (kinds_ok n t && all instance_ok (instances_in n t))
unfolding records_ok kinds_ok read_rows all
records-ok zero t = refl
records-ok (suc n) t =
    let a : Bool = ltb (flags_at t) 49152 in
    let b : Bool = instance_ok (instance_of (take 512 t)) in
    let k : Bool = kinds_ok n (drop 512 t) in
    let x : Bool = all instance_ok (instances_in n (drop 512 t)) in
    rw (be-take 2 512 t 24 (omega arith), records-ok n (drop 512 t)) (across a b k x)
  where
    across : (a b k x : Bool) → ((a && b) && (k && x)) ≡ ((a && k) && (b && x))
    across true true k x = refl
    across true false k x = sym (and-false k)
    across false b k x = refl
