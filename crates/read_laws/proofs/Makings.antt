-- Records for a head that needs some: as many instances and writers as it counts, the writers in the classes that it counts.
--     instances_from, instances-ok, instances_fit      started instances with the keys and handles from a number on
--     writers_from, writers-ok, writers_fit            writers with the GUIDs from a number on, each in a class
--     alive_are, not_alive_are                        their classes
use Prim.Native.Nat.{ℕ, zero, suc, ◌+◌, ◌^◌, ◌≤◌, ◌<◌}
use mathlib.Core.Bool.{Bool, true, false, cond}
use mathlib.Core.List.{List, [], ◌∷◌, ◌++◌}
use mathlib.Core.Path.{◌≡◌, refl, ap, ◌∙◌}
use native.Mathlib.Nat.{zero-add, add-zero}
use native.Mathlib.Omega.{arith}
use borrow.Author.Tests.{lt-ltb, le-leb, ne_eqb}
use lib.ListN.{length, replicate, length-append, length-replicate}
use Rattle.octets.specs.Lay.{All}
use Rattle.octets.specs.Zeros.{all_zero}
use Rattle.model.specs.declared.Guid.{Guid}
use Rattle.model.specs.declared.Instance.{Instance}
use Rattle.model.specs.declared.LivelinessKind.TheVariants.{Automatic}
use Rattle.model.specs.declared.Writer.{Writer}
use Rattle.model.specs.declared.WriterState.{WriterState}
use Rattle.model.specs.declared.WriterState.TheVariants.{Unasserted, Alive, NotAlive}
use Rattle.model.specs.Guids.{num}
use Rattle.model.specs.Instances.{started, started_state}
use Rattle.model.specs.State.{Class, alive, not_alive, neither, is_alive_class, is_not_alive_class, counts_alive, counts_not_alive, alive_count, not_alive_count, instance_key, writer_key}
use Rattle.model.specs.Tables.{pick, all, above, rising}
use Rattle.model.specs.WellFormed.{time_ok, times_ok, owner_ok, holder_ok, set_ok, life_ok, instance_state_ok, instance_ok, other_handle, handles_distinct, handle_below, instances_ok, lease_ok, writer_ok, writers_ok}
use Rattle.accounts.proofs.EffectLaws.{started-sound}
use Rattle.accounts.proofs.Sound.{fits_state}
use Rattle.model.proofs.Fits.{FitsInstance, FitsWriter}

-- ---- GUIDs by number

abbrev numbered : ℕ → Guid
numbered n = record { hi = 0; lo = n }

num-is : (n : ℕ) → num (numbered n) ≡ n
unfolding num
num-is n = zero-add n

-- ---- instances

unfoldable pub instances_from : ℕ → ℕ → List Instance
instances_from i zero = []
instances_from i (suc n) = started (numbered i) i ∷ instances_from (suc i) n

pub length-instances : (i n : ℕ) → length (instances_from i n) ≡ n
unfolding instances_from
length-instances i zero = refl
length-instances i (suc n) = ap suc (length-instances (suc i) n)

started_key : (i : ℕ) → instance_key (started (numbered i) i) ≡ i
unfolding started
started_key i = num-is i

started-handle : (i : ℕ) → (started (numbered i) i).handle.0 ≡ i
unfolding started
started-handle i = refl

started-ok : (i : ℕ) → instance_ok (started (numbered i) i) ≡ true
unfolding started started_state instance_state_ok life_ok times_ok time_ok owner_ok holder_ok set_ok num rising all all_zero
started-ok i = refl

above-instances : (k i n : ℕ) → k < i → above instance_key k (instances_from i n) ≡ true
unfolding above instances_from
above-instances k i zero h = refl
above-instances k i (suc n) h = rw (started_key i, lt-ltb k i h) (above-instances k (suc i) n (omega arith))

rise_instances : (i n : ℕ) → rising instance_key (instances_from i n) ≡ true
unfolding rising instances_from
rise_instances i zero = refl
rise_instances i (suc n) = rw (started_key i, above-instances i (suc i) n (omega arith)) (rise_instances (suc i) n)

each_ok : (i n : ℕ) → all instance_ok (instances_from i n) ≡ true
unfolding all instances_from
each_ok i zero = refl
each_ok i (suc n) = rw (started-ok i) (each_ok (suc i) n)

each_below : (next i n : ℕ) → 1 ≤ i → i + n ≤ next → all (handle_below next) (instances_from i n) ≡ true
unfolding all instances_from
each_below next i zero l h = refl
each_below next i (suc n) l h =
    rw (started-handle i, le-leb 1 i l, lt-ltb i next (omega arith)) (each_below next (suc i) n (omega arith) (omega arith))

each_other : (k i n : ℕ) → k < i → all (other_handle k) (instances_from i n) ≡ true
unfolding all instances_from
each_other k i zero h = refl
each_other k i (suc n) h =
    rw (started-handle i, ne_eqb i k (λ e. absurd (omega (arith, e)))) (each_other k (suc i) n (omega arith))

distinct : (i n : ℕ) → handles_distinct (instances_from i n) ≡ true
unfolding handles_distinct instances_from
distinct i zero = refl
distinct i (suc n) = rw (started-handle i, each_other i (suc i) n (omega arith)) (distinct (suc i) n)

pub instances-ok : (next i n : ℕ) → 1 ≤ i → i + n ≤ next → instances_ok next (instances_from i n) ≡ true
unfolding instances_ok
instances-ok next i n l h = rw (rise_instances i n, each_ok i n, each_below next i n l h, distinct i n)

pub instances_fit : (i n : ℕ) → i + n ≤ 2 ^ 63 → All FitsInstance (instances_from i n)
unfolding instances_from
instances_fit i zero h = tt
instances_fit i (suc n) h = (
  unfold started in record { key = record { high = omega arith; low = omega arith }; handle = omega arith; state = fits_state started_state started-sound },
  instances_fit (suc i) n (omega arith),
)

-- ---- writers

abbrev state_for : Class → WriterState
state_for alive = Alive
state_for not_alive = NotAlive
state_for neither = Unasserted

abbrev writer_for : ℕ → Class → Writer
writer_for i c =
    record {
      guid = numbered i;
      liveliness = record { kind = Automatic; state = state_for c; lease = record { present = false; nanos = 0 }; last_assertion = 0 };
    }

unfoldable pub writers_from : ℕ → List Class → List Writer
writers_from i [] = []
writers_from i (c ∷ cs) = writer_for i c ∷ writers_from (suc i) cs

pub length-writers : (i : ℕ) (cs : List Class) → length (writers_from i cs) ≡ length cs
unfolding writers_from
length-writers i [] = refl
length-writers i (c ∷ cs) = ap suc (length-writers (suc i) cs)

above-writers : (k i : ℕ) (cs : List Class) → k < i → above writer_key k (writers_from i cs) ≡ true
unfolding above writers_from
above-writers k i [] h = refl
above-writers k i (c ∷ cs) h = rw (num-is i, lt-ltb k i h) (above-writers k (suc i) cs (omega arith))

rise_writers : (i : ℕ) (cs : List Class) → rising writer_key (writers_from i cs) ≡ true
unfolding rising writers_from
rise_writers i [] = refl
rise_writers i (c ∷ cs) = rw (num-is i, above-writers i (suc i) cs (omega arith)) (rise_writers (suc i) cs)

writer-ok : (i : ℕ) (c : Class) → writer_ok (writer_for i c) ≡ true
unfolding writer_ok lease_ok
writer-ok i alive = refl
writer-ok i not_alive = refl
writer-ok i neither = refl

each_writer : (i : ℕ) (cs : List Class) → all writer_ok (writers_from i cs) ≡ true
unfolding all writers_from
each_writer i [] = refl
each_writer i (c ∷ cs) = rw (writer-ok i c) (each_writer (suc i) cs)

pub writers-ok : (i : ℕ) (cs : List Class) → writers_ok (writers_from i cs) ≡ true
unfolding writers_ok
writers-ok i cs = rw (rise_writers i cs, each_writer i cs)

pub writers_fit : (i : ℕ) (cs : List Class) → i + length cs ≤ 2 ^ 63 → All FitsWriter (writers_from i cs)
unfolding writers_from
writers_fit i [] h = tt
writers_fit i (c ∷ cs) h = (
  record { guid = record { high = omega arith; low = omega arith }; lease = omega arith; last = omega arith },
  writers_fit (suc i) cs (omega arith),
)

-- ---- classes

class_tests : (c : Class) (i : ℕ) → (counts_alive (writer_for i c) ≡ is_alive_class c) × (counts_not_alive (writer_for i c) ≡ is_not_alive_class c)
class_tests alive i = (refl, refl)
class_tests not_alive i = (refl, refl)
class_tests neither i = (refl, refl)

-- the writers that pass a test are as many as the classes that do
module _ (p : Writer → Bool) (q : Class → Bool) (same : (c : Class) (i : ℕ) → p (writer_for i c) ≡ q c) where
  picked : (i : ℕ) (cs : List Class) → length (pick p (writers_from i cs)) ≡ length (pick q cs)
  unfolding pick writers_from
  picked i [] = refl
  picked i (c ∷ cs) = rw (same c i) (each (q c) (picked (suc i) cs))
    where
      each : (b : Bool) → length (pick p (writers_from (suc i) cs)) ≡ length (pick q cs) → length (cond b (writer_for i c ∷ pick p (writers_from (suc i) cs)) (pick p (writers_from (suc i) cs))) ≡ length (cond b (c ∷ pick q cs) (pick q cs))
      each true r = ap suc r
      each false r = r

module _ (q : Class → Bool) (c : Class) where
  picks : (n : ℕ) (cs : List Class) → q c ≡ true → length (pick q (replicate n c ++ cs)) ≡ n + length (pick q cs)
  unfolding pick
  picks zero cs e = omega arith
  picks (suc n) cs e = rw e (omega (arith, picks n cs e))

  passes : (n : ℕ) (cs : List Class) → q c ≡ false → length (pick q (replicate n c ++ cs)) ≡ length (pick q cs)
  unfolding pick
  passes zero cs e = refl
  passes (suc n) cs e = rw e (passes n cs e)

none_picked : (q : Class → Bool) → length (pick q []) ≡ 0
unfolding pick
none_picked q = refl

-- a alive, b not alive, c neither
abbrev pub classes : ℕ → ℕ → ℕ → List Class
classes a b c = replicate a alive ++ (replicate b not_alive ++ (replicate c neither ++ []))

pub length_classes : (a b c : ℕ) → length (classes a b c) ≡ a + (b + c)
length_classes a b c =
    omega (
      arith,
      length-append (replicate a alive) (replicate b not_alive ++ (replicate c neither ++ [])),
      length-append (replicate b not_alive) (replicate c neither ++ []),
      length-append (replicate c neither) [],
      length-replicate a alive,
      length-replicate b not_alive,
      length-replicate c neither,
    )

pub alive_are : (i a b c : ℕ) → alive_count (writers_from i (classes a b c)) ≡ a
unfolding alive_count
alive_are i a b c =
    picked counts_alive is_alive_class (λ d j. (class_tests d j).0) i (classes a b c)
    ∙ picks is_alive_class alive a _ refl
    ∙ ap (λ (n : ℕ). a + n) (passes is_alive_class not_alive b _ refl ∙ passes is_alive_class neither c [] refl ∙ none_picked is_alive_class)
    ∙ add-zero a

pub not_alive_are : (i a b c : ℕ) → not_alive_count (writers_from i (classes a b c)) ≡ b
unfolding not_alive_count
not_alive_are i a b c =
    picked counts_not_alive is_not_alive_class (λ d j. (class_tests d j).1) i (classes a b c)
    ∙ passes is_not_alive_class alive a _ refl
    ∙ picks is_not_alive_class not_alive b _ refl
    ∙ ap (λ (n : ℕ). b + n) (passes is_not_alive_class neither c [] refl ∙ none_picked is_not_alive_class)
    ∙ add-zero b
