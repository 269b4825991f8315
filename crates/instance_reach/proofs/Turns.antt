-- A call that reaches one instance, in terms of the list of instances. The laws speak of how the call reaches, not of which
-- call it is.
--     one_only                             a call on one instance is none on every
--     key_reach, handle-reach, starts_is    what each way to reach is
--     turn_found, turn_none, turn-started  the turn: one instance changed; none; one put in
--     call_found, call_crowded             the call: one instance changed; refusal 10
--     call_none                            no instance is reached, and none started
--     call-limited, call-full, call-spent, call-started
--                                          one would start: none at the limit, refusals 9 and 13, the start
use Prim.Native.Nat.{ℕ, ◌≤◌, ◌<◌, ◌^◌}
use mathlib.Core.Bool.{Bool, true, false, not, ◌&&◌, cond}
use mathlib.Core.List.{List, [], ◌∷◌, ◌++◌, map}
use mathlib.Core.Option.{Option, none, some}
use mathlib.Core.Path.{◌≡◌, refl, ap, ◌∙◌}
use borrow.Author.Tests.{eq-eqb, le-leb, lt-leb, not-true}
use lib.Dec.{leb}
use lib.ListN.{length, get_or, take, drop, set}
use lib.Seq.{get_or_at, length-take-le}
use Rattle.model.specs.declared.Instance.{Instance}
use Rattle.model.specs.declared.InstanceCall.{InstanceCall}
use Rattle.model.specs.declared.InstanceState.{InstanceState}
use Rattle.model.specs.declared.Reach.{Reach}
use Rattle.model.specs.declared.Reach.TheVariants.{ByKey as by_key, StartingByKey as starting_by_key, StartingWithin as starting_within, ByHandle as by_handle, Every as every}
use Rattle.model.specs.declared.Sheet.{Sheet}
use Rattle.model.specs.Answers.{silent}
use Rattle.model.specs.Guids.{num}
use Rattle.model.specs.Handles.{allocated}
use Rattle.model.specs.InstanceCalls.{refused, unchanged, with_instances, known, begins, begun, next_after, acts, instances_after, listed_by, handle_bytes, reached, answer_of, at_limit, full, spent, crowds, late_refusal, instance_turn, instance_call}
use Rattle.model.specs.Instances.{effect, rule, has_key, reaches_by, reaches, starts_by, limited_by, is_every, started}
use Rattle.model.specs.State.{State, instance_key}
use Rattle.model.specs.Tables.{pick, put, sift, rising}
use Rattle.model.specs.Times.{negative}
use Rattle.std.specs.Prelude.{Err}
use Rattle.tables.specs.Found.{found_in}
use Rattle.tables.specs.Places.{Only, Nowhere}
use Rattle.model.proofs.Tests.{clash}
use Rattle.tables.proofs.Finds.{find-only, find-nowhere, find-set, any-nowhere, pick-nowhere, only-insert}
use Rattle.tables.proofs.Puts.{missing-nowhere, missing-put, missing-sift, missing-le}
use Rattle.tables.proofs.Sifts.{sift-only, sift-nowhere}
use Rattle.instance_reach.specs.Rules.{single, handled}
use Rattle.instance_reach.specs.Turned.{with_state}

-- ---- of the ways to reach

-- what reaches one instance is not on every
pub one_only : (r : Reach) → single r ≡ true → is_every r ≡ false
one_only r h = not-true (is_every r) h

-- key and handle decide
with_reaches : (r : Reach) (s : Sheet) (x : Instance) (z : InstanceState) → reaches_by r s (with_state x z) ≡ reaches_by r s x
with_reaches by_key s x z = refl
with_reaches starting_by_key s x z = refl
with_reaches starting_within s x z = refl
with_reaches by_handle s x z = refl
with_reaches every s x z = refl

-- what holds of the test of the key holds of the test of a call by key
pub key_reach : (P : (Instance → Bool) → Type 0) (s : Sheet) → P (has_key s.key) → (r : Reach) → single r ≡ true → handled r ≡ false → P (reaches_by r s)
key_reach P s p by_key h k = p
key_reach P s p starting_by_key h k = p
key_reach P s p starting_within h k = p
key_reach P s p by_handle h k = clash true refl k
key_reach P s p every h k = clash false h refl

-- what holds of reaching by handle holds of a call that does
pub handle-reach : (P : Reach → Type 0) → P by_handle → (r : Reach) → handled r ≡ true → P r
handle-reach P p by_key h = clash false h refl
handle-reach P p starting_by_key h = clash false h refl
handle-reach P p starting_within h = clash false h refl
handle-reach P p by_handle h = p
handle-reach P p every h = clash false h refl

-- what starts an instance reaches one, by key
pub starts_is : (r : Reach) → starts_by r ≡ true → (single r ≡ true) × (handled r ≡ false)
starts_is by_key h = (refl, refl)
starts_is starting_by_key h = (refl, refl)
starts_is starting_within h = (refl, refl)
starts_is by_handle h = clash false h refl
starts_is every h = clash false h refl

-- only a call that starts an instance meets the limit
limit_idle : (r : Reach) (k b : Bool) → (starts_by r && not k) ≡ false → (limited_by r && (not k && b)) ≡ false
limit_idle by_key k b h = refl
limit_idle starting_by_key k b h = refl
limit_idle starting_within true b h = refl
limit_idle starting_within false b h = clash true refl h
limit_idle by_handle k b h = refl
limit_idle every k b h = refl

pub and_false : (b : Bool) → (b && false) ≡ false
and_false true = refl
and_false false = refl

-- ---- of one call

module _ (c : InstanceCall) (s : Sheet) where
  -- what is not reached is left alone
  acts-reached : (x : Instance) → reaches c s x ≡ false → acts c s x ≡ some x
  acts-reached x h = rw h

  acts_on : (x : Instance) (z : InstanceState) → reaches c s x ≡ true → effect c s x.state ≡ some z → acts c s x ≡ some (with_state x z)
  acts_on x z h e = rw (h, e)

  unlisted : (xs : List Instance) (d : Instance) → single (rule c).reach ≡ true → pick (listed_by c s) xs ≡ []
  unlisted xs d h = pick-nowhere (listed_by c s) d xs (λ j l. rw (one_only (rule c).reach h))

  module _ (st : State) where
    -- the turn, from its parts
    turn_of : (before after : List Instance) (next : ℕ) (d : Instance) (x y : Option Instance) → single (rule c).reach ≡ true →
        begun c s st ≡ before → instances_after c s st ≡ after → next_after c s st ≡ next → reached c s before ≡ x → reached c s after ≡ y →
        instance_turn c s st
        ≡ record { answer = answer_of (rule c).says s x y; state = with_instances after next st; list = [] }
    unfolding instance_turn handle_bytes
    turn_of before after next d x y h b a n p q =
        rw (b, a, n, unlisted before d h, one_only (rule c).reach h, p, q)

    -- ---- the turn

    -- no instance is started
    module _ (old : begins c s st ≡ false) where
      begun-old : begun c s st ≡ st.instances
      unfolding begun
      begun-old = rw old

      next-old : next_after c s st ≡ st.next_handle
      unfolding next_after
      next-old = rw old

      pub turn_found : (i : ℕ) (d : Instance) (z : InstanceState) → single (rule c).reach ≡ true → Only (reaches c s) st.instances i d →
          effect c s (get_or st.instances i d).state ≡ some z →
          instance_turn c s st
          ≡ record {
            answer = answer_of (rule c).says s (some (get_or st.instances i d)) (some (with_state (get_or st.instances i d) z));
            state = with_instances (set st.instances i (with_state (get_or st.instances i d) z)) st.next_handle st;
            list = [];
          }
      unfolding instances_after
      turn_found i d z h o e =
          let xs : List Instance = st.instances in
          let x : Instance = get_or xs i d in
          turn_of xs (set xs i (with_state x z)) st.next_handle d (some x) (some (with_state x z)) h begun-old
          (ap (sift (acts c s)) begun-old ∙ sift-only (acts c s) d (reaches c s) acts-reached xs i (with_state x z) o (acts_on x z o.here e))
          next-old (find-only (reaches c s) d xs i o)
          (find-set (reaches c s) xs (with_state x z) d i o (with_reaches (rule c).reach s x z ∙ o.here))

      pub turn_none : (d : Instance) → single (rule c).reach ≡ true → Nowhere (reaches c s) st.instances d →
          instance_turn c s st ≡ unchanged (answer_of (rule c).says s none none) st
      unfolding instances_after
      turn_none d h n =
          let xs : List Instance = st.instances in
          turn_of xs xs st.next_handle d none none h begun-old
          (ap (sift (acts c s)) begun-old ∙ sift-nowhere (acts c s) d (reaches c s) acts-reached xs n) next-old
          (find-nowhere (reaches c s) d xs n) (find-nowhere (reaches c s) d xs n)

    -- the instance of the key is started, and goes in at place i
    module _ (i : ℕ) (d : Instance) (r : rising instance_key st.instances ≡ true) (m : found_in (map instance_key st.instances) (num s.key) ≡ Err i)
        (starts : starts_by (rule c).reach ≡ true) where
      abbrev first : Instance
      first = started s.key (allocated st.next_handle).handle.0

      unknown : known s st ≡ false
      unknown = any-nowhere (has_key s.key) d st.instances (missing-nowhere instance_key st.instances d r (num s.key) i m)

      new : begins c s st ≡ true
      new = rw (starts, unknown)

      one : single (rule c).reach ≡ true
      one = (starts_is (rule c).reach starts).0

      keyed : handled (rule c).reach ≡ false
      keyed = (starts_is (rule c).reach starts).1

      reached_by_key : (x : Instance) → reaches c s x ≡ has_key s.key x
      reached_by_key x = key_reach (λ p. p x ≡ has_key s.key x) s refl (rule c).reach one keyed

      pub nowhere_yet : Nowhere (reaches c s) st.instances d
      nowhere_yet =
          key_reach (λ p. Nowhere p st.instances d) s (missing-nowhere instance_key st.instances d r (num s.key) i m) (rule c).reach one keyed

      -- an instance of the key that is put in is the one reached
      reached-in : (y : Instance) → reaches c s y ≡ true → reached c s (take i st.instances ++ y ∷ drop i st.instances) ≡ some y
      reached-in y h =
          let xs : List Instance = st.instances in
          let l : i ≤ length xs = missing-le instance_key xs d r (num s.key) i m in
          find-only (reaches c s) d (take i xs ++ y ∷ drop i xs) i (only-insert (reaches c s) xs y d i l nowhere_yet h)
          ∙ ap some (get_or_at (take i xs) y (drop i xs) d i (length-take-le i xs l))

      first_key : instance_key first ≡ num s.key
      unfolding started
      first_key = refl

      reaches-first : reaches c s first ≡ true
      reaches-first = reached_by_key first ∙ eq-eqb (instance_key first) (num s.key) first_key

      pub turn-started : (z : InstanceState) → effect c s first.state ≡ some z →
          instance_turn c s st
          ≡ record {
            answer = answer_of (rule c).says s (some first) (some (with_state first z));
            state = with_instances (take i st.instances ++ with_state first z ∷ drop i st.instances) (allocated st.next_handle).counter st;
            list = [];
          }
      unfolding instances_after begun next_after
      turn-started z e =
          let xs : List Instance = st.instances in
          let y : Instance = with_state first z in
          let b : begun c s st ≡ put instance_key first xs = rw new in
          let p : put instance_key first xs ≡ take i xs ++ first ∷ drop i xs = missing-put instance_key xs d r (num s.key) i first first_key m in
          turn_of (take i xs ++ first ∷ drop i xs) (take i xs ++ y ∷ drop i xs) (allocated st.next_handle).counter d (some first) (some y) one (b ∙ p)
          (ap (sift (acts c s)) b
          ∙ missing-sift instance_key xs d r (num s.key) i (acts c s)
          (λ x h. acts-reached x (reached_by_key x ∙ h)) m first first_key y (acts_on first z reaches-first e))
          (rw new) (reached-in first reaches-first) (reached-in y (with_reaches (rule c).reach s first z ∙ reaches-first))

    -- ---- the call

    -- no instance is started
    module _ (places : ℕ) (old : begins c s st ≡ false) where
      unlimited : (limited_by (rule c).reach && at_limit s st) ≡ false
      unlimited = limit_idle (rule c).reach (known s st) (not (negative s.first) && leb s.first (length st.instances)) old

      late_old : (x : Option Instance) → reached c s st.instances ≡ x →
          late_refusal places c s st ≡ cond ((rule c).adds_writer && crowds s x) 10 0
      unfolding late_refusal
      late_old x e = rw (old, e)

      module _ (i : ℕ) (d : Instance) (h : single (rule c).reach ≡ true) (o : Only (reaches c s) st.instances i d) where
        pub call_found : (z : InstanceState) → effect c s (get_or st.instances i d).state ≡ some z →
            ((rule c).adds_writer && crowds s (some (get_or st.instances i d))) ≡ false →
            instance_call places c s st
            ≡ record {
              answer = answer_of (rule c).says s (some (get_or st.instances i d)) (some (with_state (get_or st.instances i d) z));
              state = with_instances (set st.instances i (with_state (get_or st.instances i d) z)) st.next_handle st;
              list = [];
            }
        unfolding instance_call
        call_found z e n =
            rw (unlimited, late_old (some (get_or st.instances i d)) (find-only (reaches c s) d st.instances i o), n)
            (turn_found old i d z h o e)

        pub call_crowded : ((rule c).adds_writer && crowds s (some (get_or st.instances i d))) ≡ true →
            instance_call places c s st ≡ refused 10 st
        unfolding instance_call
        call_crowded n = rw (unlimited, late_old (some (get_or st.instances i d)) (find-only (reaches c s) d st.instances i o), n)

      pub call_none : (d : Instance) → single (rule c).reach ≡ true → Nowhere (reaches c s) st.instances d →
          instance_call places c s st ≡ unchanged (answer_of (rule c).says s none none) st
      unfolding instance_call
      call_none d h n =
          rw (unlimited, late_old none (find-nowhere (reaches c s) d st.instances n), and_false (rule c).adds_writer) (turn_none old d h n)

    -- the call would start the instance of its key, at place i
    module _ (places i : ℕ) (d : Instance) (r : rising instance_key st.instances ≡ true)
        (m : found_in (map instance_key st.instances) (num s.key) ≡ Err i) (starts : starts_by (rule c).reach ≡ true) where
      -- the limit, where the key is unknown
      abbrev pub limit : Bool
      limit = limited_by (rule c).reach && (not (negative s.first) && leb s.first (length st.instances))

      limit_is : (limited_by (rule c).reach && at_limit s st) ≡ limit
      limit_is = rw (unknown i d r m starts)

      pub call-limited : limit ≡ true → instance_call places c s st ≡ unchanged silent st
      unfolding instance_call
      call-limited h = rw (limit_is, h)

      module _ (h : limit ≡ false) where
        late_new : late_refusal places c s st ≡ cond (full places st) 9 (cond (spent st) 13 0)
        unfolding late_refusal
        late_new =
            rw (
              new i d r m starts,
              find-nowhere (reaches c s) d st.instances (nowhere_yet i d r m starts),
              and_false (rule c).adds_writer,
            )

        pub call-full : places ≤ length st.instances → instance_call places c s st ≡ refused 9 st
        unfolding instance_call
        call-full f = rw (limit_is, h, late_new, le-leb places (length st.instances) f)

        module _ (f : length st.instances < places) where
          pub call-spent : 2 ^ 63 ≤ st.next_handle → instance_call places c s st ≡ refused 13 st
          unfolding instance_call
          call-spent p = rw (limit_is, h, late_new, lt-leb places (length st.instances) f, le-leb (2 ^ 63) st.next_handle p)

          pub call-started : (z : InstanceState) → st.next_handle < 2 ^ 63 → effect c s (first i d r m starts).state ≡ some z →
              instance_call places c s st
              ≡ record {
                answer = answer_of (rule c).says s (some (first i d r m starts)) (some (with_state (first i d r m starts) z));
                state = with_instances (take i st.instances ++ with_state (first i d r m starts) z ∷ drop i st.instances) (allocated st.next_handle).counter st;
                list = [];
              }
          unfolding instance_call
          call-started z p e =
              rw (limit_is, h, late_new, lt-leb places (length st.instances) f, lt-leb (2 ^ 63) st.next_handle p)
              (turn-started i d r m starts z e)
