-- Code 48 where its tests let the sample through: codes 16, 9 and 10, then the owner of an instance that the call started.
--     touched_found, length_acting, any_acting, find_acting     a call by key on the list of instances
--     found_started           the instance that a call starts is the one found
--     tried_owned             where the writer takes over, code 16 gives it the instance
--     first_taken             so it does with an instance that the call started
--     noted_owned             codes 9 and 10 leave the owner
--     tried_again             a further code 16 changes nothing where codes 16, 9 and 10 came before
--     admitted-state          what the call leaves is what a further code 16 leaves
--     accepted_again          and one more changes nothing
use Prim.Native.Nat.{ℕ, suc}
use mathlib.Core.Bool.{Bool, true, false, ◌||◌, cond}
use mathlib.Core.List.{List, [], ◌∷◌}
use mathlib.Core.Option.{Option, none, some}
use mathlib.Core.Path.{◌≡◌, refl, sym, ap, ◌∙◌}
use borrow.Author.Tests.{eq-eqb}
use lib.Dec.{ltb}
use lib.ListN.{length}
use Rattle.model.specs.declared.Guid.{Guid}
use Rattle.model.specs.declared.Instance.{Instance}
use Rattle.model.specs.declared.InstanceState.{InstanceState}
use Rattle.model.specs.declared.Sheet.{Sheet}
use Rattle.model.specs.Calls.{accept_under_exclusive_ownership}
use Rattle.model.specs.Guids.{num, same}
use Rattle.model.specs.Handles.{allocated}
use Rattle.model.specs.InstanceCalls.{with_instances, known, begun, next_after, instances_after, instance_turn}
use Rattle.model.specs.Instances.{has_key, started, started_state, owned_from, outbids, takes_over, ownership_tried, admitted_observed, admitted_noted, writer_noted}
use Rattle.model.specs.Joined.{sampled, first_owned, admitted}
use Rattle.model.specs.State.{State, instance_key}
use Rattle.model.specs.Tables.{find, any, put, sift}
use Rattle.model.proofs.Tests.{split, clash}

-- ---- a sift that keeps every record and its key

-- x with another state
abbrev with : Instance → InstanceState → Instance
with x y = record { key = x.key; handle = x.handle; state = y }

-- g acts on the state of the record of one key
abbrev touched : (InstanceState → InstanceState) → Guid → Instance → Instance
touched g k x = cond (has_key k x) (with x (g x.state)) x

abbrev pub touched_found : (InstanceState → InstanceState) → Option Instance → Option Instance
touched_found g none = none
touched_found g (some x) = some (with x (g x.state))

abbrev acting : (InstanceState → InstanceState) → Guid → Instance → Option Instance
acting g k x = cond (has_key k x) (some (with x (g x.state))) (some x)

module _ (g : InstanceState → InstanceState) (k : Guid) where
  acting_some : (x : Instance) → acting g k x ≡ some (touched g k x)
  acting_some x = each (has_key k x)
    where
      each : (b : Bool) → cond b (some (with x (g x.state))) (some x) ≡ some (cond b (with x (g x.state)) x)
      each true = refl
      each false = refl

  touched_key : (x : Instance) → (touched g k x).key ≡ x.key
  touched_key x = each (has_key k x)
    where
      each : (b : Bool) → (cond b (with x (g x.state)) x).key ≡ x.key
      each true = refl
      each false = refl

  pub length_acting : (xs : List Instance) → length (sift (acting g k) xs) ≡ length xs
  unfolding sift
  length_acting [] = refl
  length_acting (x ∷ xs) = rw (acting_some x) (ap suc (length_acting xs))

  pub any_acting : (xs : List Instance) → any (has_key k) (sift (acting g k) xs) ≡ any (has_key k) xs
  unfolding sift any
  any_acting [] = refl
  any_acting (x ∷ xs) = rw (acting_some x, touched_key x, any_acting xs)

  pub find_acting : (xs : List Instance) → find (has_key k) (sift (acting g k) xs) ≡ touched_found g (find (has_key k) xs)
  unfolding sift find
  find_acting [] = refl
  find_acting (x ∷ xs) = each (has_key k x) refl (find_acting xs)
    where
      each : (b : Bool) → has_key k x ≡ b → find (has_key k) (sift (acting g k) xs) ≡ touched_found g (find (has_key k) xs) →
          find (has_key k) (sift (acting g k) (x ∷ xs)) ≡ touched_found g (find (has_key k) (x ∷ xs))
      each true e r = rw (e, e)
      each false e r = rw (e, e) r

  -- nobody has the key
  acting_nobody : (xs : List Instance) → any (has_key k) xs ≡ false → sift (acting g k) xs ≡ xs
  unfolding sift any
  acting_nobody [] n = refl
  acting_nobody (x ∷ xs) n = each (has_key k x) refl n (acting_nobody xs)
    where
      each : (b : Bool) → has_key k x ≡ b → (b || any (has_key k) xs) ≡ false → (any (has_key k) xs ≡ false → sift (acting g k) xs ≡ xs) →
          sift (acting g k) (x ∷ xs) ≡ x ∷ xs
      each true e m r = clash true refl m
      each false e m r = rw e (ap (λ (z : List Instance). x ∷ z) (r m))

  -- two actions, one after the other, on the records of one key
  acting_acting : (f h : InstanceState → InstanceState) → ((x : InstanceState) → f (g x) ≡ h x) → (xs : List Instance) →
      sift (acting f k) (sift (acting g k) xs) ≡ sift (acting h k) xs
  unfolding sift
  acting_acting f h e [] = refl
  acting_acting f h e (x ∷ xs) = each (has_key k x) refl (acting_acting f h e xs)
    where
      each : (b : Bool) → has_key k x ≡ b → sift (acting f k) (sift (acting g k) xs) ≡ sift (acting h k) xs →
          sift (acting f k) (sift (acting g k) (x ∷ xs)) ≡ sift (acting h k) (x ∷ xs)
      each true d r = rw (d, d, e x.state, r)
      each false d r = rw (d, d, r)

-- ---- a record put in whose key nobody else has

module _ (y : Instance) (own : has_key y.key y ≡ true) where
  find-put : (xs : List Instance) → any (has_key y.key) xs ≡ false → find (has_key y.key) (put instance_key y xs) ≡ some y
  unfolding put find any
  find-put [] n = rw own
  find-put (x ∷ xs) n = each (ltb (instance_key x) (instance_key y)) (has_key y.key x) refl n (find-put xs)
    where
      each : (a b : Bool) → has_key y.key x ≡ b → (b || any (has_key y.key) xs) ≡ false →
          (any (has_key y.key) xs ≡ false → find (has_key y.key) (put instance_key y xs) ≡ some y) →
          find (has_key y.key) (cond a (x ∷ put instance_key y xs) (cond b (y ∷ xs) (y ∷ x ∷ xs))) ≡ some y
      each a true e m r = clash true refl m
      each true false e m r = rw e (r m)
      each false false e m r = rw own

  acting_put : (g : InstanceState → InstanceState) (xs : List Instance) → any (has_key y.key) xs ≡ false →
      sift (acting g y.key) (put instance_key y xs) ≡ put instance_key (with y (g y.state)) xs
  unfolding put sift any
  acting_put g [] n = rw own
  acting_put g (x ∷ xs) n = each (ltb (instance_key x) (instance_key y)) (has_key y.key x) refl n (acting_put g xs)
    where
      each : (a b : Bool) → has_key y.key x ≡ b → (b || any (has_key y.key) xs) ≡ false →
          (any (has_key y.key) xs ≡ false → sift (acting g y.key) (put instance_key y xs) ≡ put instance_key (with y (g y.state)) xs) →
          sift (acting g y.key) (cond a (x ∷ put instance_key y xs) (cond b (y ∷ xs) (y ∷ x ∷ xs)))
          ≡ cond a (x ∷ put instance_key (with y (g y.state)) xs) (cond b (with y (g y.state) ∷ xs) (with y (g y.state) ∷ x ∷ xs))
      each a true e m r = clash true refl m
      each true false e m r = rw e (ap (λ (z : List Instance). x ∷ z) (r m))
      each false false e m r = rw (own, e) (ap (λ (z : List Instance). with y (g y.state) ∷ x ∷ z) (acting_nobody g y.key xs m))

own_key : (k : Guid) → same k k ≡ true
own_key k = eq-eqb (num k) (num k) refl

pub found_started : (k : Guid) (h : ℕ) (xs : List Instance) → any (has_key k) xs ≡ false → find (has_key k) (put instance_key (started k h) xs) ≡ some (started k h)
unfolding started
found_started k h xs n = find-put (started k h) (own_key k) xs n

-- ---- code 16 on an instance

-- it takes it, or leaves it
pub tried_owned : (s : Sheet) (x : InstanceState) → takes_over s x ≡ true → ownership_tried s x ≡ owned_from s x
unfolding ownership_tried
tried_owned s x e = rw e

tried_left : (s : Sheet) (x : InstanceState) → takes_over s x ≡ false → ownership_tried s x ≡ x
unfolding ownership_tried
tried_left s x e = rw e

-- an instance without an owner
unowned_taken : (s : Sheet) (x : InstanceState) → x.owner.present ≡ false → ownership_tried s x ≡ owned_from s x
unfolding takes_over outbids
unowned_taken s x e = tried_owned s x (rw e)

-- the owner stays it
owner_takes : (s : Sheet) (x : InstanceState) → takes_over s (owned_from s x) ≡ true
unfolding takes_over outbids
owner_takes s x = rw (eq-eqb (num s.guid) (num s.guid) refl)

owned_again : (s : Sheet) (x : InstanceState) → ownership_tried s (owned_from s x) ≡ owned_from s x
owned_again s x = tried_owned s (owned_from s x) (owner_takes s x)

tried_twice : (s : Sheet) (x : InstanceState) → ownership_tried s (ownership_tried s x) ≡ ownership_tried s x
tried_twice s x =
    split (takes_over s x)
    (λ e. let o : ownership_tried s x ≡ owned_from s x = tried_owned s x e in rw o (owned_again s x))
    (λ e. let o : ownership_tried s x ≡ x = tried_left s x e in rw o o)

-- codes 9 and 10 leave what code 16 asks for and sets
noted_takes : (s : Sheet) (x : InstanceState) → takes_over s (admitted_noted s (admitted_observed s x)) ≡ takes_over s x
unfolding takes_over admitted_noted admitted_observed writer_noted
noted_takes s x = refl

pub noted_owned : (s : Sheet) (x : InstanceState) →
    admitted_noted s (admitted_observed s (owned_from s x)) ≡ owned_from s (admitted_noted s (admitted_observed s x))
unfolding admitted_noted admitted_observed writer_noted
noted_owned s x = refl

pub tried_again : (s : Sheet) (x : InstanceState) →
    ownership_tried s (admitted_noted s (admitted_observed s (ownership_tried s x))) ≡ admitted_noted s (admitted_observed s (ownership_tried s x))
tried_again s x =
    split (takes_over s x)
    (λ e. rw (tried_owned s x e, noted_owned s x) (owned_again s (admitted_noted s (admitted_observed s x))))
    (λ e. rw (tried_left s x e) (tried_left s (admitted_noted s (admitted_observed s x)) (noted_takes s x ∙ e)))

pub first_taken : (s : Sheet) →
    ownership_tried s (admitted_noted s (admitted_observed s started_state)) ≡ owned_from s (admitted_noted s (admitted_observed s started_state))
unfolding admitted_noted admitted_observed writer_noted started_state
first_taken s = unowned_taken s _ refl

-- ---- what the call leaves

module _ (s : Sheet) (st : State) where
  -- a further code 16
  abbrev further : List Instance → List Instance
  further xs = sift (acting (ownership_tried s) s.key) xs

  abbrev sampled_state : InstanceState → InstanceState
  sampled_state x = admitted_noted s (admitted_observed s (ownership_tried s x))

  -- the key is known: each call acts on the instance there
  sampled-known : known s st ≡ true → (sampled s st).state.instances ≡ sift (acting sampled_state s.key) st.instances
  unfolding sampled instance_turn instances_after begun
  sampled-known e =
      rw (any_acting (ownership_tried s) s.key st.instances, e)
      (ap (sift (acting (admitted_noted s) s.key))
      (acting_acting (ownership_tried s) s.key (admitted_observed s) (λ x. admitted_observed s (ownership_tried s x)) (λ x. refl) st.instances)
      ∙ acting_acting (λ x. admitted_observed s (ownership_tried s x)) s.key (admitted_noted s) sampled_state (λ x. refl) st.instances)

  further_known : known s st ≡ true → further (sampled s st).state.instances ≡ (sampled s st).state.instances
  further_known e =
      ap further (sampled-known e)
      ∙ acting_acting sampled_state s.key (ownership_tried s) sampled_state (tried_again s) st.instances
      ∙ sym (sampled-known e)

  -- the key is not known: code 16 does nothing, code 9 starts the instance, and code 10 acts on it
  abbrev first : InstanceState
  first = admitted_noted s (admitted_observed s started_state)

  abbrev begin : InstanceState → Instance
  begin x = record { key = s.key; handle = (started s.key (allocated st.next_handle).handle.0).handle; state = x }

  sampled_new : known s st ≡ false → (sampled s st).state.instances ≡ put instance_key (begin first) st.instances
  unfolding sampled instance_turn instances_after begun next_after started
  sampled_new e =
      rw (acting_nobody (ownership_tried s) s.key st.instances e, e)
      (ap (sift (acting (admitted_noted s) s.key)) (acting_put (begin started_state) (own_key s.key) (admitted_observed s) st.instances e)
      ∙ acting_put (begin (admitted_observed s started_state)) (own_key s.key) (admitted_noted s) st.instances e)

  further_new : known s st ≡ false →
      further (sampled s st).state.instances ≡ (first_owned s (sampled s st).state).instances
  unfolding first_owned
  further_new e =
      ap further (sampled_new e)
      ∙ acting_put (begin first) (own_key s.key) (ownership_tried s) st.instances e
      ∙ ap (λ (x : InstanceState). put instance_key (begin x) st.instances) (first_taken s)
      ∙ sym (acting_put (begin first) (own_key s.key) (owned_from s) st.instances e)
      ∙ sym (ap (sift (acting (owned_from s) s.key)) (sampled_new e))

  pub admitted-state : (admitted s st).state ≡ (instance_turn accept_under_exclusive_ownership s (sampled s st).state).state
  unfolding admitted first_owned instance_turn instances_after begun next_after
  admitted-state =
      split (known s st)
      (λ e. rw e (ap (λ (xs : List Instance). with_instances xs (sampled s st).state.next_handle (sampled s st).state) (sym (further_known e))))
      (λ e. rw e (ap (λ (xs : List Instance). with_instances xs (sampled s st).state.next_handle (sampled s st).state) (sym (further_new e))))

  pub accepted_again : (instance_turn accept_under_exclusive_ownership s (admitted s st).state).state ≡ (admitted s st).state
  accepted_again = rw admitted-state (twice (sampled s st).state)
    where
      twice : (x : State) →
          (instance_turn accept_under_exclusive_ownership s (instance_turn accept_under_exclusive_ownership s x).state).state
          ≡ (instance_turn accept_under_exclusive_ownership s x).state
      twice x =
          unfold instance_turn instances_after begun next_after in
          ap (λ (xs : List Instance). with_instances xs x.next_handle x)
          (acting_acting (ownership_tried s) s.key (ownership_tried s) (ownership_tried s) (tried_twice s) x.instances)
