-- The claims, for every list of a console from fresh and for any number of places.
--     no_false_abandonment, no_missed_abandonment, shown_if_no_one, set_is_who_stands
use mathlib.Core.Bool.{true, false}
use mathlib.Core.List.{List, [], ◌∷◌}
use mathlib.Core.Option.{Option, none, some}
use mathlib.Core.Path.{◌≡◌, refl, sym, ap, ◌∙◌, subst}
use Prim.Native.Nat.{ℕ}
use Rattle.octets.specs.Lay.{All}
use Rattle.model.specs.declared.Guid.{Guid}
use Rattle.model.specs.declared.Instance.{Instance}
use Rattle.model.specs.declared.InstanceStateKind.TheVariants.{Alive, NotAliveNoWriters}
use Rattle.model.specs.Call.{call_in}
use Rattle.model.specs.Calls.{Call}
use Rattle.model.specs.Guids.{num}
use Rattle.model.specs.Instances.{is_alive}
use Rattle.model.specs.Sets.{has, is_empty}
use Rattle.model.specs.State.{Lent, State, state_of, fresh, instance_key}
use Rattle.model.proofs.StateLaws.{read_back}
use Rattle.model.proofs.Tests.{split}
use Rattle.accounts.specs.Accounts.{Accounts, absent, accepted, advance, accounts_from, accounts_of, Lending, event_of, next, final, history, SheetBytes}
use Rattle.accounts.specs.InstanceAccounts.{Event}
use Rattle.accounts.specs.WriterAccounts.{WriterAccounts}
use Rattle.accounts.proofs.Basics.{never}
use Rattle.accounts.proofs.Demand3.{After, after_list, after-fresh}
use Rattle.accounts.proofs.InStep.{held_fits}
use Rattle.accounts.proofs.Sound.{SoundState}
use Rattle.accounts.proofs.TurnLaws.{lookup, lookup_all}
use Rattle.accounts.proofs.InstanceSound.{SoundInstance}
use Rattle.abandonment.specs.Standing.{Stand, nobody, heard, stand_from, stand_of, standing}
use Rattle.abandonment.specs.Console.{Fits, stands_after, KeepsFrom, Keeps}
use Rattle.abandonment.specs.Claims.{pen_of, Written, Someone, NoOne, NoFalseAbandonment, NoMissedAbandonment, ExactlyShown, ShownIfNoOne, SetIsWhoStands, OnEvery}
use Rattle.abandonment.proofs.SetLaws.{none_in, SomeIn, some_in}
use Rattle.abandonment.proofs.KindLaws.{shown}
use Rattle.abandonment.proofs.OnInstance.{Stands, Agrees, same_shown}
use Rattle.accounts.proofs.Answered.{real_next}
use Rattle.abandonment.proofs.Steps.{step, unheard}

-- ---- one call

module _ (places : ℕ) (i : Lending) (l : Lent) (acc : Accounts) (bytes : SheetBytes i) (at : After places l acc) where
  abbrev e : Event
  e = event_of i.sheet (next (call_in places) i l).answer

  pub sound-at : (k : ℕ) (x : Instance) → acc.instances.at k ≡ some x → SoundState x.state
  sound-at k x q =
      (lookup_all instance_key SoundInstance k at.state.instances x at.held.instances.each
      (at.held.sim.instances.agree k ∙ q)).state

  pub after_one : After places (next (call_in places) i l).lent (advance e acc)
  after_one = unfold final history accounts_from in after_list places (i ∷ []) l acc (bytes, tt) at

  module _ (stands : ℕ → Stand) (m : (k : ℕ) → Agrees (acc.instances.at k) (stands k)) (fits : Fits e acc stands) where
    pub stepped : (k : ℕ) → Agrees ((advance e acc).instances.at k) (stands_after e acc stands k)
    stepped k = go (accepted e) refl
      where
        go : (o : Option Call) → accepted e ≡ o → Agrees ((advance e acc).instances.at k) (stands_after e acc stands k)
        go none is =
            unfold advance in
            rw (unheard e acc.writers.at (heard e acc.writers).at k (stands k) is, is) (m k)
        go (some c) is =
            let s = step e acc stands m sound-at acc.writers.at (heard e acc.writers).at c is (real_next places i l acc bytes at c is) fits k in
            unfold advance in
            rw is (rw is at s)

-- ---- a list of them

agreeing : (places : ℕ) (is : List Lending) (l : Lent) (acc : Accounts) (stands : ℕ → Stand) → All SheetBytes is →
    After places l acc →
    ((k : ℕ) → Agrees (acc.instances.at k) (stands k)) → KeepsFrom (history (call_in places) is l) acc stands →
    (k : ℕ) → Agrees ((accounts_from (history (call_in places) is l) acc).instances.at k)
    (stand_from k (history (call_in places) is l) acc.writers (stands k))
unfolding history accounts_from stand_from KeepsFrom
agreeing places [] l acc stands b at m h k = m k
agreeing places (i ∷ is) l acc stands b at m h k =
    subst (λ (w : WriterAccounts). Agrees ((accounts_from rest (advance e acc)).instances.at k) (stand_from k rest w
    (stands_after e acc stands k))) (sym (same-writers e acc))
    (agreeing places is (next (call_in places) i l).lent (advance e acc) (stands_after e acc stands) b.1
    (after_one places i l acc b.0 at) (stepped places i l acc b.0 at stands m h.0) h.1 k)
  where
    e : Event
    e = event_of i.sheet (next (call_in places) i l).answer

    rest : List Event
    rest = history (call_in places) is (next (call_in places) i l).lent

    same-writers : (d : Event) (a : Accounts) → heard d a.writers ≡ (advance d a).writers
    same-writers d a = unfold advance in refl

-- ---- the final pens

pub pen-after : (places : ℕ) (l : Lent) (acc : Accounts) → After places l acc → (k : Guid) →
    pen_of k l ≡ acc.instances.at (num k)
pen-after places l acc m k =
    ap (λ (st : State). lookup instance_key (num k) st.instances)
    (ap state_of m.laid ∙ read_back places m.state l.out (held_fits places m.state acc m.held))
    ∙ m.held.sim.instances.agree (num k)

module _ (places : ℕ) (is : List Lending) (out : List ℕ) (b : All SheetBytes is) where
  abbrev h : List Event
  h = history (call_in places) is (fresh places out)

  abbrev l : Lent
  l = final (call_in places) is (fresh places out)

  module _ (keeps : Keeps h) where
    finally : (k : Guid) → Agrees (pen_of k l) (stand_of (num k) h)
    finally k =
        rw (pen-after places l (accounts_of h) (after-fresh places is out b) k)
        (unfold accounts_of in agreeing places is (fresh places out) absent (λ j. nobody) b fresh-after (λ j g. nobody-in g) keeps (num k))
      where
        fresh-after : After places (fresh places out) absent
        fresh-after = unfold final history accounts_from accounts_of in after-fresh places [] out tt

        nobody-in : (g : Guid) → has g [] ≡ false
        nobody-in g = unfold has in refl

    pub written : (k g : Guid) → standing k g h ≡ true → Written k g l
    written k g s = go (pen_of k l) refl (finally k)
      where
        go : (o : Option Instance) → pen_of k l ≡ o → Agrees o (stand_of (num k) h) → Written k g l
        go none q m = never (sym s ∙ m g)
        go (some x) q m =
            record {
              pen = x;
              there = q;
              alive = same_shown x (stand_of (num k) h) m ∙ ap shown not_empty;
              writes = m.who g ∙ s;
            }
          where
            not_empty : is_empty (stand_of (num k) h).writers ≡ false
            not_empty =
                split (is_empty (stand_of (num k) h).writers)
                (λ d. never (sym s ∙ none_in g (stand_of (num k) h).writers d)) (λ d. d)

    pub stands-there : (k : Guid) (x : Instance) → pen_of k l ≡ some x → Stands x (stand_of (num k) h)
    stands-there k x q = subst (λ (o : Option Instance). Agrees o (stand_of (num k) h)) q (finally k)

    pub someone-there : (k : Guid) (x : Instance) → pen_of k l ≡ some x → x.state.life.kind ≡ Alive → Someone k h
    someone-there k x q a =
        let one : SomeIn (stand_of (num k) h).writers = some_in (stand_of (num k) h).writers not_empty in
        record { writer = one.one; stands = one.inside }
      where
        not_empty : is_empty (stand_of (num k) h).writers ≡ false
        not_empty =
            split (is_empty (stand_of (num k) h).writers)
            (λ d. never (sym (ap is_alive a) ∙ ap is_alive (same_shown x (stand_of (num k) h) (stands-there k x q) ∙ ap shown d)))
            (λ d. d)

    pub exactly : (k : Guid) (x : Instance) → pen_of k l ≡ some x → ExactlyShown k x h
    exactly k x q = record { only = only; if = if }
      where
        m : Stands x (stand_of (num k) h)
        m = stands-there k x q

        only : x.state.life.kind ≡ NotAliveNoWriters → NoOne k h
        only d g =
            split (standing k g h)
            (λ s. let w = written k g s in let p : some w.pen ≡ some x = sym w.there ∙ q in
            let r : w.pen ≡ x = cc in
            never (sym (ap is_alive w.alive) ∙ ap (λ (y : Instance). is_alive y.state.life.kind) r ∙ ap is_alive d))
            (λ s. s)

        if : NoOne k h → x.state.life.kind ≡ NotAliveNoWriters
        if n =
            same_shown x (stand_of (num k) h) m ∙ ap shown empty
          where
            empty : is_empty (stand_of (num k) h).writers ≡ true
            empty =
                split (is_empty (stand_of (num k) h).writers) (λ d. d)
                (λ d. let one = some_in (stand_of (num k) h).writers d in never (sym one.inside ∙ n one.one))

-- ---- the claims

pub no_false_abandonment : (places : ℕ) → OnEvery places (call_in places) NoFalseAbandonment
no_false_abandonment places is out b keeps k g s = written places is out b keeps k g s

pub no_missed_abandonment : (places : ℕ) → OnEvery places (call_in places) NoMissedAbandonment
no_missed_abandonment places is out b keeps k x q a = someone-there places is out b keeps k x q a

pub shown_if_no_one : (places : ℕ) → OnEvery places (call_in places) ShownIfNoOne
shown_if_no_one places is out b keeps k x q = exactly places is out b keeps k x q

pub set_is_who_stands : (places : ℕ) → OnEvery places (call_in places) SetIsWhoStands
set_is_who_stands places is out b keeps k g x q = (stands-there places is out b keeps k x q).who g
