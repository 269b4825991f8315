-- A sound value fits its bytes and is well formed; as plain facts, group by group.
--     ok-state, fits_state       a sound instance passes section 2's test and fits
--     set-members, set-without, set_with      sets of writers
use mathlib.Core.Bool.{true, false, not, ◌&&◌}
use mathlib.Core.List.{List, [], ◌∷◌}
use mathlib.Core.Path.{◌≡◌, refl, sym, ap, ◌∙◌, subst}
use Prim.Native.Nat.{ℕ, zero, suc, ◌-◌, ◌^◌, ◌≤◌, ◌<◌}
use native.Mathlib.Omega.{arith}
use borrow.Author.Tests.{eqb-true, lt-ltb, le-leb}
use lib.Dec.{eqb, leb, ltb}
use lib.ListN.{length, drop, replicate, length-append, length-replicate}
use lib.Seq.{drop_at}
use Rattle.octets.specs.Bounds.{Bytes}
use Rattle.octets.specs.Lay.{All}
use Rattle.octets.proofs.LayLaws.{all_append}
use Rattle.model.specs.declared.Guid.{Guid}
use Rattle.model.specs.declared.Holder.{Holder}
use Rattle.model.specs.declared.InstanceState.{InstanceState}
use Rattle.model.specs.declared.Life.{Life}
use Rattle.model.specs.declared.MaybeOwner.{MaybeOwner}
use Rattle.model.specs.declared.MaybeTime.{MaybeTime}
use Rattle.model.specs.declared.Times.{Times}
use Rattle.model.specs.declared.WriterSet.{WriterSet}
use Rattle.model.specs.Guids.{num, nil}
use Rattle.model.specs.Sets.{members, set_of, has, insert, remove}
use Rattle.model.specs.Tables.{all, is_some, find, put}
use Rattle.model.specs.WellFormed.{time_ok, times_ok, owner_ok, holder_ok, is_nil, set_ok, life_ok, instance_state_ok}
use Rattle.model.proofs.Fits.{FitsGuid, FitsTime, FitsSet, FitsState}
use Rattle.model.proofs.SetLaws.{members_of, remove-le}
use Rattle.model.proofs.Keeps.{Lives, Timed, Each}
use Rattle.accounts.specs.Ranges.{bound, guid_numbered}
use Rattle.model.proofs.Tests.{split}
use Rattle.accounts.proofs.Basics.{one_more}
use Rattle.accounts.proofs.RangeLaws.{num-below, numbered-num}
use Rattle.accounts.proofs.TurnLaws.{lookup, Within, within_weaken, within-put, within-rises, length-put}
use Rattle.model.proofs.TableLaws.{all-put}

-- ---- the groups of an instance

pub record SoundTime (t : MaybeTime) : Type 0 where
  pub sec : t.sec < 256 ^ 4
  pub nanosec : t.nanosec < 256 ^ 4
  pub ok : time_ok t ≡ true

pub record SoundOwner (o : MaybeOwner) : Type 0 where
  pub guid : FitsGuid o.guid
  pub strength : o.strength < 256 ^ 4
  pub ok : owner_ok o ≡ true

pub record SoundHolder (h : Holder) : Type 0 where
  pub len : h.len ≤ 144
  pub size : length h.bytes ≡ 144
  pub bytes : Bytes h.bytes
  pub ok : holder_ok h ≡ true

-- the writers of a set, rising and no more than 16, nil behind them
pub record SoundSet (w : WriterSet) : Type 0 where
  pub list : List Guid
  pub is : w ≡ set_of list
  pub few : length list ≤ 16
  pub rises : Within num 0 bound list
  pub fits : All FitsGuid list

abbrev pub Generation : ℕ → Type 0
Generation n = n < 2 ^ 31

abbrev pub Count : ℕ → Type 0
Count n = n < 256 ^ 4

abbrev pub SoundLife : Life → Type 0
SoundLife l = Lives Generation Count SoundTime SoundOwner SoundHolder SoundSet l

abbrev pub SoundTimes : Times → Type 0
SoundTimes t = Timed Generation Count SoundTime SoundOwner SoundHolder SoundSet t

abbrev pub SoundState : InstanceState → Type 0
SoundState x = Each Generation Count SoundTime SoundOwner SoundHolder SoundSet x

-- ---- sound values are well formed and fit

ok-times : (t : Times) → SoundTimes t → times_ok t ≡ true
unfolding times_ok
ok-times t m = rw (m.sample.ok, m.delivered.ok, m.filter.ok, m.disposed.ok, m.no_writers.ok, m.owner.ok)

fits_time : (t : MaybeTime) → SoundTime t → FitsTime t
fits_time t m = record { sec = m.sec; nanosec = m.nanosec }

ok-life : (l : Life) → SoundLife l → life_ok l ≡ true
unfolding life_ok
ok-life l m =
    rw (
      lt-ltb l.disposed_generations (2 ^ 31) m.disposed,
      lt-ltb l.no_writers_generations (2 ^ 31)
          m.no_writers,
    )

nils_are : (n : ℕ) → all is_nil (replicate n nil) ≡ true
unfolding all num
nils_are zero = refl
nils_are (suc n) = nils_are n

pub nils_fit : (n : ℕ) → All FitsGuid (replicate n nil)
nils_fit zero = tt
nils_fit (suc n) = (record { high = omega arith; low = omega arith }, nils_fit n)

behind-set : (xs : List Guid) → drop (set_of xs).len (set_of xs).items ≡ replicate (16 - length xs) nil
unfolding set_of
behind-set xs = drop_at xs (replicate (16 - length xs) nil) (length xs) refl

length-set : (xs : List Guid) → (set_of xs).len ≡ length xs
unfolding set_of
length-set xs = refl

ok-list : (xs : List Guid) → length xs ≤ 16 → Within num 0 bound xs → set_ok (set_of xs) ≡ true
unfolding set_ok
ok-list xs few rises =
    rw (
      behind-set xs,
      members_of xs,
      length-set xs,
      le-leb (length xs) 16 few,
      within-rises num 0 bound xs rises,
      nils_are
          (16 - length xs),
    )

fits_list : (xs : List Guid) → length xs ≤ 16 → All FitsGuid xs → FitsSet (set_of xs)
unfolding set_of
fits_list xs few fits =
    record {
      few = omega arith;
      size = omega (arith, length-append xs (replicate (16 - length xs) nil), length-replicate (16 - length xs) nil);
      items = all_append FitsGuid xs (replicate (16 - length xs) nil) fits (nils_fit (16 - length xs));
    }

ok-set : (w : WriterSet) → SoundSet w → set_ok w ≡ true
ok-set w m = ap set_ok m.is ∙ ok-list m.list m.few m.rises

pub ok-state : (x : InstanceState) → SoundState x → instance_state_ok x ≡ true
unfolding instance_state_ok
ok-state x m =
    rw (ok-life x.life m.life, ok-times x.times m.times, m.owner.ok, m.holder.ok)
    (ok-set x.writers m.writers)

pub fits_state : (x : InstanceState) → SoundState x → FitsState x
fits_state x m =
    record {
      life =
          record {
            disposed = omega (arith, m.life.disposed);
            no_writers = omega
                (arith, m.life.no_writers);
            count = m.life.count;
            samples = m.life.samples;
          };
      times = record {
        sample = fits_time x.times.last_sample m.times.sample;
        delivered = fits_time x.times.last_delivered m.times.delivered;
        filter = fits_time x.times.last_filter m.times.filter;
        disposed = fits_time x.times.disposed_at m.times.disposed;
        no_writers = fits_time x.times.no_writers_at m.times.no_writers;
        owner = fits_time x.times.owner_at m.times.owner;
      };
      owner = record { guid = m.owner.guid; strength = m.owner.strength };
      holder = record { len = omega (arith, m.holder.len); size = m.holder.size; bytes = m.holder.bytes };
      writers = subst FitsSet (sym m.writers.is) (fits_list m.writers.list m.writers.few m.writers.fits);
    }

-- ---- sets of writers

set-members : (w : WriterSet) (m : SoundSet w) → members w ≡ m.list
set-members w m = ap members m.is ∙ members_of m.list

same-guid : (a b : Guid) → FitsGuid a → FitsGuid b → num a ≡ num b → a ≡ b
same-guid a b f g e = sym (numbered-num a f) ∙ ap guid_numbered e ∙ numbered-num b g

-- taking a GUID in is a put
insert-put : (g : Guid) (xs : List Guid) → FitsGuid g → All FitsGuid xs → insert g xs ≡ put num g xs
unfolding insert put
insert-put g [] f a = refl
insert-put g (x ∷ xs) f a =
    split (ltb (num x) (num g))
    (λ e. rw (e, insert-put g xs f a.1))
    (λ e. rw e (split (eqb (num x) (num g)) (λ d. rw (d, same-guid x g a.0 f (eqb-true (num x) (num g) d))) (λ d. rw d)))

has_lookup : (g : Guid) (xs : List Guid) → has g xs ≡ is_some (lookup num (num g) xs)
unfolding has find
has_lookup g [] = refl
has_lookup g (x ∷ xs) = split (eqb (num x) (num g)) (λ e. rw e) (λ e. rw e (has_lookup g xs))

pub remove-within : (lo hi : ℕ) (g : Guid) (xs : List Guid) → Within num lo hi xs → Within num lo hi (remove g xs)
unfolding remove
remove-within lo hi g [] w = tt
remove-within lo hi g (x ∷ xs) w =
    split (eqb (num x) (num g))
    (λ e. rw e (within_weaken num (suc (num x)) lo hi xs (omega (arith, w.0)) w.2))
    (λ e. rw e (w.0, w.1, remove-within (suc (num x)) hi g xs w.2))

remove_fits : (g : Guid) (xs : List Guid) → All FitsGuid xs → All FitsGuid (remove g xs)
unfolding remove
remove_fits g [] a = tt
remove_fits g (x ∷ xs) a = split (eqb (num x) (num g)) (λ e. rw e a.1) (λ e. rw e (a.0, remove_fits g xs a.1))

pub set-without : (g : Guid) (w : WriterSet) → SoundSet w → SoundSet (set_of (remove g (members w)))
set-without g w m =
    record {
      list = remove g m.list;
      is = ap (λ (l : List Guid). set_of (remove g l)) (set-members w m);
      few = omega (arith, remove-le g m.list, m.few);
      rises = remove-within 0 bound g m.list m.rises;
      fits = remove_fits g m.list m.fits;
    }

pub set_with : (g : Guid) (w : WriterSet) → FitsGuid g → (not (has g (members w)) && leb 16 (length (members w))) ≡ false →
    SoundSet w →
    SoundSet (set_of (insert g (members w)))
set_with g w f room m =
    record {
      list = put num g m.list;
      is = ap (λ (l : List Guid). set_of (insert g l)) (set-members w m) ∙ ap set_of (insert-put g m.list f m.fits);
      few =
          rw (length-put num 0 bound g m.list m.rises)
          (one_more 16 (is_some (lookup num (num g) m.list)) (length m.list) m.few
          (rw (set-members w m, has_lookup g m.list) at room));
      rises = within-put num 0 bound g m.list (omega arith) (num-below g f) m.rises;
      fits = all-put num FitsGuid g m.list f m.fits;
    }
