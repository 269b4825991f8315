-- Code 21 over the records of a table.
--     alive-stays, disposed_goes, writerless_goes     whether an instance is purged, by the flags of its record
--     purged-part, purge_one, keep_one, kept-le       a turn from its parts
--     Purging, purging_start, purging_turn, purging_end
--                                                     the pass while it goes on
use Prim.Native.Nat.{ℕ, ◌+◌, ◌-◌, ◌*◌, ◌/◌, ◌≤◌, ◌<◌}
use mathlib.Core.Bool.{Bool, true, false}
use mathlib.Core.List.{List}
use mathlib.Core.Logic.{◌⊎◌, inl, inr}
use mathlib.Core.Path.{◌≡◌, refl, sym, ap, ◌∙◌}
use native.Mathlib.Omega.{arith}
use lib.ListN.{length, take, drop}
use Rattle.octets.specs.Patch.{patch}
use Rattle.model.specs.declared.Instance.{Instance}
use Rattle.model.specs.declared.InstanceCall.TheVariants.{Autopurge}
use Rattle.model.specs.declared.MaybeTime.{MaybeTime}
use Rattle.model.specs.declared.Sheet.{Sheet}
use Rattle.model.specs.InstanceRecord.{flag, flags_at, instance_of, time_at}
use Rattle.model.specs.Instances.{purged}
use Rattle.model.specs.State.{instances_in}
use Rattle.model.specs.Times.{purge_due}
use Rattle.instance_decoding.specs.Parts.{record_at}
use Rattle.instance_decoding.proofs.Rows.{kind_rest, lent-part}
use Rattle.instance_table.specs.Laid.{Laid}
use Rattle.instance_pass.specs.declared.PassCounts.{PassCounts}
use Rattle.instance_pass.specs.Acts.{Act}
use Rattle.instance_pass.specs.Passes.{TookOne, Spared, Passed}
use Rattle.instance_pass.specs.Purges.{PurgedOne}
use Rattle.instance_pass.specs.Steps.{call_act}
use Rattle.instance_pass.proofs.PassLaws.{During, during_start, during_went, during_end}
use Rattle.instance_pass.proofs.StepLaws.{bit_le}

-- ---- one instance, by the flags of its record

module _ (r : List ℕ) (f : ℕ) (e : f ≡ flags_at r) (s : Sheet) where
  pub alive-stays : f < 16384 → false ≡ purged s (instance_of r).state
  unfolding purged instance_of
  alive-stays h = let k : flags_at r / 16384 ≡ 0 = omega (arith, e) in rw k

  pub disposed_goes : (g : Bool) (t : MaybeTime) → t ≡ time_at r 68 (flag 512 f) → g ≡ purge_due t s.time_2 s.a → 16384 ≤ f → f < 32768 →
      g ≡ purged s (instance_of r).state
  unfolding purged instance_of
  disposed_goes g t q p n h =
      let k : flags_at r / 16384 ≡ 1 = omega (arith, e, n) in
      rw (k, ← e, ← q) p

  pub writerless_goes : (g : Bool) (t : MaybeTime) → t ≡ time_at r 76 (flag 256 f) → g ≡ purge_due t s.time_2 s.b → 32768 ≤ f → g ≡ purged s (instance_of r).state
  unfolding purged instance_of
  writerless_goes g t q p n =
      rw (sym (kind_rest (flags_at r / 16384) (λ z. omega (arith, e)) (λ z. omega (arith, e))), ← e, ← q) p

-- ---- one record of the pass

pub purged-part : (i : ℕ) (t : List ℕ) (s : Sheet) (g : Bool) → g ≡ purged s (instance_of (take (i * 512 + 512 - i * 512) (drop (i * 512) t))).state →
    g ≡ purged s (instance_of (record_at t i)).state
purged-part i t s g e = e ∙ ap (λ (r : List ℕ). purged s (instance_of r).state) (lent-part (i * 512) 512 t)

module _ (i kept : ℕ) (t : List ℕ) where
  pub purge_one : (gone : Bool) → gone ≡ true → PurgedOne gone i kept t t kept
  purge_one gone e = rw e record { table = refl; kept = refl }

  pub keep_one : (gone : Bool) (t' : List ℕ) → gone ≡ false → t' ≡ patch t (kept * 512) 512 (record_at t i) → PurgedOne gone i kept t t' (kept + 1)
  keep_one gone t' e v = rw e record { table = v; kept = refl }

pub kept-le : (gone : Bool) (i k k' : ℕ) (t t' : List ℕ) → PurgedOne gone i k t t' k' → k' ≤ k + 1
kept-le true i k k' t t' w = omega (arith, w.kept)
kept-le false i k k' t t' w = omega (arith, w.kept)

-- kept of the first i
abbrev pub purge_tally : ℕ → ℕ → PassCounts
purge_tally i kept = record { kept = kept; listed = 0; counted = i - kept }

module _ (s : Sheet) (count : ℕ) (t₀ : List ℕ) where
  abbrev act : Act
  act = call_act Autopurge s

  -- what holds when the first i records are passed, whatever Out holds
  abbrev pub Purging : ℕ → ℕ → List ℕ → Type 0
  Purging i kept t = (out : List ℕ) → 1024 ≤ length out → During act count t₀ out i t out (purge_tally i kept)

  pub purging_start : Purging 0 0 t₀
  purging_start out h = during_start act count t₀ out

  module _ (i kept : ℕ) (t : List ℕ) (few : kept ≤ i) where
    went : (out : List ℕ) (x : Instance) (gone : Bool) → purged s x.state ≡ gone → (t' : List ℕ) (kept' : ℕ) → PurgedOne gone i kept t t' kept' →
        TookOne act x t out (purge_tally i kept) t' out (purge_tally (i + 1) kept') ⊎ Spared act x i t out (purge_tally i kept) t' out (purge_tally (i + 1) kept')
    went out x true e t' kept' w =
        inl
        record {
          table = rw e w.table;
          list = refl;
          kept = rw e (omega (arith, w.kept));
          listed = refl;
          counted = rw e (omega (arith, w.kept));
        }
    went out x false e t' kept' w =
        let n : i + 1 - kept' ≡ i - kept = omega (arith, w.kept) in
        inr
        record {
          untouched = record { left = rw e; unlisted = refl; uncounted = rw e };
          table = w.table;
          list = refl;
          tally = rw (n, w.kept);
        }

    pub purging_turn : count ≤ 128 → count * 512 ≤ length t₀ → i < count → Purging i kept t → (t' : List ℕ) (kept' : ℕ) → length t' ≡ length t →
        PurgedOne (purged s (instance_of (record_at t i)).state) i kept t t' kept' → Purging (i + 1) kept' t'
    purging_turn most held h d t' kept' n w out broad =
        during_went act count t₀ out i t out (purge_tally i kept) (d out broad) most held broad h (λ x. omega (arith, bit_le (purged s x))) t' out (purge_tally (i + 1) kept') n refl
        (went out (instance_of (record_at t i)) (purged s (instance_of (record_at t i)).state) refl t' kept' w)

    pub purging_end : count ≤ i → i ≤ count → Purging i kept t → (t' : List ℕ) →
        ((places : ℕ) (ys : List Instance) → Laid places ys t → length ys ≡ count → Laid places (take kept ys) t') →
        (out : List ℕ) → 1024 ≤ length out → Passed act (instances_in count t₀) t₀ out t' out (purge_tally count kept)
    purging_end h m d t' g out broad =
        let e : i ≡ count = omega arith in
        rw e at (during_end act count t₀ out i t out (purge_tally i kept) (d out broad) h t' g)
