-- A pass over the instances in place.
--     stood, shifted                  a record's bytes at its place, where they stood or from behind
--     During                          what holds when the first i instances are passed
--     during_start, during_ahead      before the first; what the next asks
--     during_turn, during_edited, during_spared
--                                     one instance more: stepped, changed in place, or left alone
--     during_went                     either
--     during_end                      all are passed, and the places behind those kept are cleared
--     during_stays, during_over       of an act that purges nothing: each at its place; all are passed
use Prim.Native.Nat.{ℕ, ◌+◌, ◌*◌, ◌≤◌, ◌<◌}
use mathlib.Core.Bool.{Bool, true, false, cond}
use mathlib.Core.List.{List, append-nil, append_assoc}
use mathlib.Core.Logic.{◌⊎◌, ⊎_elim}
use mathlib.Core.Option.{Option, none, some}
use mathlib.Core.Path.{◌≡◌, refl, sym, ap, ◌∙◌}
use native.Mathlib.Nat.{mul-le-mul_right}
use native.Mathlib.Omega.{arith}
use lib.ListN.{length, get_or, take, drop, take-append-drop}
use lib.Seq.{take_all, length-take-le, drop-drop, paste}
use Rattle.octets.proofs.LayLaws.{lay_read}
use Rattle.octets.specs.Octets.{put}
use Rattle.octets.specs.Patch.{patch}
use Rattle.octets.proofs.PatchLaws.{drop-patch}
use Rattle.model.specs.declared.Instance.{Instance}
use Rattle.model.specs.declared.InstanceState.{InstanceState}
use Rattle.model.specs.Call.{list_in}
use Rattle.model.specs.InstanceCalls.{kept, handle_bytes}
use Rattle.model.specs.InstanceRecord.{bit, instance_of, instance_bytes}
use Rattle.model.specs.State.{instances_in}
use Rattle.model.specs.Tables.{is_some, pick, sift}
use Rattle.model.proofs.RowLaws.{length_read, get_read}
use Rattle.tables.proofs.Finds.{pick-take, pick_more}
use Rattle.tables.proofs.Passes.{survivors, survivors_keep, survivors_drop, midway, midway_start, midway_end, length_midway, midway_keep, midway_drop, midway_get}
use Rattle.instance_table.specs.Laid.{Wide, Laid}
use Rattle.instance_table.proofs.LaidOut.{patch_width, replaced}
use Rattle.instance_decoding.specs.Parts.{record_at}
use Rattle.instance_edits.specs.Edits.{changed}
use Rattle.instance_pass.specs.declared.PassCounts.{PassCounts}
use Rattle.instance_pass.specs.Acts.{Act, Bounded, Keeps}
use Rattle.instance_pass.specs.Passes.{remaining, listing, amount, total, kept_at, Ahead, TookOne, Spared, EditedAt, Passed}
use Rattle.instance_pass.proofs.ActLaws.{all-kept}
use Rattle.instance_pass.proofs.ListLaws.{total-take, drop-same}
use Rattle.model.proofs.HandleLists.{list_start, list_more}
use Rattle.instance_pass.proofs.StepLaws.{bit_le}

-- ---- the bytes of a record

patch-same : (t : List ℕ) (at n : ℕ) → t ≡ patch t at n (take n (drop at t))
patch-same t at n =
    sym (rw (← drop-drop n at t, take-append-drop n (drop at t)) (take-append-drop at t))

pub stood : (t t' : List ℕ) (k i : ℕ) → k ≡ i → t' ≡ t → t' ≡ patch t (k * 512) 512 (record_at t i)
stood t t' k i e h = h ∙ rw e (patch-same t (i * 512) 512)

pub shifted : (t t' : List ℕ) (k i : ℕ) → t' ≡ paste t (k * 512) (drop (i * 512) t) 512 → t' ≡ patch t (k * 512) 512 (record_at t i)
shifted t t' k i h = h ∙ append_assoc (take (k * 512) t) (record_at t i) (drop (k * 512 + 512) t)

bytes_of : (places : ℕ) (ys : List Instance) (t : List ℕ) → Laid places ys t → (i : ℕ) (d : Instance) → i < length ys → record_at t i ≡ instance_bytes (get_or ys i d)
bytes_of places ys t l i d h =
    ap (λ (z : List ℕ). record_at z i) l.laid ∙ lay_read instance_bytes 512 Wide (λ x w. w) (places * 512) ys i d h l.wide

-- ---- the pass

as_bit : (n : ℕ) (b : Bool) → n + cond b 1 0 ≡ n + bit b
as_bit n true = refl
as_bit n false = refl

module _ (act : Act) (count : ℕ) (t₀ out₀ : List ℕ) where
  abbrev f : Instance → Option Instance
  f = remaining act

  abbrev q : Instance → Bool
  q = listing act

  abbrev a : Instance → ℕ
  a = amount act

  abbrev xs : List Instance
  xs = instances_in count t₀

  pub record During (i : ℕ) (t out : List ℕ) (c : PassCounts) : Type 0 where
    pub below : i ≤ count
    pub long : length t ≡ length t₀
    pub wide : length out ≡ length out₀
    pub kept : c.kept ≡ survivors f xs i
    pub listed : c.listed ≡ length (pick q (take i xs))
    pub counted : c.counted ≡ total a (take i xs)
    pub few_kept : c.kept ≤ i
    pub few_listed : c.listed ≤ i
    pub few_counted : c.counted ≤ i * 256
    pub ahead : drop (i * 512) t ≡ drop (i * 512) t₀
    pub list : out ≡ list_in (handle_bytes (pick q (take i xs))) out₀
    pub laid : (places : ℕ) → Laid places xs t₀ → Laid places (midway f xs i) t

  size : length xs ≡ count
  size = length_read instance_of 512 count t₀

  pub during_start : During 0 t₀ out₀ record { kept = 0; listed = 0; counted = 0 }
  unfolding pick sift total
  during_start =
      record {
        below = omega arith;
        long = refl;
        wide = refl;
        kept = refl;
        listed = refl;
        counted = refl;
        few_kept = omega arith;
        few_listed = omega arith;
        few_counted = omega arith;
        ahead = refl;
        list = list_start out₀;
        laid = λ places l. rw (midway_start f xs) l;
      }

  module _ (i : ℕ) (t out : List ℕ) (c : PassCounts) (d : During i t out c) where
    -- record i is as it was
    pub during_read : i < count → instance_of (record_at t i) ≡ get_or xs i (instance_of (record_at t i))
    during_read h =
        ap (λ (z : List ℕ). instance_of (take 512 z)) d.ahead ∙ sym (get_read instance_of 512 count t₀ i (instance_of (record_at t i)) h)

    -- an act that purges nothing leaves each at its place
    pub during_stays : Keeps act → c.kept ≡ i
    during_stays k = d.kept ∙ all-kept act k (take i xs) ∙ length-take-le i xs (omega (arith, size, d.below))

    pub during_ahead : Keeps act → count ≤ 128 → count * 512 ≤ length t₀ → 1024 ≤ length out₀ → i < count → Ahead t out i c
    during_ahead k n m w h =
        record {
          below = omega arith;
          room = omega (arith, d.long, mul-le-mul_right 512 h);
          wide = omega (arith, d.wide);
          kept = during_stays k;
          listed = d.few_listed;
          counted = d.few_counted;
        }

    module _ (most : count ≤ 128) (held : count * 512 ≤ length t₀) (broad : 1024 ≤ length out₀) (h : i < count) (bounded : Bounded act) where
      inside : i < length xs
      inside = omega (arith, size)

      fits : c.kept * 512 + 512 ≤ length t
      fits = omega (arith, d.few_kept, d.long, mul-le-mul_right 512 h)

      -- the table behind x, of which o is left
      pub record Behind (o : Option Instance) (t' : List ℕ) : Type 0 where
        pub kept : c.kept + bit (is_some o) ≡ survivors f xs (i + 1)
        pub few : c.kept + bit (is_some o) ≤ i + 1
        pub ahead : drop ((i + 1) * 512) t' ≡ drop ((i + 1) * 512) t₀
        pub laid : (places : ℕ) → Laid places xs t₀ → Laid places (midway f xs (i + 1)) t'

      onward : drop ((i + 1) * 512) t ≡ drop ((i + 1) * 512) t₀
      onward = drop-same (i * 512) ((i + 1) * 512) t t₀ (omega arith) d.ahead

      -- z is left of x; it goes to its place as the bytes r, which are its layout where those of x were
      edited : (x z : Instance) → x ≡ get_or xs i x → f x ≡ some z → (r t' : List ℕ) → t' ≡ patch t (c.kept * 512) 512 r → length t' ≡ length t →
          (record_at t i ≡ instance_bytes x → r ≡ instance_bytes z) → Behind (some z) t'
      edited x z e g r t' v n q =
          let u : f (get_or xs i x) ≡ some z = sym (ap f e) ∙ g in
          let w : length r ≡ 512 = patch_width t (c.kept * 512) 512 r fits (sym (ap length v) ∙ n) in
          let k : drop (c.kept * 512 + 512) t' ≡ drop (c.kept * 512 + 512) t =
          ap (drop (c.kept * 512 + 512)) v ∙ drop-patch t (c.kept * 512) 512 r (omega (arith, fits)) w in
          let m : i < length (midway f xs i) = omega (arith, length_midway f xs i (omega (arith, size)), size) in
          record {
            kept = omega (arith, d.kept, survivors_keep f xs i x inside z u);
            few = omega (arith, d.few_kept);
            ahead = drop-same (c.kept * 512 + 512) ((i + 1) * 512) t' t (omega (arith, d.few_kept)) k ∙ onward;
            laid = λ places l.
                let b : record_at t i ≡ instance_bytes x =
                bytes_of places (midway f xs i) t (d.laid places l) i x m ∙ ap instance_bytes (midway_get f xs i x (omega (arith, size)) ∙ sym e) in
                rw (← midway_keep f xs i x inside z u, ← d.kept)
                (replaced t t' c.kept z (v ∙ ap (λ (h : List ℕ). patch t (c.kept * 512) 512 h) (q b)) n fits places (midway f xs i) (d.laid places l)
                (omega (arith, d.few_kept, m)));
          }

      behind : (x : Instance) → x ≡ get_or xs i x → (o : Option Instance) → f x ≡ o → (t' : List ℕ) → t' ≡ kept_at t c.kept o → length t' ≡ length t → Behind o t'
      behind x e none g t' v n =
          let k : f (get_or xs i x) ≡ none = sym (ap f e) ∙ g in
          record {
            kept = omega (arith, d.kept, survivors_drop f xs i x inside k);
            few = omega (arith, d.few_kept);
            ahead = rw v onward;
            laid = λ places l. rw (v, midway_drop f xs i x inside k) (d.laid places l);
          }
      behind x e (some y) g t' v n = edited x y e g (instance_bytes y) t' v n (λ b. refl)

      -- Out behind x, which is listed where b says so
      noting : (x : Instance) → x ≡ get_or xs i x → (b : Bool) → q x ≡ b → (out' : List ℕ) → out' ≡ cond b (put 8 out (c.listed * 8) x.handle.0) out →
          out' ≡ list_in (handle_bytes (pick q (take (i + 1) xs))) out₀
      noting x e false g out' v =
          let k : q (get_or xs i x) ≡ false = sym (ap q e) ∙ g in
          v ∙ d.list ∙ rw (pick-take q xs i x inside, k, append-nil (pick q (take i xs)))
      noting x e true g out' v =
          let k : q (get_or xs i x) ≡ true = sym (ap q e) ∙ g in
          v
          ∙ rw (pick-take q xs i x inside, k, ← e, d.listed, d.list)
          (list_more (pick q (take i xs)) x out₀ (omega (arith, d.listed, d.few_listed)))

      -- Out and the tally behind x
      pub record Told (x : Instance) (out' : List ℕ) (c' : PassCounts) : Type 0 where
        pub noted : out' ≡ cond (q x) (put 8 out (c.listed * 8) x.handle.0) out
        pub kept : c'.kept ≡ c.kept + bit (is_some (f x))
        pub listed : c'.listed ≡ c.listed + bit (q x)
        pub counted : c'.counted ≡ c.counted + a x

      told : (x : Instance) → x ≡ get_or xs i x → (t' out' : List ℕ) (c' : PassCounts) → length t' ≡ length t → length out' ≡ length out →
          Behind (f x) t' → Told x out' c' → During (i + 1) t' out' c'
      told x e t' out' c' n m b w =
          record {
            below = omega arith;
            long = n ∙ d.long;
            wide = m ∙ d.wide;
            kept = w.kept ∙ b.kept;
            listed = w.listed ∙ ap (λ (z : ℕ). z + bit (q x)) d.listed
                ∙ sym (pick_more q xs i x inside ∙ ap (λ (y : Instance). length (pick q (take i xs)) + cond (q y) 1 0) (sym e) ∙ as_bit (length (pick q (take i xs))) (q x));
            counted = w.counted ∙ ap (λ (z : ℕ). z + a x) d.counted
                ∙ sym (total-take a xs i x inside ∙ ap (λ (y : Instance). total a (take i xs) + a y) (sym e));
            few_kept = omega (arith, w.kept, b.few);
            few_listed = omega (arith, w.listed, d.few_listed, bit_le (q x));
            few_counted = omega (arith, w.counted, d.few_counted, bounded x.state);
            ahead = b.ahead;
            list = noting x e (q x) refl out' w.noted;
            laid = b.laid;
          }

      pub during_turn : (t' out' : List ℕ) (c' : PassCounts) → length t' ≡ length t → length out' ≡ length out →
          TookOne act (instance_of (record_at t i)) t out c t' out' c' → During (i + 1) t' out' c'
      during_turn t' out' c' n m w = go (instance_of (record_at t i)) (during_read h) w
        where
          go : (x : Instance) → x ≡ get_or xs i x → TookOne act x t out c t' out' c' → During (i + 1) t' out' c'
          go x e w =
              told x e t' out' c' n m (behind x e (f x) refl t' w.table n)
              record { noted = w.list; kept = w.kept; listed = w.listed; counted = w.counted }

      -- x stays at its place, changed by g
      pub during_edited : (g : InstanceState → InstanceState) (t' out' : List ℕ) (c' : PassCounts) → length t' ≡ length t → length out' ≡ length out → c.kept ≡ i →
          act.left (instance_of (record_at t i)).state ≡ some (g (instance_of (record_at t i)).state) → EditedAt g i t t' →
          Told (instance_of (record_at t i)) out' c' → During (i + 1) t' out' c'
      during_edited g t' out' c' n m k v w p = go (instance_of (record_at t i)) (during_read h) v w.bytes p
        where
          go : (x : Instance) → x ≡ get_or xs i x → act.left x.state ≡ some (g x.state) → (record_at t i ≡ instance_bytes x → record_at t' i ≡ instance_bytes (changed g x)) →
              Told x out' c' → During (i + 1) t' out' c'
          go x e v q p =
              let u : f x ≡ some (changed g x) = ap (λ (o : Option InstanceState). kept x o) v in
              let b : t' ≡ patch t (c.kept * 512) 512 (record_at t' i) = w.table ∙ ap (λ (j : ℕ). patch t (j * 512) 512 (record_at t' i)) (sym k) in
              told x e t' out' c' n m (rw u (edited x (changed g x) e u (record_at t' i) t' b n q)) p

      during_spared : (t' out' : List ℕ) (c' : PassCounts) → length t' ≡ length t → length out' ≡ length out →
          Spared act (instance_of (record_at t i)) i t out c t' out' c' → During (i + 1) t' out' c'
      during_spared t' out' c' n m w = go (instance_of (record_at t i)) (during_read h) w
        where
          go : (x : Instance) → x ≡ get_or xs i x → Spared act x i t out c t' out' c' → During (i + 1) t' out' c'
          go x e w =
              let g : f x ≡ some x = ap (λ (o : Option InstanceState). kept x o) w.untouched.left in
              told x e t' out' c' n m (rw g (edited x x e g (record_at t i) t' w.table n (λ b. b)))
              record {
                noted = rw w.untouched.unlisted w.list;
                kept = rw (g, w.tally);
                listed = rw (w.untouched.unlisted, w.tally) (omega arith);
                counted = rw (w.untouched.uncounted, w.tally) (omega arith);
              }

      pub during_went : (t' out' : List ℕ) (c' : PassCounts) → length t' ≡ length t → length out' ≡ length out →
          TookOne act (instance_of (record_at t i)) t out c t' out' c' ⊎ Spared act (instance_of (record_at t i)) i t out c t' out' c' →
          During (i + 1) t' out' c'
      during_went t' out' c' n m w = ⊎_elim (λ a. during_turn t' out' c' n m a) (λ b. during_spared t' out' c' n m b) w

    -- all are passed; t' is the table with the places behind those kept cleared
    pub during_end : count ≤ i → (t' : List ℕ) →
        ((places : ℕ) (ys : List Instance) → Laid places ys t → length ys ≡ count → Laid places (take c.kept ys) t') → Passed act xs t₀ out₀ t' out c
    during_end h t' g =
        let e : i ≡ count = omega (arith, d.below) in
        let j : i ≡ length xs = e ∙ sym size in
        let w : take i xs ≡ xs = take_all i xs (omega arith) in
        let k : c.kept ≡ length (sift f xs) = rw w at d.kept in
        record {
          laid = λ places l.
              rw (ap (λ (n : ℕ). take n (midway f xs i)) k ∙ ap (λ (n : ℕ). take (length (sift f xs)) (midway f xs n)) j ∙ midway_end f xs) at
              (g places (midway f xs i) (d.laid places l) (length_midway f xs i (omega arith) ∙ size));
          list = rw w at d.list;
          kept = k;
          listed = rw w at d.listed;
          counted = rw w at d.counted;
        }

    -- all are passed; of an act that purges nothing there is nothing to clear
    pub during_over : Keeps act → count ≤ i → Passed act xs t₀ out₀ t out c
    during_over k h =
        during_end h t (λ places ys l e. rw (take_all c.kept ys (omega (arith, e, during_stays k))) l)
