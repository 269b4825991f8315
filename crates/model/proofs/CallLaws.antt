-- The table of the calls, by its columns.
--     none_added          a call on every instance puts no writer in
--     added-one           what puts a writer in is a call on one instance
--     told-one, told-every    what a call on one instance answers, and a call on every
--     told-accepts        the answer of an accepted call has number 0
use mathlib.Core.Bool.{Bool, true, false, cond}
use mathlib.Core.List.{List}
use mathlib.Core.Option.{Option, none, some}
use mathlib.Core.Path.{◌≡◌, refl, sym, ◌∙◌}
use Rattle.model.specs.declared.Instance.{Instance}
use Rattle.model.specs.declared.InstanceCall.{InstanceCall}
use Rattle.model.specs.declared.Sheet.{Sheet}
use Rattle.model.specs.InstanceCalls.{handle_answer, samples_answer, info_answer, reached, answer_of, reported, told}
use Rattle.model.specs.Instances.{Report, Unreported, Left, Owner, Prefix, Purge, Says, Nothing, Handle, Known, Samples, Info, Accepted, Released, rule, on_every}
use Rattle.model.proofs.Keeps.{off, every_cases}

-- ---- of all calls

pub none_added : (c : InstanceCall) → on_every c ≡ true → (rule c).adds_writer ≡ false
none_added c e = every_cases (λ (d : InstanceCall). (rule d).adds_writer ≡ false) c e refl refl refl refl refl

-- a call that puts a writer in reaches one instance
pub added-one : (c : InstanceCall) → (rule c).adds_writer ≡ true → on_every c ≡ false
added-one c a = each (on_every c) (λ e. off (sym (none_added c e) ∙ a))
  where
    each : (b : Bool) → (b ≡ true → b ≡ false) → b ≡ false
    each true h = h refl
    each false h = refl

-- ---- the answer

module _ (c : InstanceCall) (s : Sheet) (before after : List Instance) where
  pub told-one : on_every c ≡ false → told c s before after ≡ answer_of (rule c).says s (reached c s before) (reached c s after)
  told-one e = rw e

  pub told-every : on_every c ≡ true → told c s before after ≡ reported (rule c).reports s before
  told-every e = rw e

handle-accepts : (x : Option Instance) → (handle_answer x).number ≡ 0
handle-accepts none = refl
handle-accepts (some x) = refl

samples_accepts : (x : Option Instance) → (samples_answer x).number ≡ 0
samples_accepts none = refl
samples_accepts (some x) = refl

info_accepts : (x : Option Instance) → (info_answer x).number ≡ 0
info_accepts none = refl
info_accepts (some x) = refl

answer-accepts : (y : Says) (s : Sheet) (before after : Option Instance) → (answer_of y s before after).number ≡ 0
answer-accepts Nothing s before after = refl
answer-accepts Handle s before after = handle-accepts before
answer-accepts Known s before after = refl
answer-accepts Samples s before after = samples_accepts after
answer-accepts Info s before after = info_accepts after
answer-accepts Accepted s before after = refl
answer-accepts Released s before after = refl

report_accepts : (k : Report) (s : Sheet) (before : List Instance) → (reported k s before).number ≡ 0
report_accepts Unreported s before = refl
report_accepts Left s before = refl
report_accepts Owner s before = refl
report_accepts Prefix s before = refl
report_accepts Purge s before = refl

pub told-accepts : (c : InstanceCall) (s : Sheet) (before after : List Instance) → (told c s before after).number ≡ 0
told-accepts c s before after = each (on_every c)
  where
    each : (b : Bool) → (cond b (reported (rule c).reports s before) (answer_of (rule c).says s (reached c s before) (reached c s after))).number ≡ 0
    each true = report_accepts (rule c).reports s before
    each false = answer-accepts (rule c).says s (reached c s before) (reached c s after)
