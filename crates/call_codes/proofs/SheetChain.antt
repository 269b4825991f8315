-- What the sheet decides: 4 to 8, one law a link, for any call.
use mathlib.Core.Bool.{true, false}
use mathlib.Core.Path.{◌≡◌}
use Rattle.model.specs.declared.Sheet.{Sheet}
use Rattle.model.specs.Calls.{Call}
use Rattle.model.specs.Refusals.{times_used, nanoseconds_ok, clocks_used, holder_fits, kind_ok, acknowledge_ok, sheet_refusal}
use Rattle.model.specs.State.{State}
use Rattle.model.specs.Tables.{all}
use Rattle.model.specs.WellFormed.{clock_ok}

module _ (c : Call) (s : Sheet) (st : State) where
  pub sheet_4 : all nanoseconds_ok (times_used c s) ≡ false → 4 ≡ sheet_refusal c s st
  unfolding sheet_refusal
  sheet_4 e = rw e

  module _ (times : all nanoseconds_ok (times_used c s) ≡ true) where
    pub sheet_5 : all clock_ok (clocks_used c s) ≡ false → 5 ≡ sheet_refusal c s st
    unfolding sheet_refusal
    sheet_5 e = rw (times, e)

    module _ (clocks : all clock_ok (clocks_used c s) ≡ true) where
      pub sheet_6 : holder_fits c s ≡ false → 6 ≡ sheet_refusal c s st
      unfolding sheet_refusal
      sheet_6 e = rw (times, clocks, e)

      module _ (holder : holder_fits c s ≡ true) where
        pub sheet_7 : kind_ok c s ≡ false → 7 ≡ sheet_refusal c s st
        unfolding sheet_refusal
        sheet_7 e = rw (times, clocks, holder, e)

        module _ (kind : kind_ok c s ≡ true) where
          pub sheet_8 : acknowledge_ok c s st ≡ false → 8 ≡ sheet_refusal c s st
          unfolding sheet_refusal
          sheet_8 e = rw (times, clocks, holder, kind, e)

          pub sheet_none : acknowledge_ok c s st ≡ true → 0 ≡ sheet_refusal c s st
          unfolding sheet_refusal
          sheet_none e = rw (times, clocks, holder, kind, e)
