-- Which writers stand for an instance: worked out from a list's sheets and answers by the latest of the calls that concern
-- the instance and the writer. Only code 49 looks further, at the writer accounts; no instance account is read.
use Rattle.std.specs.Prelude.{ℕ, Bool, not, ◌&&◌, ◌||◌, cond, List, [], ◌∷◌, eqb}
use Rattle.model.specs.declared.Guid.{Guid}
use Rattle.model.specs.Guids.{num, same}
use Rattle.model.specs.Sets.{has, is_empty}
use Rattle.model.specs.Tables.{pick}
use Rattle.accounts.specs.Accounts.{accepted, seen}
use Rattle.accounts.specs.InstanceAccounts.{Event, is_keyed}
use Rattle.accounts.specs.WriterAccounts.{Writers, WriterAccounts, no_writers, hear, expired_at}

-- what is kept of one instance
pub record Stand : Type 0 where
  -- the handle that its latest admit with outcome 0 answered, 0 before the first
  pub handle : ℕ
  -- the writers that stand for it
  pub writers : List Guid

abbrev pub nobody : Stand
nobody = record { handle = 0; writers = [] }

abbrev pub someone : Stand → Bool
someone x = not (is_empty x.writers)

-- ---- what makes a writer stand

-- code 48: an admit of the instance of key number k, with outcome 0
abbrev pub admits : Event → ℕ → Stand → Stand
admits e k x =
    cond (is_keyed e.sheet k && eqb e.outcome 0) record { handle = e.handle; writers = e.sheet.guid ∷ x.writers } x

-- code 6: note_writer at its handle, where some writer stands for it already
abbrev pub notes : Event → Stand → Stand
notes e x =
    cond (eqb x.handle e.sheet.handle.0 && someone x)
    record { handle = x.handle; writers = e.sheet.guid ∷ x.writers } x

-- ---- what ends it

-- code 49: the writer was alive before the call and is not alive after it
abbrev pub expires : Writers → Writers → Guid → Bool
expires before after g = expired_at before after (num g)

-- codes 50 and 51: the sheet names the writer
abbrev pub named : Event → Guid → Bool
named e g = same g e.sheet.guid

abbrev pub stays : (Guid → Bool) → Guid → Bool
stays gone g = not (gone g)

abbrev pub loses : (Guid → Bool) → Stand → Stand
loses gone x = record { handle = x.handle; writers = pick (stays gone) x.writers }

-- ---- a call, and a list of them

abbrev pub is_code : ℕ → Event → Bool
is_code n e = eqb e.sheet.code n

-- the writer accounts before a call and after it
unfoldable pub stand_after : Event → Writers → Writers → ℕ → Stand → Stand
stand_after e before after k x =
    cond (not (eqb e.number 0)) x
    (cond (is_code 48 e) (admits e k x)
    (cond (is_code 6 e) (notes e x)
    (cond (is_code 49 e) (loses (expires before after) x)
    (cond (is_code 50 e || is_code 51 e) (loses (named e) x) x))))

-- the writer accounts after a call
abbrev pub heard : Event → WriterAccounts → WriterAccounts
heard e w = hear (seen (accepted e)) e.sheet w

unfoldable pub stand_from : ℕ → List Event → WriterAccounts → Stand → Stand
stand_from k [] w x = x
stand_from k (e ∷ h) w x = stand_from k h (heard e w) (stand_after e w.at (heard e w).at k x)

-- who stands for the instance of key number k after a list
abbrev pub stand_of : ℕ → List Event → Stand
stand_of k h = stand_from k h no_writers nobody

-- the writer g stands for the instance k
abbrev pub standing : Guid → Guid → List Event → Bool
standing k g h = has g (stand_of (num k) h).writers
