-- The calls that turn an instance from alive to no-writers, for every list at all. (Disposed is another kind, and code 3's
-- alone.)
use Rattle.std.specs.Prelude.{Bool, true, false, not, ◌&&◌, ◌||◌, cond, List, eqb, leb}
use Rattle.std.proofs.Math.Option.{Option, none, some}
use Rattle.model.specs.declared.Guid.{Guid}
use Rattle.model.specs.declared.Instance.{Instance}
use Rattle.model.specs.declared.InstanceStateKind.{InstanceStateKind}
use Rattle.model.specs.declared.InstanceStateKind.TheVariants.{Alive, NotAliveDisposed, NotAliveNoWriters}
use Rattle.model.specs.Instances.{writers_in}
use Rattle.model.specs.Sets.{is_empty}
use Rattle.model.specs.Tables.{all}
use Rattle.accounts.specs.InstanceAccounts.{Event}
use Rattle.accounts.specs.WriterAccounts.{Writers}
use Rattle.abandonment.specs.Standing.{is_code, named, expires}

abbrev pub is_no_writers : InstanceStateKind → Bool
is_no_writers Alive = false
is_no_writers NotAliveDisposed = false
is_no_writers NotAliveNoWriters = true

-- there, and shown without writers
abbrev pub is_abandoned : Option Instance → Bool
is_abandoned none = false
is_abandoned (some x) = is_no_writers x.state.life.kind

-- the sheet has its handle
abbrev pub is_at : Event → Instance → Bool
is_at e x = eqb x.handle.0 e.sheet.handle.0

-- the set is not empty, and each of it is gone
abbrev pub leaves_all : (Guid → Bool) → List Guid → Bool
leaves_all gone set = not (is_empty set) && all gone set

-- x is the instance, alive, before the call
unfoldable pub causes : Event → Writers → Writers → Instance → Bool
causes e before after x =
    cond (not (eqb e.number 0)) false
    (cond (is_code 4 e) (is_at e x && leb x.state.life.writer_count 1)
    (cond (is_code 5 e) (is_at e x && all (named e) (writers_in x.state))
    (cond (is_code 7 e || (is_code 50 e || is_code 51 e)) (leaves_all (named e) (writers_in x.state))
    (cond (is_code 49 e) (leaves_all (expires before after) (writers_in x.state)) false))))
