-- One turn of the walk, by where the GUID of the list stands.
use mathlib.Core.Path.{refl}
use Rattle.std.specs.declared.cmp.Ordering.TheVariants.{Less, Equal, Greater}
use Rattle.writer_set_bytes.proofs.WalkLaws.{on_turned, stay_turned}
use Rattle.writer_set_bytes.proofs.walk_on.Goals as goal

pub returns-in-Less : goal.returns-in-Less
returns-in-Less c =
    let a = c.args in
    on_turned a.gone.now a.set.now a.set.now a.w _ _ _ Less c.guid_at-g.ensures c.stands.ensures c.in-Less.is refl refl

pub returns-in-Equal : goal.returns-in-Equal
returns-in-Equal c =
    let a = c.args in
    on_turned a.gone.now a.set.now a.set.now a.w _ _ _ Equal c.guid_at-g.ensures c.stands.ensures c.in-Equal.is refl refl

pub returns-in-Greater : goal.returns-in-Greater
returns-in-Greater c =
    let a = c.args in
    let g = c.guid_at-g in
    on_turned a.gone.now a.set.now _ a.w _ g.result _ Greater g.ensures c.stands.ensures c.in-Greater.is refl (stay_turned a.w a.set.now _ c.stay.ensures g.ensures)
