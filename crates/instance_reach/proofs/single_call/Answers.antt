-- By handle or by key.
use mathlib.Core.Path.{sym, ◌∙◌}
use Rattle.instance_reach.proofs.single_call.Goals as goal

pub by_handle-requires : goal.by_handle-requires
by_handle-requires c = (c.requires.0, sym c.reaches_by_handle.ensures ∙ c.if-reaches_by_handle.true)

pub returns-then-reaches_by_handle : goal.returns-then-reaches_by_handle
returns-then-reaches_by_handle c = c.by_handle.ensures

pub by_key-requires : goal.by_key-requires
by_key-requires c =
    (c.requires.0, c.requires.1, sym c.reaches_by_handle.ensures ∙ c.if-reaches_by_handle.false)

pub returns : goal.returns
returns c = c.by_key.ensures
