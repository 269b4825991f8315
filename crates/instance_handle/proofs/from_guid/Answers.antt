-- `instance_handle::from_guid` meets its contract: a store leaves the GUID's bytes.
use mathlib.Core.Path.{◌≡◌, ap, ◌∙◌}
use Rattle.model.specs.Guids.{guid_bytes}
use Rattle.model.specs.Handles.{handle, not_nil, fnv, from_guid}
use Rattle.instance_handle.proofs.Hash.{guid-stored}
use Rattle.instance_handle.proofs.from_guid.Goals as goal

pub returns : goal.returns
unfolding from_guid
returns c =
    let g = c.args.g in
    let bytes : c.put_guid.new.s ≡ guid_bytes g = c.put_guid.ensures ∙ guid-stored g in
    ap handle (c.not_nil.ensures ∙ ap not_nil (c.fnv_1a.ensures ∙ ap fnv bytes))
