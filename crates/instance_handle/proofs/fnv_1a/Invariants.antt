-- `instance_handle::fnv_1a` meets its contract. The loop's invariant: the hash so far, over what is left, is the whole
-- hash.
use mathlib.Core.Path.{◌≡◌}
use lib.ListN.{drop}
use Rattle.model.specs.Handles.{fnv_from, fnv}
use Rattle.instance_handle.proofs.fnv_1a.Given as goal

abbrev pub invariant-loop-byte : goal.invariant-loop-byte
invariant-loop-byte l = fnv_from l.hash (drop l.byte-index l.bytes) ≡ fnv l.bytes
