-- The head's counts of records, with no buffers.
use Rattle.std.specs.Prelude.{◌+◌, Bool, ◌&&◌, leb, ltb}
use Rattle.model.specs.declared.Head.{Head}

-- what model's head_alone asks of a head beside its figure and head_ok
unfoldable pub sizes_ok : Head → Bool
sizes_ok h =
    leb h.instance_count h.places && (ltb h.instance_count h.next_handle.0
    && (leb h.writer_count 128 && (leb (h.alive + h.not_alive) h.writer_count && leb h.lost_count 256)))
