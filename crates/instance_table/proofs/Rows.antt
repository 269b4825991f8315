-- An instance's handle and key by its place.
use Rattle.std.proofs.Common.{◌≡◌, ℕ, ◌+◌, ◌*◌, ◌<◌, List, [], get_or, take, drop, ap, ◌∙◌, arith}
use Rattle.octets.proofs.Laws.{be-part}
use Rattle.octets.specs.Octets.{be}
use Rattle.model.specs.Guids.{guid_at}
use Rattle.model.specs.InstanceRecord.{instance_of}
use Rattle.model.specs.State.{instances_in}
use Rattle.model.proofs.RowLaws.{get_read}
use Rattle.instance_table.specs.Laid.{handle_at}

pub handle_read : (n : ℕ) (t : List ℕ) (i : ℕ) → i < n → (get_or (instances_in n t) i (instance_of [])).handle.0 ≡ handle_at t i
unfolding instance_of
handle_read n t i h = rw (get_read instance_of 512 n t i (instance_of []) h) (be-part 8 512 (i * 512) t 16 (omega arith))

pub key_read : (n : ℕ) (t : List ℕ) (i : ℕ) → i < n → (get_or (instances_in n t) i (instance_of [])).key ≡ guid_at t (i * 512)
unfolding instance_of
key_read n t i h =
    let a : be 8 (take 512 (drop (i * 512) t)) 0 ≡ be 8 t (i * 512) =
    be-part 8 512 (i * 512) t 0 (omega arith) ∙ ap (λ (o : ℕ). be 8 t o) (omega arith) in
    let b : be 8 (take 512 (drop (i * 512) t)) 8 ≡ be 8 t (i * 512 + 8) = be-part 8 512 (i * 512) t 8 (omega arith) in
    rw (get_read instance_of 512 n t i (instance_of []) h, a, b)
