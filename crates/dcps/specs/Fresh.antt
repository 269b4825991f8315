-- Section 2: the fresh state as an entry makes it.
use Rattle.std.specs.Prelude.{ℕ, ◌*◌, Bool, ◌&&◌, cond, List, [], eqb, length}
use Rattle.model.specs.declared.Head.{Head}
use Rattle.model.specs.Answers.{silent}
use Rattle.model.specs.Call.{Left, refuse, lent_of}
use Rattle.model.specs.Guids.{guid_size}
use Rattle.model.specs.InstanceRecord.{instance_size}
use Rattle.model.specs.State.{fresh, places_in, writer_places, lost_places}
use Rattle.model.specs.WriterRecord.{writer_size}

-- the head of the fresh state
abbrev pub fresh_head : ℕ → Head
fresh_head places = (fresh places []).head

-- pens, writers and Lost have their lengths
unfoldable pub room_ok : ℕ → List ℕ → List ℕ → List ℕ → Bool
room_ok places pens writers lost =
    eqb (length pens) (places * instance_size) && (eqb (length writers) (writer_places * writer_size) && eqb (length lost) (lost_places * guid_size))

-- the three buffers become those of the fresh state, the length of pens setting the number of places (02, ticket 5); refused as
-- 1 where one has another length. The head is the fresh one
unfoldable pub fresh_of : List ℕ → List ℕ → List ℕ → Left
fresh_of pens writers lost =
    cond (room_ok (places_in pens) pens writers lost)
    record { answer = silent; lent = fresh (places_in pens) [] }
    (refuse 1 (lent_of (fresh_head (places_in pens)) pens writers lost []))
