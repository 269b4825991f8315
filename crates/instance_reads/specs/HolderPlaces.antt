-- Where the holder in force stands in the table, where it is stored: what a caller gets who can't be handed a slice.
use Rattle.std.specs.Prelude.{ℕ, ◌+◌, ◌*◌, true, false, cond, List, eqb, take, drop}
use Rattle.std.proofs.Math.Option.{Option, none, some}
use Rattle.model.specs.declared.Guid.{Guid}
use Rattle.model.specs.declared.Holder.{Holder}
use Rattle.model.specs.declared.Instance.{Instance}
use Rattle.model.specs.Instances.{has_key}
use Rattle.model.specs.Reads.{table_of, table_refusal}
use Rattle.model.specs.Tables.{find}
use Rattle.tables.specs.Places.{place_of}
use Rattle.instance_reads.specs.declared.HolderPlace.{HolderPlace}

abbrev pub no_place : HolderPlace
no_place = record { stored = false; offset = 0; len = 0 }

-- byte 112 of the record at place i is the first of its holder
abbrev pub stored_at : ℕ → Holder → HolderPlace
stored_at i h = cond h.present (record { stored = true; offset = i * 512 + 112; len = h.len }) no_place

abbrev pub place_in : ℕ → Option Instance → HolderPlace
place_in i none = no_place
place_in i (some x) = stored_at i x.state.holder

unfoldable pub holder_place : ℕ → List ℕ → Guid → HolderPlace
holder_place places t key =
    cond (eqb (table_refusal places t) 0) (place_in (place_of (has_key key) (table_of places t)) (find (has_key key) (table_of places t))) no_place

-- the bytes that stand there, else those offered
abbrev pub bytes_at : HolderPlace → List ℕ → List ℕ → List ℕ
bytes_at p t offered = cond p.stored (take p.len (drop p.offset t)) offered
