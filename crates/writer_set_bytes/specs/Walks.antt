-- A set and a list of GUIDs, both rising, walked side by side.
--     Filled                 the bytes of a set of so many
--     standing, beside_at     where a GUID of the list stands beside one of the set
--     walked, stayed         one turn of the walk: the places, and the bytes of the set
use Rattle.std.specs.Prelude.{ℕ, ◌+◌, ◌*◌, ◌/◌, ◌≤◌, true, cond, List, ◌≡◌, ltb, length}
use Rattle.octets.specs.Patch.{patch}
use Rattle.model.specs.declared.Guid.{Guid}
use Rattle.model.specs.Guids.{num, less, same, guid_at, guids_in, guid_bytes, guids_bytes, guid_size}
use Rattle.model.specs.Sets.{set_places}
use Rattle.model.specs.Tables.{rising}
use Rattle.writer_set.specs.Places.{padded}
use Rattle.std.specs.declared.cmp.Ordering.{Ordering}
use Rattle.std.specs.declared.cmp.Ordering.TheVariants.{Less, Equal, Greater}
use Rattle.writer_set_bytes.specs.declared.Walk.{Walk}

-- the 256 bytes of a set whose n GUIDs rise, nil behind them
pub record Filled (n : ℕ) (set : List ℕ) : Type 0 where
  pub few : n ≤ set_places
  pub laid : set ≡ guids_bytes (padded (guids_in n set))
  pub rises : rising num (guids_in n set) ≡ true

-- a of the list beside b of the set
abbrev pub standing : Guid → Guid → Ordering
standing a b = cond (same a b) Equal (cond (less a b) Less Greater)

-- the GUID of place j; behind b where the list has ended
abbrev pub beside_at : List ℕ → ℕ → Guid → Ordering
beside_at gone j b = cond (ltb j (length gone / guid_size)) (standing (guid_at gone (j * guid_size)) b) Greater

-- a GUID before that of the set is passed; one that is the same takes it out; else it stays
abbrev pub walked : Ordering → Walk → Walk
walked Less w = record { i = w.i; j = w.j + 1; k = w.k }
walked Equal w = record { i = w.i + 1; j = w.j + 1; k = w.k }
walked Greater w = record { i = w.i + 1; j = w.j; k = w.k + 1 }

-- it stays behind those that stay before it
abbrev pub stayed : Ordering → Walk → List ℕ → List ℕ
stayed Less w set = set
stayed Equal w set = set
stayed Greater w set = patch set (w.k * guid_size) guid_size (guid_bytes (guid_at set (w.i * guid_size)))
