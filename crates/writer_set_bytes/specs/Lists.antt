-- A list of GUIDs in bytes, 16 each.
--     gones_in      its GUIDs
--     Listed       they rise, and are few enough to be searched
use Rattle.std.specs.Prelude.{ℕ, ◌/◌, ◌≤◌, true, List, ◌≡◌, length}
use Rattle.model.specs.declared.Guid.{Guid}
use Rattle.model.specs.Guids.{num, guids_in, guid_size}
use Rattle.model.specs.Tables.{rising}

abbrev pub gones_in : List ℕ → List Guid
gones_in gone = guids_in (length gone / guid_size) gone

-- there are no more than writers
pub record Listed (gone : List ℕ) : Type 0 where
  pub few : length gone ≤ 2048
  pub rises : rising num (gones_in gone) ≡ true
