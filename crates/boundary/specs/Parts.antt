-- Runs of fields that are written together: their widths, and their values in the order of `head_values` and `answer_values`.
use Rattle.std.specs.Prelude.{ℕ, List, [], ◌∷◌}
use Rattle.std.specs.Int.{w32}
use Rattle.std.proofs.Common.{of_z}
use Rattle.model.specs.declared.Answer.{Answer}
use Rattle.model.specs.declared.Head.{Head}
use Rattle.model.specs.declared.LivelinessChangedStatus.{LivelinessChangedStatus}
use Rattle.model.specs.InstanceRecord.{bit, kind_number}
use Rattle.boundary.specs.Layouts.{last_present, last_guid}

-- ---- the head

-- from 0
abbrev pub count_widths : List ℕ
count_widths = 4 ∷ 4 ∷ 4 ∷ 4 ∷ 4 ∷ []

abbrev pub count_values : Head → List ℕ
count_values h = h.instance_count ∷ h.writer_count ∷ h.lost_count ∷ h.alive ∷ h.not_alive ∷ []

-- from 20
abbrev pub change_widths : List ℕ
change_widths = 4 ∷ 4 ∷ 2 ∷ 2 ∷ []

abbrev pub change_values : Head → List ℕ
change_values h =
    of_z w32 h.alive_change ∷ of_z w32 h.not_alive_change ∷ last_present h.last_writer ∷ h.places ∷ []

-- from 32
abbrev pub last_widths : List ℕ
last_widths = 8 ∷ 8 ∷ 8 ∷ 8 ∷ []

abbrev pub last_values : Head → List ℕ
last_values h =
    h.next_handle.0 ∷ h.changes ∷ (last_guid h.last_writer).hi ∷ (last_guid h.last_writer).lo ∷ []

-- ---- the answer

-- from 0
abbrev pub bit_widths : List ℕ
bit_widths = 1 ∷ 1 ∷ 1 ∷ 1 ∷ []

abbrev pub bit_values : Answer → List ℕ
bit_values a = a.number ∷ a.outcome ∷ bit a.yes ∷ bit a.present ∷ []

-- from 4
abbrev pub kind_widths : List ℕ
kind_widths = 1 ∷ 1 ∷ 1 ∷ 1 ∷ 8 ∷ []

abbrev pub kind_values : Answer → List ℕ
kind_values a =
    bit a.info.view_new ∷ kind_number a.info.kind ∷ bit a.next_due.present ∷ 0 ∷ a.handle.0 ∷ []

-- from 16
abbrev pub list_widths : List ℕ
list_widths = 4 ∷ 4 ∷ 4 ∷ 4 ∷ 4 ∷ []

abbrev pub list_values : Answer → List ℕ
list_values a =
    a.samples ∷ a.info.disposed_generations ∷ a.info.no_writers_generations ∷ a.count ∷ a.listed ∷ []

-- from 36
abbrev pub status_widths : List ℕ
status_widths = 4 ∷ 4 ∷ 4 ∷ 4 ∷ 4 ∷ []

abbrev pub status_values : LivelinessChangedStatus → List ℕ
status_values s =
    s.alive_count ∷ s.not_alive_count
    ∷ of_z w32 s.alive_count_change ∷ of_z w32 s.not_alive_count_change ∷ 0 ∷ []

-- from 56
abbrev pub due_widths : List ℕ
due_widths = 8 ∷ 8 ∷ []

abbrev pub due_values : Answer → List ℕ
due_values a = a.next_due.at ∷ a.status.last_publication_handle.0 ∷ []
