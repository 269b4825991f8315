-- The test of a head by itself, from its parts in the order of the code, and the status of a head.
--     sizes_by, alone_by     of the head
--     status_made            the status that is put together
--     publication_by         the last writer's handle, or another
use Prim.Native.Nat.{◌+◌}
use mathlib.Core.Bool.{Bool, ◌&&◌}
use mathlib.Core.Path.{◌≡◌, sym, ◌∙◌}
use lib.Dec.{leb, ltb}
use lib.IntN.{ℤ}
use Rattle.std.specs.Prelude.{None, Some, MatchOption}
use Rattle.model.specs.declared.Guid.{Guid}
use Rattle.model.specs.declared.Head.{Head}
use Rattle.model.specs.declared.InstanceHandle.{InstanceHandle}
use Rattle.model.specs.declared.LivelinessChangedStatus.{LivelinessChangedStatus}
use Rattle.model.specs.Reads.{head_alone, head_status}
use Rattle.model.specs.Handles.{handle, from_guid}
use Rattle.model.specs.State.{figure_ok, LastWriter}
use Rattle.model.specs.WellFormed.{head_ok}
use Rattle.model.specs.Writers.{publication}
use Rattle.head_reads.specs.Sizes.{sizes_ok}

pub sizes_by : (h : Head) {a b x y z : Bool} → leb h.instance_count h.places ≡ a → ltb h.instance_count h.next_handle.0 ≡ b →
    leb h.writer_count 128 ≡ x → leb (h.alive + h.not_alive) h.writer_count ≡ y → leb h.lost_count 256 ≡ z →
    (a && (b && (x && (y && z)))) ≡ sizes_ok h
unfolding sizes_ok
sizes_by h p q r s u = sym (rw (p, q, r, s, u))

pub alone_by : (h : Head) {a b c : Bool} → figure_ok h.places ≡ a → head_ok h ≡ b → sizes_ok h ≡ c → (a && (b && c)) ≡ head_alone h
unfolding head_alone sizes_ok
alone_by h p q r = sym (rw (p, q, r))

pub status_made : (h : Head) (a b : ℤ) (p : InstanceHandle) → a ≡ h.alive_change → b ≡ h.not_alive_change → p ≡ publication h.last_writer →
    ◌≡◌ {A = LivelinessChangedStatus}
    record {
      alive_count = h.alive;
      not_alive_count = h.not_alive;
      alive_count_change = a;
      not_alive_count_change = b;
      last_publication_handle = p;
    }
    (head_status h)
status_made h a b p d e f = rw (d, e, f)

pub publication_by : (last : LastWriter) (none r : InstanceHandle) (P : Guid → Type 0) → none ≡ handle 0 → ((g : Guid) → P g → r ≡ from_guid g) →
    MatchOption last (r ≡ none) P → r ≡ publication last
publication_by None none r P e f m = m ∙ e
publication_by (Some g) none r P e f m = f g m
