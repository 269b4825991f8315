-- Section 2: the state of the two trackers ("the pen book"), how it lies in the head and the buffers, and the fresh one.
use Rattle.std.specs.Prelude.{ℕ, ◌*◌, Bool, true, false, ◌||◌, cond, List, [], eqb, ℤ, pos, ◌-ℤ◌, length, replicate, Option, None}
use Rattle.octets.specs.Lay.{lay}
use Rattle.model.specs.declared.Guid.{Guid}
use Rattle.model.specs.declared.Head.{Head}
use Rattle.model.specs.declared.Instance.{Instance}
use Rattle.model.specs.declared.Writer.{Writer}
use Rattle.model.specs.declared.WriterState.{WriterState}
use Rattle.model.specs.declared.WriterState.TheVariants.{Unasserted, Alive, NotAlive, Departed}
use Rattle.model.specs.Guids.{num, guid_bytes, guids_in, guid_size}
use Rattle.model.specs.Handles.{handle}
use Rattle.model.specs.InstanceRecord.{instance_size, instance_of, instance_bytes}
use Rattle.model.specs.Layout.{read_rows}
use Rattle.model.specs.Tables.{pick}
use Rattle.model.specs.WriterRecord.{writer_size, writer_of, writer_bytes}

-- what a caller lends to a call, but for the sheet
pub record Lent : Type 0 where
  pub head : Head
  pub pens : List ℕ
  pub writers : List ℕ
  pub lost : List ℕ
  pub out : List ℕ

-- the last writer whose class changed, where there was one
abbrev pub LastWriter : Type 0
LastWriter = Option Guid

-- the state as records: instances and writers in rising order of their keys, Lost in order of expiry. Of each change field
-- the acknowledged amount is kept, which is the count less the change
pub record State : Type 0 where
  pub instances : List Instance
  pub next_handle : ℕ
  pub writers : List Writer
  pub lost : List Guid
  pub acknowledged_alive : ℤ
  pub acknowledged_not_alive : ℤ
  pub last_writer : LastWriter
  pub changes : ℕ

abbrev pub instance_key : Instance → ℕ
instance_key x = num x.key

abbrev pub writer_key : Writer → ℕ
writer_key w = num w.guid

-- ---- sizes

-- 02, ticket 5: the number of instance places is 32 or 128, as the head says; definitions take it as the parameter `places`
abbrev pub small_places : ℕ
small_places = 32

abbrev pub large_places : ℕ
large_places = 128

abbrev pub figure_ok : ℕ → Bool
figure_ok places = eqb places small_places || eqb places large_places

-- where no head is lent, the length of pens tells; a length that is neither is for refusal 1
abbrev pub places_in : List ℕ → ℕ
places_in pens = cond (eqb (length pens) (small_places * instance_size)) small_places large_places

abbrev pub writer_places : ℕ
writer_places = 128

abbrev pub lost_places : ℕ
lost_places = 256

abbrev pub out_size : ℕ
out_size = 4096

-- ---- section 6: the classes of a writer: alive; not alive, with departed; neither

pub data Class : Type 0 where
  alive not_alive neither : Class

abbrev pub class_of : WriterState → Class
class_of Unasserted = neither
class_of Alive = alive
class_of NotAlive = not_alive
class_of Departed = not_alive

abbrev pub is_alive_class : Class → Bool
is_alive_class alive = true
is_alive_class not_alive = false
is_alive_class neither = false

abbrev pub is_not_alive_class : Class → Bool
is_not_alive_class alive = false
is_not_alive_class not_alive = true
is_not_alive_class neither = false

abbrev pub counts_alive : Writer → Bool
counts_alive w = is_alive_class (class_of w.liveliness.state)

abbrev pub counts_not_alive : Writer → Bool
counts_not_alive w = is_not_alive_class (class_of w.liveliness.state)

unfoldable pub alive_count : List Writer → ℕ
alive_count ws = length (pick counts_alive ws)

unfoldable pub not_alive_count : List Writer → ℕ
not_alive_count ws = length (pick counts_not_alive ws)

-- ---- laying out

unfoldable pub head_of : ℕ → State → Head
head_of places s =
    record {
      instance_count = length s.instances;
      next_handle = handle s.next_handle;
      writer_count = length s.writers;
      lost_count = length s.lost;
      alive = alive_count s.writers;
      not_alive = not_alive_count s.writers;
      alive_change = pos (alive_count s.writers) -ℤ s.acknowledged_alive;
      not_alive_change = pos (not_alive_count s.writers) -ℤ s.acknowledged_not_alive;
      last_writer = s.last_writer;
      changes = s.changes;
      places = places;
    }

-- records from the front, zeros behind them
abbrev pub pens_of : ℕ → List Instance → List ℕ
pens_of places xs = lay instance_bytes instance_size (places * instance_size) xs

abbrev pub writers_of : List Writer → List ℕ
writers_of ws = lay writer_bytes writer_size (writer_places * writer_size) ws

abbrev pub lost_of : List Guid → List ℕ
lost_of gs = lay guid_bytes guid_size (lost_places * guid_size) gs

unfoldable pub lay_out : ℕ → State → List ℕ → Lent
lay_out places s out =
    record {
      head = head_of places s;
      pens = pens_of places s.instances;
      writers = writers_of s.writers;
      lost = lost_of s.lost;
      out = out;
    }

-- ---- reading back

abbrev pub instances_in : ℕ → List ℕ → List Instance
instances_in n t = read_rows instance_of instance_size n t

abbrev pub writers_in : ℕ → List ℕ → List Writer
writers_in n t = read_rows writer_of writer_size n t

unfoldable pub state_of : Lent → State
state_of l =
    record {
      instances = instances_in l.head.instance_count l.pens;
      next_handle = l.head.next_handle.0;
      writers = writers_in l.head.writer_count l.writers;
      lost = guids_in l.head.lost_count l.lost;
      acknowledged_alive = pos l.head.alive -ℤ l.head.alive_change;
      acknowledged_not_alive = pos l.head.not_alive -ℤ l.head.not_alive_change;
      last_writer = l.head.last_writer;
      changes = l.head.changes;
    }

-- ---- fresh: counts and all three changes 0, next handle 1, no last writer, buffers zero, and the number of places set; Out
-- is any list, since every call is lent one of its own

abbrev pub fresh_state : State
fresh_state =
    record {
      instances = [];
      next_handle = 1;
      writers = [];
      lost = [];
      acknowledged_alive = pos 0;
      acknowledged_not_alive = pos 0;
      last_writer = None;
      changes = 0;
    }

unfoldable pub fresh : ℕ → List ℕ → Lent
fresh places out =
    record {
      head = record {
        instance_count = 0;
        next_handle = handle 1;
        writer_count = 0;
        lost_count = 0;
        alive = 0;
        not_alive = 0;
        alive_change = pos 0;
        not_alive_change = pos 0;
        last_writer = None;
        changes = 0;
        places = places;
      };
      pens = replicate (places * instance_size) 0;
      writers = replicate (writer_places * writer_size) 0;
      lost = replicate (lost_places * guid_size) 0;
      out = out;
    }
