-- A value fits its bytes: each number its field, each array its length. Values of the code's types do, and so does what is
-- read from bytes.
use Prim.Native.Nat.{◌^◌, ◌<◌}
use mathlib.Core.Path.{◌≡◌}
use lib.ListN.{length}
use Rattle.octets.specs.Bounds.{Bytes}
use Rattle.octets.specs.Lay.{All}
use Rattle.model.specs.declared.Guid.{Guid}
use Rattle.model.specs.declared.Holder.{Holder}
use Rattle.model.specs.declared.Instance.{Instance}
use Rattle.model.specs.declared.InstanceState.{InstanceState}
use Rattle.model.specs.declared.Life.{Life}
use Rattle.model.specs.declared.MaybeOwner.{MaybeOwner}
use Rattle.model.specs.declared.MaybeTime.{MaybeTime}
use Rattle.model.specs.declared.Times.{Times}
use Rattle.model.specs.declared.Writer.{Writer}
use Rattle.model.specs.declared.WriterSet.{WriterSet}

pub record FitsGuid (g : Guid) : Type 0 where
  pub high : g.hi < 256 ^ 8
  pub low : g.lo < 256 ^ 8

pub record FitsTime (t : MaybeTime) : Type 0 where
  pub sec : t.sec < 256 ^ 4
  pub nanosec : t.nanosec < 256 ^ 4

pub record FitsLife (l : Life) : Type 0 where
  pub disposed : l.disposed_generations < 256 ^ 4
  pub no_writers : l.no_writers_generations < 256 ^ 4
  pub count : l.writer_count < 256 ^ 4
  pub samples : l.samples < 256 ^ 4

pub record FitsTimes (t : Times) : Type 0 where
  pub sample : FitsTime t.last_sample
  pub delivered : FitsTime t.last_delivered
  pub filter : FitsTime t.last_filter
  pub disposed : FitsTime t.disposed_at
  pub no_writers : FitsTime t.no_writers_at
  pub owner : FitsTime t.owner_at

pub record FitsOwner (o : MaybeOwner) : Type 0 where
  pub guid : FitsGuid o.guid
  pub strength : o.strength < 256 ^ 4

pub record FitsHolder (h : Holder) : Type 0 where
  pub len : h.len < 256 ^ 2
  pub size : length h.bytes ≡ 144
  pub bytes : Bytes h.bytes

pub record FitsSet (w : WriterSet) : Type 0 where
  pub few : w.len < 32
  pub size : length w.items ≡ 16
  pub items : All FitsGuid w.items

pub record FitsState (x : InstanceState) : Type 0 where
  pub life : FitsLife x.life
  pub times : FitsTimes x.times
  pub owner : FitsOwner x.owner
  pub holder : FitsHolder x.holder
  pub writers : FitsSet x.writers

pub record FitsInstance (x : Instance) : Type 0 where
  pub key : FitsGuid x.key
  pub handle : x.handle.0 < 256 ^ 8
  pub state : FitsState x.state

pub record FitsWriter (w : Writer) : Type 0 where
  pub guid : FitsGuid w.guid
  pub lease : w.liveliness.lease.nanos < 256 ^ 8
  pub last : w.liveliness.last_assertion < 256 ^ 8
