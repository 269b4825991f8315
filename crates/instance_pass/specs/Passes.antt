-- What a pass leaves of the table, puts into Out and gives by value.
--     remaining, listing, amount    what an act leaves, lists and counts, of an instance with its key and handle
--     total                         the sum of the amounts
--     UsableIn, RisesIn             an instance that the steps can take; its writers rise
--     Editable                      a table over which a pass may run
--     kept_at, with_told              a table where what is left of an instance is written; the counts with one instance more
--     Ahead, TookOne                one record of a pass: what it asks, what it leaves
--     Untouched, Spared             it was left alone
--     EditedAt                      it was changed where it stands
--     Passed                        the whole pass
use Rattle.std.specs.Prelude.{ℕ, ◌+◌, ◌*◌, ◌≤◌, ◌<◌, Bool, true, false, cond, List, [], ◌∷◌, ◌≡◌, length}
use Rattle.std.proofs.Math.Option.{Option, none, some}
use Rattle.octets.specs.Lay.{All}
use Rattle.octets.specs.Octets.{put}
use Rattle.octets.specs.Patch.{patch}
use Rattle.model.specs.declared.Instance.{Instance}
use Rattle.model.specs.declared.InstanceState.{InstanceState}
use Rattle.model.specs.Call.{list_in}
use Rattle.model.specs.Guids.{num}
use Rattle.model.specs.InstanceCalls.{kept, handle_bytes}
use Rattle.model.specs.InstanceRecord.{bit, instance_of, instance_bytes, instance_size}
use Rattle.model.specs.Instances.{writers_in}
use Rattle.model.specs.State.{instances_in}
use Rattle.model.specs.Tables.{is_some, pick, rising, sift}
use Rattle.model.specs.WellFormed.{kinds_ok}
use Rattle.instance_decoding.specs.Parts.{record_at}
use Rattle.instance_fields.specs.Usable.{Usable}
use Rattle.instance_edits.specs.Edits.{changed}
use Rattle.instance_loss.specs.declared.Told.{Told}
use Rattle.instance_table.specs.Laid.{Laid}
use Rattle.instance_pass.specs.declared.PassCounts.{PassCounts}
use Rattle.instance_pass.specs.Acts.{Act}

-- what is left, with its key and its handle
abbrev pub remaining : Act → Instance → Option Instance
remaining a x = kept x (a.left x.state)

-- its handle goes to Out
abbrev pub listing : Act → Instance → Bool
listing a x = a.listed x.state

-- the owners cleared, or 1 for an instance purged
abbrev pub amount : Act → Instance → ℕ
amount a x = a.counted x.state

-- the sum of the amounts
unfoldable pub total : (Instance → ℕ) → List Instance → ℕ
total f [] = 0
total f (x ∷ xs) = f x + total f xs

-- the steps can take it
abbrev pub UsableIn : Instance → Type 0
UsableIn x = Usable x.state

-- its writers rise
abbrev pub RisesIn : Instance → Type 0
RisesIn x = rising num (writers_in x.state) ≡ true

-- the first count records can be passed over, and changed where they stand
pub record Editable (count : ℕ) (t : List ℕ) : Type 0 where
  pub few : count ≤ 128
  pub room : count * 512 ≤ length t
  pub kinds : kinds_ok count t ≡ true
  pub usable : All UsableIn (instances_in count t)
  pub rises : All RisesIn (instances_in count t)

-- ---- one record

-- what is left is written at place k
abbrev pub kept_at : List ℕ → ℕ → Option Instance → List ℕ
kept_at t k none = t
kept_at t k (some y) = patch t (k * instance_size) instance_size (instance_bytes y)

-- the counts with one instance more, of which r is told
abbrev pub with_told : PassCounts → Told → PassCounts
with_told c r = record { kept = c.kept + 1; listed = c.listed + bit r.left; counted = c.counted + bit r.cleared }

-- record i is to come: the instances before it are passed, and none was purged
pub record Ahead (t out : List ℕ) (i : ℕ) (c : PassCounts) : Type 0 where
  pub below : i < 128
  pub room : i * 512 + 512 ≤ length t
  pub wide : 1024 ≤ length out
  pub kept : c.kept ≡ i
  pub listed : c.listed ≤ i
  pub counted : c.counted ≤ i * 256

-- from the table t, Out and the counts so far to those behind the instance x
pub record TookOne (a : Act) (x : Instance) (t out : List ℕ) (c : PassCounts) (t' out' : List ℕ) (c' : PassCounts) : Type 0 where
  pub table : t' ≡ kept_at t c.kept (remaining a x)
  pub list : out' ≡ cond (listing a x) (put 8 out (c.listed * 8) x.handle.0) out
  pub kept : c'.kept ≡ c.kept + bit (is_some (remaining a x))
  pub listed : c'.listed ≡ c.listed + bit (listing a x)
  pub counted : c'.counted ≡ c.counted + amount a x

-- nothing comes of the act
pub record Untouched (a : Act) (x : InstanceState) : Type 0 where
  pub left : a.left x ≡ some x
  pub unlisted : a.listed x ≡ false
  pub uncounted : a.counted x ≡ 0

-- the pass leaves the instance x of record i as it is: its bytes go to its place
pub record Spared (a : Act) (x : Instance) (i : ℕ) (t out : List ℕ) (c : PassCounts) (t' out' : List ℕ) (c' : PassCounts) : Type 0 where
  pub untouched : Untouched a x.state
  pub table : t' ≡ patch t (c.kept * instance_size) instance_size (record_at t i)
  pub list : out' ≡ out
  pub tally : c' ≡ record { kept = c.kept + 1; listed = c.listed; counted = c.counted }

-- record i is changed where it stands: its bytes, if they are the layout of their instance, become that of what f makes of it
pub record EditedAt (f : InstanceState → InstanceState) (i : ℕ) (t t' : List ℕ) : Type 0 where
  pub table : t' ≡ patch t (i * instance_size) instance_size (record_at t' i)
  pub bytes : record_at t i ≡ instance_bytes (instance_of (record_at t i)) → record_at t' i ≡ instance_bytes (changed f (instance_of (record_at t i)))

-- ---- the whole pass, of the instances xs

pub record Passed (a : Act) (xs : List Instance) (t out t' out' : List ℕ) (r : PassCounts) : Type 0 where
  pub laid : (places : ℕ) → Laid places xs t → Laid places (sift (remaining a) xs) t'
  pub list : out' ≡ list_in (handle_bytes (pick (listing a) xs)) out
  pub kept : r.kept ≡ length (sift (remaining a) xs)
  pub listed : r.listed ≡ length (pick (listing a) xs)
  pub counted : r.counted ≡ total (amount a) xs
