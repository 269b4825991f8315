-- Section 10: the lettered bench lines and the three traps, and lines on document 02, hold of the definitions.
use Rattle.std.specs.Prelude.{T}
use Rattle.model.specs.Guids.{num}
use Rattle.model.specs.Handles.{allocated}
use Rattle.model.specs.InstanceCalls.{instance_call, instance_turn, instances_after, begun, next_after, late_refusal, handle_bytes}
use Rattle.model.specs.Instances.{started_state, started, registered, unregistered, ensured, revived, revived_new, lifecycle_observed, admitted_observed, admitted_noted, writer_noted, ownership_tried, takes_over, outbids, purged, left_by}
use Rattle.model.specs.Joined.{sampled, first_owned, admitted, admit_with}
use Rattle.model.specs.Sets.{has, insert, set_of}
use Rattle.model.specs.Tables.{find, pick, any, put, sift}
use Rattle.model.specs.Times.{time_value, filter_admits, order_admits, deadline_missed, purge_due}
use Rattle.model.specs.Writers.{tracker_call, tracker_turn, tracker_state, writers_after, movers, last_after, next_due, covers, renews, asserted, expires, expired}
use Rattle.model.specs.Bench.{agree, bench_rows}

pub bench_rows_lem : T (agree bench_rows)
unfolding num allocated instance_call instance_turn instances_after begun next_after late_refusal handle_bytes started_state started registered unregistered ensured revived revived_new lifecycle_observed admitted_observed admitted_noted writer_noted ownership_tried takes_over outbids purged left_by sampled first_owned admitted admit_with has insert set_of find pick any put sift time_value filter_admits order_admits deadline_missed purge_due tracker_call tracker_turn tracker_state writers_after movers last_after next_due covers renews asserted expires expired
bench_rows_lem = tt
