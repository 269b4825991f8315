-- `records_ok` meets its contract: what is left of the test is the whole of it.
use Rattle.std.proofs.Common.{◌≡◌}
use Rattle.tables.proofs.RecordTests.{tests_from}
use Rattle.instance_table.proofs.Records.{record_test, records_test}
use Rattle.instance_table.proofs.records_ok.Given as goal

abbrev pub invariant-loop-k : goal.invariant-loop-k
invariant-loop-k l = tests_from 512 record_test records_test l.k l.count l.t ≡ records_test l.count l.t
