-- `writer_record::put_record` meets its contract.
use Rattle.writer_record.proofs.Laws.{record_put}
use Rattle.writer_record.proofs.put_record.Goals as goal

pub returns : goal.returns
returns c =
    record_put c.args.w c.flags_of-flags.result c.args.t.now c.put_u64.new.s c.put_u64-2.new.s c.put_u8.new.s
    c.store.new.s c.put_u64-3.new.s c.put_u64-4.new.s c.args.at c.requires c.flags_of-flags.ensures c.put_u64.ensures
    c.put_u64-2.ensures c.put_u8.ensures c.store.ensures c.put_u64-3.ensures c.put_u64-4.ensures
