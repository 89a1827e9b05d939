-- `put_write` meets its contract.
use Rattle.call_write.proofs.WriteRules.{write-fits, write-put}
use Rattle.call_write.proofs.write_call.put_write.Goals as goal

pub put_descriptor-requires : goal.put_descriptor-requires
put_descriptor-requires c = let r = c.requires in (
  r.in_range.0,
  r.in_range.1,
  write-fits c.args.n c.args.standing _ r.write_room.1 r.write_room.0.file c.after_write.ensures,
)

pub returns : goal.returns
returns c = let a = c.args in let r = c.requires in
    let put = write-put a.t a.d a.n a.standing a.u a.state.now c.told-state r.in_range.0 r.in_range.1 r.write_room.0.records
    _ _ _ _ _ _ c.write_place.ensures c.put_record.ensures c.appended.ensures.records c.appended.ensures.bytes
    c.put_used.ensures c.after_write.ensures c.put_descriptor.ensures in
    record { state_after = put.0; journal_after = put.1 }
