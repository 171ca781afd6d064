use Rattle.std.proofs.Common.{length, rules}
use Rattle.psr_base.specs.InMemory.{body_of, free_room, sink_calls, sink_seen}
use Rattle.psr_base.proofs.Tells.{WroteAll-whole, WriteFails-unchanged, written_whole, Some-stays, told_where-taken, told_where-stays, told_where-serves, Rose-failed, count-stays, fail-stays}
use Rattle.psr_base.proofs.mem_sink.MemSinkSink.TheImpl.Goals as goal

pub write-tells : goal.write-tells
write-tells c =
    let old = c.args.self.now in
    let new = c.new.self.now in
    let bytes = c.args.bytes.now in
    let same = fail-stays c.result (sink_calls old) (sink_calls new) c.ensures.called c.ensures.failed in
    let written = written_whole c.result (body_of old) (body_of new) bytes c.ensures.whole c.ensures.written in
    let room = told_where-taken c.result old.calls.fail.items new.calls.fail.items (free_room old) (free_room new)
    (length bytes) same c.ensures.whole c.ensures.room in
    let quiet = count-stays c.result (sink_calls old) (sink_calls new) c.ensures.called in
    let body_stays = Some-stays c.result (body_of old) (body_of new) c.ensures.unchanged in
    let room_stays = told_where-stays c.result old.calls.fail.items new.calls.fail.items (free_room old)
    (free_room new) same c.ensures.room_stays in
    let rose = Rose-failed c.result (sink_calls old) (sink_calls new) c.ensures.failed in
    record {
      bound = search rules;
      some = search rules;
      took = WroteAll-whole c.result (sink_seen old) (sink_seen new) bytes c.ensures.whole written room quiet;
      failed = WriteFails-unchanged c.result (sink_seen old) (sink_seen new) body_stays room_stays rose c.ensures.count;
      serves = λ x told fits. told_where-serves old.calls.fail.items (free_room old) old.calls.number
          (length bytes) x c.ensures.answer.1 told fits;
    }
