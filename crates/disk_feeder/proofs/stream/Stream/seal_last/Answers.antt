use Rattle.std.proofs.Common.{refl, length, ap, ◌∙◌}
use Rattle.ring_ends.specs.declared.passes.WriterPass.{WriterPass}
use Rattle.ring_ends.specs.Passes.{writer_knows}
use Rattle.disk_feeder.specs.History.{Running}
use Rattle.disk_feeder.specs.Sources.{plan_of}
use Rattle.disk_feeder.proofs.Fates.{is_last, of_fate, reads_of, after_last}
use Rattle.disk_feeder.specs.Turns.{sealed_headers, sealed_blocks}
use Rattle.disk_feeder.proofs.Runs.{blocks_full}
use Rattle.disk_feeder.proofs.Lasts.{last_given}
use Rattle.disk_feeder.proofs.stream.Stream.seal_last.Goals as goal

pub returns-in-Ok-clause-feeds : goal.returns-in-Ok-clause-feeds
returns-in-Ok-clause-feeds c = λ told was.
    let pass = c.args.pass.now in
    let pass' = c.write_block.new.pass in
    last_given c.streams_grow.ensures c.no_stop_is_whole.ensures c.args.self.now c.next_transfer.new.self
    c.empty.new.self c.after_transfer.new.self told (sealed_headers pass) (sealed_headers pass') (sealed_blocks pass)
    (sealed_blocks pass') c.after_transfer.result
    (record {
      was = was;
      due = c.requires.due;
      header = c.requires.filling.header;
      over = c.requires.last.over;
    })
    (record {
      place = c.next_transfer.ensures.place;
      read = c.next_transfer.ensures.read;
      plan = c.next_transfer.ensures.plan;
      source = c.empty.ensures.source;
      size = ap (λ v. length v.items) c.empty.ensures.block ∙ c.write_block.ensures.space;
      held = c.empty.ensures.held;
      due = c.empty.ensures.due;
    }) (ap (λ (p : WriterPass). (writer_knows p).sealed) c.write_block.ensures.header) c.in-Ok.ensures.sealed
    c.after_transfer.ensures.source c.after_transfer.ensures.block c.after_transfer.ensures.held
    c.after_transfer.ensures.due c.after_transfer.ensures.next

pub returns-in-Err-clause-feeds : goal.returns-in-Err-clause-feeds
returns-in-Err-clause-feeds c = λ told was.
    blocks_full c.args.self.now _ told c.args.pass.now c.write_block.new.pass _ _ refl c.in-Err.ensures.kept refl refl
    refl c.requires.filling.running c.in-Err.ensures.full c.write_block.ensures.header was

pub returns-in-Ok-clause-reads_on : goal.returns-in-Ok-clause-reads_on
returns-in-Ok-clause-reads_on c = λ before told was.
    let old = c.args.self.now in
    let mid = c.empty.new.self in
    let new = c.after_transfer.new.self in
    after_last mid new c.after_transfer.result before told c.after_transfer.ensures.next c.after_transfer.ensures.source
    c.after_transfer.ensures.due c.empty.ensures.due
    (reads_of mid.source c.next_transfer.new.self (plan_of old.source) before told c.empty.ensures.source
    c.next_transfer.ensures.plan
    (c.next_transfer.ensures.reads_on before told
    (of_fate old Running before told (is_last old.due old.end c.requires.due c.requires.filling.running) was)))

pub returns-in-Err-clause-reads_on : goal.returns-in-Err-clause-reads_on
returns-in-Err-clause-reads_on c = λ before told was. was
