use Rattle.std.proofs.Common.{refl, ℕ, List, [], ◌∷◌, ◌++◌, length, take, ap, ◌∙◌}
use Rattle.ring_blocks.specs.declared.Mark.TheVariants.{End}
use Rattle.dada_hdu.specs.Answers.{entry}
use Rattle.disk_feeder.specs.History.{Running}
use Rattle.disk_feeder.specs.Sources.{plan_of}
use Rattle.disk_feeder.proofs.Fates.{is_last, of_fate, reads_of, after_last}
use Rattle.disk_feeder.proofs.Lasts.{last_given}
use Rattle.disk_feeder.proofs.stream.Stream.hand_last.Goals as goal

pub returns-clause-hands : goal.returns-clause-hands
returns-clause-hands c = λ told headers blocks was.
    let old = c.args.self.now in
    let items = ap (λ v. v.items) (c.after_transfer.ensures.block ∙ c.empty.ensures.block) in
    last_given c.streams_grow.ensures c.no_stop_is_whole.ensures old c.next_transfer.new.self c.empty.new.self
    c.after_transfer.new.self told headers headers blocks
    (blocks ++ entry End (take old.held c.after_transfer.new.self.block.items) ∷ []) c.after_transfer.result
    (record {
      was = was;
      due = c.requires.due;
      header = c.requires.filling.header;
      over = c.requires.last.over;
    })
    (record {
      place = c.next_transfer.ensures.place;
      read = c.next_transfer.ensures.read;
      plan = c.next_transfer.ensures.plan;
      source = c.empty.ensures.source;
      size = ap (λ v. length v.items) c.empty.ensures.block;
      held = c.empty.ensures.held;
      due = c.empty.ensures.due;
    }) refl (ap (λ (xs : List ℕ). blocks ++ entry End (take old.held xs) ∷ []) items)
    c.after_transfer.ensures.source c.after_transfer.ensures.block c.after_transfer.ensures.held
    c.after_transfer.ensures.due c.after_transfer.ensures.next

pub returns-clause-reads_on : goal.returns-clause-reads_on
returns-clause-reads_on c = λ before told was.
    let old = c.args.self.now in
    let mid = c.empty.new.self in
    after_last mid c.after_transfer.new.self c.after_transfer.result before told c.after_transfer.ensures.next
    c.after_transfer.ensures.source c.after_transfer.ensures.due c.empty.ensures.due
    (reads_of mid.source c.next_transfer.new.self (plan_of old.source) before told c.empty.ensures.source
    c.next_transfer.ensures.plan
    (c.next_transfer.ensures.reads_on before told
    (of_fate old Running before told (is_last old.due old.end c.requires.due c.requires.filling.running) was)))
