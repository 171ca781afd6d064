use Rattle.std.proofs.Common.{refl, ℕ, List, [], ◌∷◌, ◌++◌, None, Some, ap, ◌∙◌, arith}
use Rattle.std.proofs.lemmas.List.{take_all}
use Rattle.ring_ends.specs.declared.passes.WriterPass.{WriterPass}
use Rattle.ring_ends.specs.Passes.{writer_knows}
use Rattle.ring_blocks.specs.declared.Mark.TheVariants.{More}
use Rattle.dada_hdu.specs.Answers.{entry}
use Rattle.disk_feeder.specs.declared.due.Due.TheVariants.{Full}
use Rattle.disk_feeder.specs.declared.source.Source.{Source}
use Rattle.disk_feeder.specs.History.{Running}
use Rattle.disk_feeder.specs.Sources.{plan_of}
use Rattle.disk_feeder.proofs.Fates.{goes_on, is_full, of_fate, to_fate}
use Rattle.disk_feeder.specs.Turns.{sealed_headers, sealed_blocks}
use Rattle.disk_feeder.proofs.Runs.{feeds_running, blocks_full, stream_is, with_due, runs_on}
use Rattle.disk_feeder.proofs.Sealings.{full_sealed, emptied}
use Rattle.disk_feeder.proofs.stream.Stream.seal_full.Goals as goal

pub returns-in-Ok-clause-feeds : goal.returns-in-Ok-clause-feeds
returns-in-Ok-clause-feeds c = λ told was.
    let old = c.args.self.now in
    let new = c.empty.new.self in
    let pass = c.args.pass.now in
    let pass' = c.write_block.new.pass in
    let size = c.len-size.ensures in
    let whole = take_all c.len-size.result old.block.items (omega arith) in
    feeds_running new told (sealed_headers pass') (sealed_blocks pass') (c.empty.ensures.kept.end ∙ c.requires.running)
    (runs_on old new told (sealed_headers pass) (sealed_headers pass') (sealed_blocks pass) (sealed_blocks pass')
    c.empty.ensures.source c.empty.ensures.kept.header_due
    (ap (λ (p : WriterPass). (writer_knows p).sealed) c.write_block.ensures.header) was
    (stream_is new old.source told c.write_block.new.space.items 0 None (sealed_blocks pass') c.empty.ensures.source
    (ap (λ v. v.items) c.empty.ensures.block) c.empty.ensures.held c.empty.ensures.due
    (emptied (plan_of old.source) told old.source.place old.block.items c.write_block.new.space.items None
    (sealed_blocks pass') c.write_block.ensures.space
    (full_sealed (plan_of old.source) told old.source.place old.block.items old.held (sealed_blocks pass)
    (sealed_blocks pass') old.some (with_due old told (Some Full) (sealed_blocks pass) c.requires.due was.stream)
    (c.in-Ok.ensures.sealed ∙ ap (λ (xs : List ℕ). sealed_blocks pass ++ entry More xs ∷ []) whole)))))

pub returns-in-Err-clause-feeds : goal.returns-in-Err-clause-feeds
returns-in-Err-clause-feeds c = λ told was.
    blocks_full c.args.self.now _ told c.args.pass.now c.write_block.new.pass _ _ refl c.in-Err.ensures.kept refl refl
    refl c.requires.running c.in-Err.ensures.full c.write_block.ensures.header was

pub returns-in-Ok-clause-reads_on : goal.returns-in-Ok-clause-reads_on
returns-in-Ok-clause-reads_on c = λ before told was.
    let old = c.args.self.now in
    let new = c.empty.new.self in
    to_fate new Running (plan_of old.source) old.source.place before told
    (goes_on new.due new.end c.empty.ensures.due (c.empty.ensures.kept.end ∙ c.requires.running))
    (ap plan_of c.empty.ensures.source) (ap (λ (s : Source). s.place) c.empty.ensures.source)
    (of_fate old Running before told (is_full old.due old.end c.requires.due c.requires.running) was)

pub returns-in-Err-clause-reads_on : goal.returns-in-Err-clause-reads_on
returns-in-Err-clause-reads_on c = λ before told was. was
