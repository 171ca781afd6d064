use Rattle.std.proofs.Common.{refl, ℕ, List, [], ◌∷◌, ◌++◌, None, Some, take, ap, ◌∙◌, arith}
use Rattle.std.proofs.lemmas.List.{take_all}
use Rattle.ring_blocks.specs.declared.Mark.TheVariants.{More}
use Rattle.dada_hdu.specs.Answers.{entry}
use Rattle.disk_feeder.specs.declared.due.Due.TheVariants.{Full}
use Rattle.disk_feeder.specs.Sources.{plan_of}
use Rattle.disk_feeder.proofs.Runs.{feeds_running, stream_is, with_due, runs_on}
use Rattle.disk_feeder.proofs.Sealings.{full_sealed}
use Rattle.disk_feeder.proofs.stream.Stream.hand_full.Goals as goal

pub returns-clause-hands : goal.returns-clause-hands
returns-clause-hands c = λ told headers blocks was.
    let old = c.args.self.now in
    let new = c.empty.new.self in
    let size = c.len-used.ensures in
    let whole = take_all c.len-used.result old.block.items (omega arith) in
    let items = ap (λ v. v.items) c.empty.ensures.block in
    let more = blocks ++ entry More (take c.len-used.result new.block.items) ∷ [] in
    feeds_running new told headers more (c.empty.ensures.kept.end ∙ c.requires.running)
    (runs_on old new told headers headers blocks more c.empty.ensures.source c.empty.ensures.kept.header_due refl was
    (stream_is new old.source told old.block.items 0 None more c.empty.ensures.source items c.empty.ensures.held
    c.empty.ensures.due
    (full_sealed (plan_of old.source) told old.source.place old.block.items old.held blocks more old.some
    (with_due old told (Some Full) blocks c.requires.due was.stream)
    (ap (λ (xs : List ℕ). blocks ++ entry More (take c.len-used.result xs) ∷ []) items
    ∙ ap (λ (xs : List ℕ). blocks ++ entry More xs ∷ []) whole))))
