use Rattle.std.proofs.Common.{◌≡◌, ℕ, List, ◌++◌, Option, Some, None, Err, length, take, drop, refl, sym, ap, ◌∙◌, subst, rules}
use Rattle.psr_base.specs.Told.{Told}
use Rattle.ring_blocks.specs.declared.Entry.{Entry}
use Rattle.disk_feeder.specs.declared.due.Due.{Due}
use Rattle.disk_feeder.specs.declared.answers.FeedEnd.TheVariants.{ReadFault}
use Rattle.disk_feeder.specs.declared.due.Due.TheVariants.{Stopped}
use Rattle.disk_feeder.specs.declared.stream.Stream.{Stream}
use Rattle.disk_feeder.specs.declared.source.Source.{Source}
use Rattle.disk_feeder.specs.declared.place.Place.{Place}
use Rattle.disk_feeder.specs.Plan.{Plan}
use Rattle.disk_feeder.specs.Filling.{IsFilled}
use Rattle.disk_feeder.specs.History.{Running, ReadsUpTo, BreaksOffAt}
use Rattle.disk_feeder.specs.Sources.{plan_of, HasMore}
use Rattle.disk_feeder.specs.Streams.{StreamRead}
use Rattle.disk_feeder.proofs.Fates.{goes_on, held_goes_on, held_is_calm, at_stop, of_fate, to_fate}
use Rattle.disk_feeder.proofs.Missing.{missing_of, missing_here}
use Rattle.disk_feeder.proofs.Unopened.{not_opened}
use Rattle.disk_feeder.proofs.Fillings.{whole_written, filled_more, filled_stopped}
use Rattle.disk_feeder.proofs.stream.Stream.step.Goals as goal

-- the same in the words of another plan, place and block
moved : (plan plan' : Plan) (told : Told) (at at' : Place) (block block' : List ℕ) (held : ℕ) (due : Option Due)
    (blocks : List Entry) → plan' ≡ plan → at' ≡ at → block' ≡ block → IsFilled plan told at block held due blocks →
    IsFilled plan' told at' block' held due blocks
moved plan plan' told at at' block block' held due blocks p q r f =
    rw (p, q, r) f

pub returns-in-Ok-clause-filled : goal.returns-in-Ok-clause-filled
returns-in-Ok-clause-filled g c = λ blocks was.
    let old = c.args.self.now in
    let new = c.hold.new.self in
    let plan = plan_of old.source in
    let told = g.I.Inputs.told c.args.inputs.now in
    let told' = g.I.Inputs.told c.read_behind.new.inputs in
    let slice = c.as_mut_slice-block.result.now in
    let after = c.read_behind.new.block in
    let whole : new.block.items ≡ after =
    ap (λ v. v.items) c.hold.ensures.block ∙ whole_written old.block.len after old.block.items (search rules) in
    let lent = ap (length {A = ℕ}) (whole_written old.block.len after old.block.items (search rules)) in
    moved plan (plan_of new.source) told' c.read_behind.new.source.place new.source.place after new.block.items new.held
    new.due blocks
    (ap plan_of c.hold.ensures.source ∙ c.read_behind.ensures.on.plan)
    (ap (λ (s : Source). s.place) c.hold.ensures.source) whole
    (filled_more c.streams_grow.ensures plan told told' old.source.place c.read_behind.new.source.place slice after
    old.held new.held c.in-Ok.n new.due blocks
    (rw c.as_mut_slice-block.ensures.value (rw c.requires.idle.due at was))
    c.in-Ok.ensures.read.filled c.read_behind.auto.block c.hold.ensures.held c.in-Ok.ensures.bound
    (λ now. c.hold.ensures.full (now ∙ sym lent))
    (λ not_now. c.hold.ensures.more (λ now. not_now (now ∙ lent)) ∙ c.requires.idle.due))

pub returns-in-Err-clause-filled : goal.returns-in-Err-clause-filled
returns-in-Err-clause-filled g c = λ blocks was.
    let old = c.args.self.now in
    let plan = plan_of old.source in
    let told = g.I.Inputs.told c.args.inputs.now in
    let told' = g.I.Inputs.told c.read_behind.new.inputs in
    let slice = c.as_mut_slice-block.result.now in
    let after = c.read_behind.new.block in
    moved plan (plan_of c.read_behind.new.source) told' old.source.place c.read_behind.new.source.place after
    (take old.block.len (after ++ drop (length after) old.block.items)) old.held (Some (Stopped c.in-Err.end)) blocks
    c.read_behind.ensures.on.plan c.in-Err.ensures.on.place
    (whole_written old.block.len after old.block.items (search rules))
    (filled_stopped plan told told' old.source.place slice after old.held c.in-Err.end blocks
    (rw c.as_mut_slice-block.ensures.value (rw c.requires.idle.due at was))
    c.in-Err.ensures.read.filled c.read_behind.auto.block c.read_behind.ensures.front c.in-Err.ensures.on.early)

-- ---- what was read

-- nothing was due before
read_so_far : (old : Stream) (before told : Told) → old.due ≡ None → old.end ≡ None → StreamRead before told old →
    ReadsUpTo (plan_of old.source) before told old.source.place
read_so_far old before told due running was = of_fate old Running before told (goes_on old.due old.end due running) was

pub returns-in-Ok-clause-reads_on : goal.returns-in-Ok-clause-reads_on
returns-in-Ok-clause-reads_on g c = λ before was.
    let old = c.args.self.now in
    let new = c.hold.new.self in
    let src = c.read_behind.new.source in
    let told = g.I.Inputs.told c.args.inputs.now in
    let told' = g.I.Inputs.told c.read_behind.new.inputs in
    to_fate new Running (plan_of old.source) src.place before told'
    (held_goes_on new.held _ new.due _ new.end c.hold.ensures.full c.hold.ensures.more c.requires.idle.due
    (c.hold.ensures.kept.end ∙ c.requires.idle.running))
    (ap plan_of c.hold.ensures.source ∙ c.read_behind.ensures.on.plan)
    (ap (λ (s : Source). s.place) c.hold.ensures.source)
    (c.in-Ok.ensures.read.reads_on before (read_so_far old before told c.requires.idle.due c.requires.idle.running was))

pub returns-in-Err-clause-reads_on : goal.returns-in-Err-clause-reads_on
returns-in-Err-clause-reads_on g c = λ before was.
    let old = c.args.self.now in
    let src = c.read_behind.new.source in
    let end = c.in-Err.end in
    let told = g.I.Inputs.told c.args.inputs.now in
    let told' = g.I.Inputs.told c.read_behind.new.inputs in
    let Q : Plan → Type 0 = λ p. BreaksOffAt p before told' src.place in
    rw c.requires.idle.running
    (at_stop end (plan_of src) before told' src.place (λ failed. subst Q (sym c.read_behind.ensures.on.plan)
    (c.in-Err.ensures.read.reads_on before
    (read_so_far old before told c.requires.idle.due c.requires.idle.running was) failed)))

pub returns-then-is_transfer_over-clause-reads_on : goal.returns-then-is_transfer_over-clause-reads_on
returns-then-is_transfer_over-clause-reads_on g c = λ before was.
    let old = c.args.self.now in
    let told = g.I.Inputs.told c.args.inputs.now in
    rw c.requires.idle.running (read_so_far old before told c.requires.idle.due c.requires.idle.running was)

-- ---- a fault

pub returns-in-Ok-clause-missing : goal.returns-in-Ok-clause-missing
returns-in-Ok-clause-missing g c = λ calm due.
    let new = c.hold.new.self in
    absurd (held_is_calm new.held _ new.due _ ReadFault c.hold.ensures.full c.hold.ensures.more c.requires.idle.due due)

pub returns-in-Err-clause-missing : goal.returns-in-Err-clause-missing
returns-in-Err-clause-missing g c = λ calm due.
    let old = c.args.self.now in
    let src = c.read_behind.new.source in
    let told = g.I.Inputs.told c.args.inputs.now in
    let told' = g.I.Inputs.told c.read_behind.new.inputs in
    let more : HasMore old.source = search rules in
    let failed : Err c.in-Err.end ≡ Err ReadFault = cc in
    let fails = c.in-Err.ensures.serves calm failed in (
      missing_of old.source src told told c.read_behind.ensures.on.plan c.in-Err.ensures.on.place refl
          (missing_here old.source told more fails.fails.untold),
      λ before was.
          not_opened old.source src before told told' c.read_behind.ensures.on.plan c.in-Err.ensures.on.place fails
          (read_so_far old before told c.requires.idle.due c.requires.idle.running was),
    )
