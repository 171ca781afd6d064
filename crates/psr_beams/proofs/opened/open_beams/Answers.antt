use Rattle.std.proofs.Common.{◌≡◌, ◌+◌, ◌<◌, Some, get_or, None, length, subst, arith}
use Rattle.search_words.specs.Settings.{settings_seen}
use Rattle.psr_beams.specs.Files.{beam_name}
use Rattle.psr_beams.specs.Joined.{CanJoinSlot, AreJoined}
use Rattle.psr_beams.proofs.Joining.{engines_there, engines_left, engine_taken, one_less, taken, left, can_at, some_slot, one_joined}
use Rattle.psr_beams.proofs.opened.open_beams.Goals as goal
use Rattle.psr_beams.proofs.opened.open_beams.Goals.{After-remove-feeder}

pub take_engine-engine-requires-clause-there : goal.take_engine-engine-requires-clause-there
take_engine-engine-requires-clause-there c =
    engines_there c.args.settings.now.search c.args.observation.now c.loop-place.engines.items
    c.loop-place.invariant.engines

within : (c : After-remove-feeder) → c.loop-place._place < length c.args.feeders.items
within c =
    let many = c.requires.many in
    let end : c.len-place-end.result ≡ length c.args.engines.items = c.len-place-end.ensures.value in
    let below = c.loop-place-test.true in
    omega arith

-- the feeder at this place
here : (c : After-remove-feeder) → get_or c.args.feeders.items c.loop-place._place None ≡ c.remove-feeder.result
here c = taken c.args.feeders.items c.loop-place.feeders.items c.loop-place._place c.remove-feeder.result (within c)
    c.loop-place.invariant.feeders c.remove-feeder.ensures.value

can : (c : After-remove-feeder) → CanJoinSlot (c.requires.can.0 c.loop-place._place) (settings_seen c.args.settings.now)
    c.args.observation.now (beam_name (settings_seen c.args.settings.now) c.loop-place._place) c.remove-feeder.result
can c =
    let many = c.requires.can.2.many in
    let below = within c in
    can_at c.requires.can.0 (settings_seen c.args.settings.now) c.args.observation.now c.requires.can.1
    c.loop-place._place c.args.feeders.items c.remove-feeder.result c.requires.can.2 (omega (arith, many, below))
    (here c)

pub open_slot-requires-clause-engine : goal.open_slot-requires-clause-engine
open_slot-requires-clause-engine c =
    engine_taken c.args.settings.now.search c.args.observation.now c.loop-place.engines.items
    c.take_engine-engine.new.engines.items c.take_engine-engine.result c.take_engine-engine.ensures
    c.loop-place.invariant.engines

pub open_slot-requires-clause-there : goal.open_slot-requires-clause-there
open_slot-requires-clause-there c =
    some_slot c.requires.can.0 (settings_seen c.args.settings.now) c.args.observation.now _ _ c.remove-feeder.result
    (can (goal.at.open_slot-requires-clause-there c).After-remove-feeder)

pub open_slot-requires-clause-can : goal.open_slot-requires-clause-can
open_slot-requires-clause-can c = (
  c.requires.can.0 c.loop-place._place,
  beam_name (settings_seen c.args.settings.now) c.loop-place._place,
  can (goal.at.open_slot-requires-clause-can c).After-remove-feeder,
)

pub loop-place-preserved : goal.loop-place-preserved
loop-place-preserved c =
    let s = settings_seen c.args.settings.now in
    let o = c.args.observation.now in
    let place = c.loop-place._place in
    let before = c.loop-place.invariant in
    let at = (goal.at.loop-place-preserved c).After-remove-feeder in
    let old = c.loop-place.engines.items in
    let new = c.take_engine-engine.new.engines.items in
    let taken_is = c.take_engine-engine.ensures in
    let counted = before.count in
    let more : length c.push.new.self.items ≡ length c.loop-place.beams.items + 1 = c.push.ensures.len in
    record {
      left = one_less s.search o old new c.take_engine-engine.result taken_is before.engines place
          (length c.args.feeders.items) before.left;
      feeders = left c.args.feeders.items c.loop-place.feeders.items place c.remove-feeder.result (within at)
          before.feeders c.remove-feeder.new.self.items c.remove-feeder.ensures.items;
      count = omega (arith, more, counted);
      engines = engines_left s.search o old new c.take_engine-engine.result taken_is before.engines;
      joined = λ told count all.
          let many = all.many in
          let below = within at in
          one_joined told s o place c.args.feeders.items c.loop-place.beams.items c.push.new.self.items
          c.remove-feeder.result (Some c.in_ok-beam.beam) (before.joined told count all) (here at)
          (c.in_ok-beam.ensures (told place) (beam_name s place)
          (can_at told s o count place c.args.feeders.items c.remove-feeder.result all (omega (arith, many, below))
          (here at)))
          c.push.ensures.items;
    }

pub returns : goal.returns
returns c = λ told count all.
    let many = all.many in
    let least = c.requires.many in
    let over = c.loop-place-test.false in
    let end : c.len-place-end.result ≡ length c.args.engines.items = c.len-place-end.ensures.value in
    let most = c.loop-place.auto._place-end in
    let same : c.loop-place._place ≡ count = omega (arith, many, least, over, end, most) in
    subst (λ n. AreJoined told (settings_seen c.args.settings.now) c.args.observation.now n c.args.feeders.items
    c.loop-place.beams.items) same (c.loop-place.invariant.joined told count all)
