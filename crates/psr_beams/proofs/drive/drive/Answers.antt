use Rattle.std.proofs.Common.{length, refl, inl, sym, arith}
use Rattle.std.specs.Prelude.{string_bytes}
use Rattle.std.proofs.lemmas.List.{length-map}
use Rattle.run_outcome.specs.declared.stop.Stop.TheVariants.{Memory}
use Rattle.search_words.specs.Settings.{settings_seen}
use Rattle.psr_beams.specs.Seen.{told_at}
use Rattle.psr_beams.specs.Joined.{AreJoined}
use Rattle.psr_beams.proofs.Drives.{AreReady, are_ready, headers_read, not_opened, can_open, begins, data_found, went_through}
use Rattle.psr_beams.proofs.drive.drive.Goals as goal
use Rattle.psr_beams.proofs.drive.drive.Goals.{In-Ok, In-Ok-open_all}

-- the headers of all beams were read
ready : (g : _) (c : In-Ok g) →
    AreReady g.I.Inputs.told g.I.Inputs.is_open g.I.Inputs.is_calm g.I.Inputs.faults
    (settings_seen c.args.said.now.settings) c.args.inputs.now c.begin_all.new.inputs c.in-Ok.feeders.items
ready g c =
    let names = c.args.said.now.settings.run.names.items in
    let beams = c.requires.beams in
    are_ready _ _ _ _ _ c.requires.range c.requires.one _ _ (length names) (sym (length-map names string_bytes))
    (omega (arith, beams.0)) (omega (arith, beams.1, c.requires.lent)) _ c.in-Ok.ensures.read c.in-Ok.ensures.begun

pub judge_all-requires-clause-headers : goal.judge_all-requires-clause-headers
judge_all-requires-clause-headers g c =
    headers_read (ready g (goal.at.judge_all-requires-clause-headers g c).In-Ok) c.as_slice.ensures.value

pub returns-in-Err-judge_all : goal.returns-in-Err-judge_all
returns-in-Err-judge_all g c =
    not_opened (ready g (goal.at.returns-in-Err-judge_all g c).In-Ok) c.as_slice.ensures.value c.args.said.now.within
    c.args.said.now.more (g.K.Sink.seen c.args.out.now) c.in-Err-judge_all.stop c.in-Err-judge_all.ensures.stopped

pub open_all-requires-clause-can : goal.open_all-requires-clause-can
open_all-requires-clause-can g c = λ lifetimes lives.
    let s = settings_seen c.args.said.now.settings in (
      told_at g.I.Inputs.told c.begin_all.new.inputs,
      length s.names,
      can_open (ready g (goal.at.open_all-requires-clause-can g c).In-Ok) c.as_slice.ensures.value
          c.in-Ok-judge_all.ensures.accepted c.later_headers_agree.ensures,
    )

pub returns-in-Err-open_all : goal.returns-in-Err-open_all
returns-in-Err-open_all g c =
    not_opened (ready g (goal.at.returns-in-Err-open_all g c).In-Ok) c.as_slice.ensures.value c.args.said.now.within
    c.args.said.now.more (g.K.Sink.seen c.args.out.now) Memory (inl (inl refl))

pub run_set-ends-requires-clause-turns : goal.run_set-ends-requires-clause-turns
run_set-ends-requires-clause-turns g c = λ lifetimes lives. c.requires.range.run.least_turns

-- the beams are those of the feeders
opened : (g : _) (c : In-Ok-open_all g) →
    AreReady g.I.Inputs.told g.I.Inputs.is_open g.I.Inputs.is_calm g.I.Inputs.faults
    (settings_seen c.args.said.now.settings) c.args.inputs.now c.begin_all.new.inputs c.in-Ok.feeders.items →
    AreJoined (told_at g.I.Inputs.told c.begin_all.new.inputs) (settings_seen c.args.said.now.settings)
    c.in-Ok-judge_all.observation (length (settings_seen c.args.said.now.settings).names) c.in-Ok.feeders.items
    c.in-Ok-open_all.beams.items
opened g c all = c.in-Ok-open_all.ensures (told_at g.I.Inputs.told c.begin_all.new.inputs)
    (length (settings_seen c.args.said.now.settings).names)
    (can_open all c.as_slice.ensures.value c.in-Ok-judge_all.ensures.accepted c.later_headers_agree.ensures)

pub run_set-ends-requires-clause-begins : goal.run_set-ends-requires-clause-begins
run_set-ends-requires-clause-begins g c = λ lifetimes lives.
    let here = goal.at.run_set-ends-requires-clause-begins g c in
    let all = ready g here.In-Ok in
    begins all c.as_slice.ensures.value c.in-Ok-judge_all.ensures.accepted (opened g here.In-Ok-open_all all)

pub write_end-requires-clause-found : goal.write_end-requires-clause-found
write_end-requires-clause-found g c =
    let here = goal.at.write_end-requires-clause-found g c in
    let all = ready g here.In-Ok in
    data_found all c.as_slice.ensures.value c.in-Ok-judge_all.ensures.accepted (opened g here.In-Ok-open_all all)
    c.run_set-ends.ensures c.as_slice-2.ensures.value

pub returns : goal.returns
returns g c =
    let here = goal.at.returns g c in
    let all = ready g here.In-Ok in
    went_through all c.as_slice.ensures.value c.in-Ok-judge_all.ensures.accepted (opened g here.In-Ok-open_all all)
    c.run_set-ends.ensures c.as_slice-2.ensures.value c.in-Ok-judge_all.ensures.fits c.args.said.now.within
    c.args.said.now.more (g.K.Sink.seen c.args.out.now) (g.K.Sink.seen c.write_end.new.out) c.write_end.result
    c.write_end.ensures
