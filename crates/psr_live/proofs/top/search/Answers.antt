use Rattle.std.proofs.Common.{Some, ap, inl, refl, map}
use Rattle.std.specs.Prelude.{string_bytes}
use Rattle.search_words.specs.Settings.{settings_seen}
use Rattle.psr_part.specs.declared.stop.PartStop.TheVariants.{Run}
use Rattle.psr_live.proofs.Reading.{leaves_at_check, leaves_at_words, leaves_streamed, reads_check}
use Rattle.psr_live.proofs.Starting.{answered, at_check, goes_on_from, streamed_to}
use Rattle.psr_live.proofs.top.search.Goals as goal

pub returns-in-Err-clause-ends : goal.returns-in-Err-clause-ends
returns-in-Err-clause-ends g c = inl (record {
  fault = c.in-Err.fault;
  explains = c.in-Err.ensures.fault;
  is = ap (λ s. Some (Run s)) c.of_words.ensures;
  untouched = refl;
  unread = refl;
})

pub returns-in-Err-clause-leaves : goal.returns-in-Err-clause-leaves
returns-in-Err-clause-leaves g c =
    leaves_at_words (map string_bytes c.args.words.now) _ _ (g.K.Sink.seen c.args.out.now) c.in-Err.fault
    c.of_words.result c.of_words.ensures

pub returns-in-Err-read_checkpoint-clause-ends : goal.returns-in-Err-read_checkpoint-clause-ends
returns-in-Err-read_checkpoint-clause-ends g c =
    let words = map string_bytes c.args.words.now in
    let read = c.in-Err-read_checkpoint.ensures in
    at_check g.I.Inputs.told g.I.Inputs.is_calm g.I.Inputs.faults words (settings_seen c.in-Ok.said.settings)
    c.in-Ok.ensures.says c.check_of.result.now c.check_of.ensures c.args.inputs.now c.read_checkpoint.new.inputs _
    c.in-Err-read_checkpoint.fault c.of_checkpoint.result c.of_checkpoint.ensures read.judged read.late read.inputs
    read.serves

pub returns-in-Err-read_checkpoint-clause-leaves : goal.returns-in-Err-read_checkpoint-clause-leaves
returns-in-Err-read_checkpoint-clause-leaves g c =
    let read = c.in-Err-read_checkpoint.ensures in
    leaves_at_check g.I.Inputs.told (map string_bytes c.args.words.now) (g.I.Inputs.is_calm c.args.inputs.now)
    c.check_of.result.now c.args.inputs.now c.read_checkpoint.new.inputs (g.K.Sink.seen c.args.out.now)
    c.in-Err-read_checkpoint.fault c.of_checkpoint.result c.of_checkpoint.ensures c.check_of.ensures read.new read.read
    read.broke read.serves read.inputs.names

pub returns-clause-ends : goal.returns-clause-ends
returns-clause-ends g c =
    let words = map string_bytes c.args.words.now in
    let read = c.in-Ok-read_checkpoint.ensures in
    let from = c.in-Ok-read_checkpoint.from in
    let told = g.I.Inputs.told in
    let s = settings_seen c.in-Ok.said.settings in
    streamed_to told g.I.Inputs.is_calm g.I.Inputs.faults words s c.in-Ok.ensures.says c.args.inputs.now
    c.read_checkpoint.new.inputs c.drive_stream.new.inputs _ _ from
    (goes_on_from told g.I.Inputs.is_calm g.I.Inputs.faults words s c.in-Ok.ensures.says c.check_of.result.now
    c.check_of.ensures c.args.inputs.now c.read_checkpoint.new.inputs (g.K.Sink.seen c.args.out.now) from
    read.within.1 read.judged)
    c.in-Ok.said.every c.in-Ok.ensures.every c.drive_stream.result c.stop_of_stream.result c.stop_of_stream.ensures
    read.inputs c.drive_stream.ensures.inputs c.drive_stream.ensures.serves c.drive_stream.ensures.ends
    (answered s c.in-Ok.ensures.in_range.run c.in-Ok.ensures.says.search.one.transfer _
    c.causes_are_answered.ensures.accepted c.causes_are_answered.ensures.headers
    c.causes_are_answered.ensures.refusals c.causes_are_answered.ensures.stops
    (told c.read_checkpoint.new.inputs) _ _ c.drive_stream.result c.drive_stream.ensures.ends)

pub returns-clause-leaves : goal.returns-clause-leaves
returns-clause-leaves g c =
    let words = map string_bytes c.args.words.now in
    let read = c.in-Ok-read_checkpoint.ensures in
    let from = c.in-Ok-read_checkpoint.from in
    let told = g.I.Inputs.told in
    let calm = g.I.Inputs.is_calm in
    let s = settings_seen c.in-Ok.said.settings in
    leaves_streamed words s c.in-Ok.ensures.says from (calm c.args.inputs.now) (calm c.read_checkpoint.new.inputs)
    read.inputs.calm (told c.args.inputs.now) (told c.read_checkpoint.new.inputs) (told c.drive_stream.new.inputs)
    (goes_on_from told calm g.I.Inputs.faults words s c.in-Ok.ensures.says c.check_of.result.now c.check_of.ensures
    c.args.inputs.now c.read_checkpoint.new.inputs (g.K.Sink.seen c.args.out.now) from read.within.1 read.judged)
    (reads_check told words c.check_of.result.now c.args.inputs.now c.read_checkpoint.new.inputs c.check_of.ensures
    (λ new. (read.new new).0) (λ other. read.read other (λ e. absurd cc)) read.inputs.names)
    c.in-Ok.said.every c.in-Ok.ensures.every (g.K.Sink.seen c.args.out.now) (g.K.Sink.seen c.drive_stream.new.out)
    c.drive_stream.result c.drive_stream.ensures.leaves c.stop_of_stream.result c.stop_of_stream.ensures
