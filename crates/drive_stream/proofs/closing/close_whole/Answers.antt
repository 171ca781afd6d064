use Rattle.std.proofs.Common.{inl, refl, subst}
use Rattle.drive_stream.specs.Endings.{Refused, ending_of}
use Rattle.drive_stream.specs.Streams.{EndsAs}
use Rattle.drive_stream.specs.declared.faults.FinishFault.{FinishFault}
use Rattle.drive_stream.proofs.closing.close_whole.Goals as goal

pub returns-in-Err-Refused : goal.returns-in-Err-Refused
returns-in-Err-Refused g c bytes =
    let seen = g.K.Sink.seen in
    let P : FinishFault _ → Type 0 = λ fault. EndsAs (g.T.Streaming.streams c.args.task.now c.args.observation.now)
    (g.T.Streaming.leaves c.args.task.now c.args.observation.now) c.args.stream.now (ending_of fault)
    (seen c.args.out.now) (seen c.finish.new.out) in
    inl (record {
      ending = Refused c.in-Err-Refused.refusal;
      is = refl;
      left = subst P c.in-Err-Refused.field-0-is c.in-Err-Refused.ensures.broke;
    })
