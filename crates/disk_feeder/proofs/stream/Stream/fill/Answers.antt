use Rattle.std.proofs.Common.{refl, sym, ◌∙◌, subst, arith, rules}
use Rattle.disk_feeder.specs.Plan.{Plan, AreAccepted}
use Rattle.disk_feeder.specs.Streams.{KeepsStream, work_left}
use Rattle.disk_feeder.specs.declared.stream.Stream.{Stream}
use Rattle.disk_feeder.proofs.Counting.{not_due, not_ended, since_more, fewer_steps}
use Rattle.disk_feeder.proofs.Missing.{missing_of, fault_due}
use Rattle.disk_feeder.proofs.Unopened.{unopened_due}
use Rattle.disk_feeder.proofs.stream.Stream.fill.Goals as goal

keeps : (a b c : Stream) → KeepsStream a b → KeepsStream b c → KeepsStream a c
keeps a b c f h = record {
  plan = h.plan ∙ f.plan;
  size = h.size ∙ f.size;
  transfer = h.transfer ∙ f.transfer;
  header_due = h.header_due ∙ f.header_due;
  end = h.end ∙ f.end;
}

pub step-requires-clause-within : goal.step-requires-clause-within
step-requires-clause-within g c =
    let P : Plan → Type 0 = λ plan. AreAccepted plan in
    let kept = c.loop-self.invariant.kept in
    record {
      there = search rules;
      accepted = subst P (sym kept.plan) c.requires.within.accepted;
    }

pub loop-self-smaller : goal.loop-self-smaller
loop-self-smaller g c =
    fewer_steps c.loop-self.self.due c.step.new.self.due (work_left c.loop-self.self) (work_left c.step.new.self)
    c.in_default.is c.step.ensures.progress

pub loop-self-preserved : goal.loop-self-preserved
loop-self-preserved g c =
    let i = g.I.Inputs in
    let before = c.loop-self.invariant in
    let mid = c.loop-self.self in
    let running = before.kept.end ∙ c.requires.running in
    record {
      kept = keeps c.args.self.now c.loop-self.self c.step.new.self before.kept c.step.ensures.kept;
      filled = λ blocks was. c.step.ensures.filled blocks (before.filled blocks was);
      reads_on = λ outset was. c.step.ensures.reads_on outset (before.reads_on outset was);
      is_open = c.step.ensures.is_open;
      inputs = record {
        names = c.step.ensures.inputs.names ∙ before.inputs.names;
        count = let a = before.inputs.count in let b = c.step.ensures.inputs.count in omega arith;
        quiet = λ fine. c.step.ensures.inputs.quiet fine.0
            ∙ before.inputs.quiet (not_due mid.due c.in_default.is, not_ended mid.end running);
        since = λ k was.
            since_more k (i.faults c.loop-self.inputs) (i.faults c.step.new.inputs) mid.due c.step.new.self.due mid.end
            c.step.new.self.end (before.inputs.since k was) c.step.ensures.inputs.count c.in_default.is running
            c.step.ensures.kept.end c.step.ensures.inputs.rose c.step.ensures.inputs.quiet;
        calm = λ h. c.step.ensures.inputs.calm (before.inputs.calm h);
        missing = λ calm was.
            fault_due c.step.new.self (i.told c.step.new.inputs) (c.step.ensures.kept.end ∙ running)
            (λ due. missing_of c.step.new.self.source c.step.new.self.source (i.told c.loop-self.inputs)
            (i.told c.step.new.inputs) refl refl c.step.ensures.inputs.names
            (c.step.ensures.missing (before.inputs.calm calm) due).0);
        unopened = λ calm outset was stood.
            unopened_due c.step.new.self outset (i.told c.step.new.inputs) (c.step.ensures.kept.end ∙ running)
            (λ due. (c.step.ensures.missing (before.inputs.calm calm) due).1 outset (before.reads_on outset was));
      };
    }
