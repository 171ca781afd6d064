use Rattle.dada_recorder.proofs.Opening.{begins_made, stands_fresh}
use Rattle.dada_recorder.proofs.recorder.Recorder.over.Goals as goal

pub returns-clause-fresh : goal.returns-clause-fresh
returns-clause-fresh g c = λ plan block is. record {
  plan_is = is.plan_is;
  block_is = is.block_is;
  closed = is.closed;
  running = is.running;
  stands = stands_fresh c.args.space is.running is.nothing;
  made = λ outset seen begins. begins_made _ outset _ _ seen begins is.closed is.running;
}
