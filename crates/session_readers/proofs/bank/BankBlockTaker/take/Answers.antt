use Rattle.std.specs.Prelude.{false}
use Rattle.session_readers.specs.Banks.{engines_of}
use Rattle.session_readers.proofs.Engines.{fed_at}
use Rattle.session_readers.proofs.bank.BankBlockTaker.take.Goals as goal

pub returns : goal.returns
returns c =
    let fed = c.unpack.ensures in
    fed_at (engines_of c.args.self.now) c.args.part c.engine.result.now c.unpack.new.self c.args.bytes.now false
    c.engine.ensures.value (record {
      same = fed.same;
      scope = fed.scope;
      fed = fed.fed;
      ended = fed.running;
      stands = fed.part;
    })
