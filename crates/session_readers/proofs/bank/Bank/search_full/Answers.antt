use Rattle.std.specs.Prelude.{false, []}
use Rattle.session_readers.specs.Banks.{engines_of}
use Rattle.session_readers.proofs.Engines.{fed_at, fed_nothing}
use Rattle.session_readers.proofs.bank.Bank.search_full.Goals as goal

pub returns : goal.returns
returns c =
    let e = c.engine.result.now in
    let f = c.search_full.new.self in
    let done = c.search_full.ensures in
    fed_at (engines_of c.args.self.now) c.args.transfer e f [] false c.engine.ensures.value
    (fed_nothing e f false done.same done.scope done.fed done.running done.part)
