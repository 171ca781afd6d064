use Rattle.std.specs.Prelude.{true, []}
use Rattle.std.proofs.Common.{sym, ◌∙◌}
use Rattle.session_readers.specs.Banks.{engines_of}
use Rattle.session_readers.proofs.Engines.{fed_at, fed_nothing}
use Rattle.session_readers.proofs.bank.Bank.end.Goals as goal

pub returns : goal.returns
returns c =
    let e = c.engine.result.now in
    let f = c.end.new.self in
    let done = c.end.ensures in
    fed_at (engines_of c.args.self.now) c.args.transfer e f [] true c.engine.ensures.value
    (fed_nothing e f true done.same done.scope done.fed done.ended (λ o all was. record {
      found = done.found o all was;
      searched = λ whole. done.searched o all (record { part = was; whole = sym done.scope ∙ whole });
    }))
