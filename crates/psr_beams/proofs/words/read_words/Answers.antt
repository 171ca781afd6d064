use Rattle.std.proofs.Common.{map, sym}
use Rattle.std.specs.Prelude.{string_bytes}
use Rattle.psr_beams.proofs.Saying.{formed, explains}
use Rattle.psr_beams.proofs.words.read_words.Goals as goal

pub returns-in-Err-clause-fault : goal.returns-in-Err-clause-fault
returns-in-Err-clause-fault c =
    let words = map string_bytes c.args.words.now in
    explains words c.in-Err.fault
    (formed words c.in-Some.within c.in-Some-number_at.more (sym c.in-Some.ensures) (sym c.in-Some-number_at.ensures))
    c.in-Err.ensures.fault
