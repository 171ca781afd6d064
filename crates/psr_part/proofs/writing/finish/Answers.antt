use Rattle.psr_part.proofs.Runs.{ends_for}
use Rattle.psr_part.proofs.writing.finish.Goals as goal

pub write_end-stop-requires-clause-found : goal.write_end-stop-requires-clause-found
write_end-stop-requires-clause-found g c = λ count is.
    let f = c.requires.found count is in
    (f.0, c.of_engine-warm.ensures.found c.args.found.observation f.0 f.1)

pub returns-clause-ended : goal.returns-clause-ended
returns-clause-ended g c = λ bytes searched.
    ends_for _ _ _ _ _ _ _ bytes _ _ _ c.of_engine-warm.ensures.is
    (c.write_end-stop.ensures.ended bytes
    (c.of_engine-warm.ensures.found c.args.found.observation bytes searched))
