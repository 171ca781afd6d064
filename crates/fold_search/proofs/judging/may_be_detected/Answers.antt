use Rattle.std.proofs.Common.{ℕ, ◌*◌, ◌^◌, Option, subst, arith}
use Rattle.detect_rule.specs.Noise.{StandOutFrom}
use Rattle.fold_search.specs.Judging.{noise_of}
use Rattle.fold_search.proofs.Reaching.{none_detected}
use Rattle.fold_search.proofs.judging.may_be_detected.Goals as goal

pub returns-in-Some-clause-none : goal.returns-in-Some-clause-none
returns-in-Some-clause-none c = λ missed cells s from.
    let of = c.args.of in
    none_detected c.tests_detection.ensures cells s c.in-Some.least of.delay of.period of.halvings c.args.values.now
    (omega arith) (c.may_reach.ensures.none missed)
    (subst (λ (least : Option ℕ). StandOutFrom (noise_of s) (2 ^ of.halvings * cells of.delay) least) c.in-Some.is from)
