use Rattle.std.proofs.Common.{◌-◌, ◌%◌, sym, subst}
use Rattle.live_search.specs.Live.{BeginsFor}
use Rattle.live_search.proofs.Begun.{begins_for}
use Rattle.live_search.proofs.live.first_spectrum.Goals as goal

pub returns-clause-begins : goal.returns-clause-begins
returns-clause-begins c =
    let s = c.args.search.now in
    subst (λ n. BeginsFor s c.args.place (c.first_needed-needed.result - c.first_needed-needed.result % n))
    (sym c.from.ensures)
    (subst (λ n. BeginsFor s c.args.place (n - n % 512)) (sym c.first_needed-needed.ensures.value)
    (begins_for s c.args.place))
