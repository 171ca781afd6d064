use Rattle.std.proofs.Common.{◌≡◌, ◌<◌, length, true, false, below_more, ap, sym, ◌∙◌, arith}
use Rattle.std.proofs.lemmas.Option.{slice_get_within}
use Rattle.ring_core.specs.State.{CoreState}
use Rattle.ring_core.proofs.Core.holder.Goals as goal

pub loop-j-preserved : goal.loop-j-preserved
loop-j-preserved c = below_more _ _ c.loop-j.invariant (λ held. let e : false ≡ true = c.if-holds.ensures.1 held in cc)

pub returns-clause-free : goal.returns-clause-free
returns-clause-free c j held =
    let all : length c.args.self.now.machine.readers ≡ c.self.inside.shape.readers =
    ap (λ (r : CoreState). length r.machine.readers) (sym c.self.view_is) ∙ c.self.invariant.ring.all_readers in
    let there : j < length c.args.self.now.machine.readers = slice_get_within _ j held.0 held.1 in
    let past = c.loop-j-test.false in
    c.loop-j.invariant j (omega arith) held
