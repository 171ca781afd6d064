use Rattle.std.proofs.Common.{◌≡◌, ℕ, List, subst, sym, ◌∙◌, arith}
use Rattle.psr_base.specs.Written.{WroteAll, WroteFront}
use Rattle.psr_level.proofs.Drains.{nothing_made, one_more, one_broke, all_made}
use Rattle.psr_level.proofs.drain.drain.Goals as goal

pub loop-leveller-init : goal.loop-leveller-init
loop-leveller-init g c =
    nothing_made c.pieces_join.ensures.pieces c.args.leveller.now (g.K.Sink.seen c.args.out.now)

pub loop-leveller-preserved : goal.loop-leveller-preserved
loop-leveller-preserved g c =
    let seen = g.K.Sink.seen in
    let Wrote : List ℕ → Type 0 = λ xs. WroteAll xs (seen c.loop-leveller.out) (seen c.write_all.new.sink) in
    one_more c.pieces_join.ensures.pieces c.args.leveller.now c.loop-leveller.leveller c.level.new.self
    (seen c.args.out.now) (seen c.loop-leveller.out) (seen c.write_all.new.sink) c.loop-leveller.invariant
    c.level.ensures (subst Wrote c.piece.ensures c.in-Ok.ensures.all)

pub returns-in-Err-clause-broke : goal.returns-in-Err-clause-broke
returns-in-Err-clause-broke g c =
    let seen = g.K.Sink.seen in
    let Wrote : List ℕ → Type 0 = λ xs. WroteFront xs (seen c.loop-leveller.out) (seen c.write_all.new.sink) in
    one_broke c.pieces_join.ensures.pieces c.args.leveller.now c.loop-leveller.leveller c.level.new.self
    (seen c.args.out.now) (seen c.loop-leveller.out) (seen c.write_all.new.sink) c.loop-leveller.invariant
    c.level.ensures (subst Wrote c.piece.ensures c.in-Err.ensures.front)

pub returns-clause-drained : goal.returns-clause-drained
returns-clause-drained g c =
    let seen = g.K.Sink.seen in
    let test = c.loop-leveller-test.false in
    let none : c.pending.result ≡ 0 = omega arith in
    all_made c.args.leveller.now c.loop-leveller.leveller (seen c.args.out.now) (seen c.loop-leveller.out)
    c.loop-leveller.invariant (sym c.pending.ensures.count ∙ none) (λ ended. c.pending.ensures.done ended none)
