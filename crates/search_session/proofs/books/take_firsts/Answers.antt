use Rattle.std.proofs.Common.{◌<◌, Option, length, sym, subst, arith}
use Rattle.session_readers.specs.declared.bank.Bank.{Bank}
use Rattle.search_session.specs.Books.{GivesFirst}
use Rattle.search_session.proofs.Taking.{no_firsts, firsts_more}
use Rattle.search_session.proofs.books.take_firsts.Goals as goal

pub loop-s-init : goal.loop-s-init
loop-s-init c = rw c.new-row.ensures (no_firsts c.args.banks.now)

pub loop-s-preserved : goal.loop-s-preserved
loop-s-preserved c =
    let s = c.loop-s.s in
    let near : s < length c.loop-s.banks = omega arith in
    rw c.push.ensures.items (firsts_more c.args.banks.now c.loop-s.banks s c.loop-s.row.items c.index-banks-s.result
    c.take_first.new.slot
    c.take_first.result near c.loop-s.invariant c.index-banks-s.is
    (subst (λ (slot : Option Bank). GivesFirst slot c.take_first.result c.take_first.new.slot)
    (sym c.index-banks-s.is) c.take_first.ensures))
