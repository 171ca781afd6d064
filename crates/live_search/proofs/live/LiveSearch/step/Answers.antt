use Rattle.std.proofs.Common.{◌++◌, arith, take}
use Rattle.live_search.proofs.Stepping.{amid_stands, amid_writes, due_breaks, end_breaks, end_searched, end_stands, end_writes}
use Rattle.live_search.proofs.live.LiveSearch.step.Goals as goal

pub returns-in-Err-clause-broke : goal.returns-in-Err-clause-broke
returns-in-Err-clause-broke g c = λ t before was.
    let came = c.take_bytes-count.ensures.came _ t before was in
    due_breaks c.laws_hold.ensures came (c.whole_spectra-spectra.ensures.all _ _ came.stands) _ _
    c.in-Err.ensures.wrote.front

pub returns-then-searched_to-self-clause-fed : goal.returns-then-searched_to-self-clause-fed
returns-then-searched_to-self-clause-fed g c = λ t before was.
    let came = c.take_bytes-count.ensures.came _ t before was in
    amid_stands c.laws_hold.ensures came (c.whole_spectra-spectra.ensures.all _ _ came.stands)
    c.in-Ok.ensures.state (omega (arith, c.searched_to.ensures, c.if-searched_to-self.true))

pub returns-then-searched_to-self-clause-live : goal.returns-then-searched_to-self-clause-live
returns-then-searched_to-self-clause-live g c =
    let live = c.requires.live in
    record {
      task = live.task;
      bytes = live.bytes ++ take c.take_bytes-count.result c.args.bytes.now;
      was = returns-then-searched_to-self-clause-fed g c live.task live.bytes live.was;
    }

pub returns-then-searched_to-self-clause-wrote : goal.returns-then-searched_to-self-clause-wrote
returns-then-searched_to-self-clause-wrote g c = λ t before was.
    let came = c.take_bytes-count.ensures.came _ t before was in
    amid_writes c.laws_hold.ensures came (c.whole_spectra-spectra.ensures.all _ _ came.stands)
    c.in-Ok.ensures.state (omega (arith, c.searched_to.ensures, c.if-searched_to-self.true)) _ _ c.in-Ok.ensures.wrote.all

pub write_pulses-requires : goal.write_pulses-requires
write_pulses-requires g c =
    let live = c.requires.live in
    let came = c.take_bytes-count.ensures.came _ live.task live.bytes live.was in
    record {
      searched = end_searched c.laws_hold.ensures came (c.whole_spectra-spectra.ensures.all _ _ came.stands)
          c.in-Ok.ensures.state (omega (arith, c.searched_to.ensures, c.if-searched_to-self.false)) c.book.ensures;
    }

pub returns-in-Ok-write_pulses-clause-fed : goal.returns-in-Ok-write_pulses-clause-fed
returns-in-Ok-write_pulses-clause-fed g c = λ t before was.
    let came = c.take_bytes-count.ensures.came _ t before was in
    end_stands c.laws_hold.ensures came (c.whole_spectra-spectra.ensures.all _ _ came.stands)
    c.in-Ok.ensures.state (omega (arith, c.searched_to.ensures, c.if-searched_to-self.false)) c.book.ensures
    c.in-Ok-write_pulses.pulses _ c.begin_next.ensures c.in-Ok-write_pulses.ensures.count

pub returns-in-Ok-write_pulses-clause-live : goal.returns-in-Ok-write_pulses-clause-live
returns-in-Ok-write_pulses-clause-live g c =
    let live = c.requires.live in
    record {
      task = live.task;
      bytes = live.bytes ++ take c.take_bytes-count.result c.args.bytes.now;
      was = returns-in-Ok-write_pulses-clause-fed g c live.task live.bytes live.was;
    }

pub returns-in-Ok-write_pulses-clause-wrote : goal.returns-in-Ok-write_pulses-clause-wrote
returns-in-Ok-write_pulses-clause-wrote g c = λ t before was.
    let came = c.take_bytes-count.ensures.came _ t before was in
    end_writes c.laws_hold.ensures came (c.whole_spectra-spectra.ensures.all _ _ came.stands)
    c.in-Ok.ensures.state (omega (arith, c.searched_to.ensures, c.if-searched_to-self.false)) c.book.ensures
    _ _ _ c.in-Ok.ensures.wrote.all (λ xs is. (c.in-Ok-write_pulses.ensures.lines xs is).all)

pub returns-in-Err-write_pulses-clause-broke : goal.returns-in-Err-write_pulses-clause-broke
returns-in-Err-write_pulses-clause-broke g c = λ t before was.
    let came = c.take_bytes-count.ensures.came _ t before was in
    end_breaks c.laws_hold.ensures came (c.whole_spectra-spectra.ensures.all _ _ came.stands)
    c.in-Ok.ensures.state (omega (arith, c.searched_to.ensures, c.if-searched_to-self.false)) c.book.ensures
    _ _ _ c.in-Ok.ensures.wrote.all (λ xs is. (c.in-Err-write_pulses.ensures.lines xs is).front)
