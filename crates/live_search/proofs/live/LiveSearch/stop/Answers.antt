use Rattle.live_search.proofs.Ending.{stop_err, stop_none, stop_ok, own_book, searched}
use Rattle.live_search.proofs.live.LiveSearch.stop.Goals as goal

pub write_last-requires : goal.write_last-requires
write_last-requires g c =
    let live = c.requires.live in
    record {
      searched = searched c.laws_hold.ensures (c.end_data-spectra.ensures.ended _ live.task live.bytes live.was);
    }

pub returns-in-Ok : goal.returns-in-Ok
returns-in-Ok g c = record {
  wrote = λ t bytes start was text.
      let ended = c.end_data-spectra.ensures.ended _ t bytes was in
      let own = own_book c.laws_hold.ensures ended in
      stop_ok c.laws_hold.ensures ended c.in-Ok.pulses start _ _ _ c.write_check.result
      (c.came_no_further.ensures.further c.if-came_no_further.false) (c.in-Ok.ensures.count _ own) text
      (c.in-Ok.ensures.lines _ own).all c.write_check.ensures;
}

pub returns-in-Err : goal.returns-in-Err
returns-in-Err g c = record {
  wrote = λ t bytes start was text.
      let ended = c.end_data-spectra.ensures.ended _ t bytes was in
      let own = own_book c.laws_hold.ensures ended in
      stop_err c.laws_hold.ensures ended c.in-Err.stop start _ _
      (c.came_no_further.ensures.further c.if-came_no_further.false) text (c.in-Err.ensures.lines _ own).front;
}

pub returns-then-came_no_further : goal.returns-then-came_no_further
returns-then-came_no_further g c = record {
  wrote = λ t bytes start was text.
      let none = c.came_no_further.ensures.nothing c.if-came_no_further.true in
      stop_none c.laws_hold.ensures (c.end_data-spectra.ensures.ended _ t bytes was) _ start _ none.0 none.1 text;
}
