use Rattle.live_search.proofs.Ending.{finish_err, finish_ok, own_book, searched}
use Rattle.live_search.proofs.live.LiveSearch.finish.Goals as goal

pub write_last-requires : goal.write_last-requires
write_last-requires g c =
    let live = c.requires.live in
    record {
      searched = searched c.laws_hold.ensures (c.end_data-spectra.ensures.ended _ live.task live.bytes live.was);
    }

pub returns-in-Ok : goal.returns-in-Ok
returns-in-Ok g c = record {
  wrote = λ t bytes start was text.
      let ended = c.end_data-spectra.ensures.ended _ t bytes was in
      let own = own_book c.laws_hold.ensures ended in
      finish_ok c.laws_hold.ensures ended c.in-Ok.pulses start _ _ _ c.write_last_line.result
      (c.in-Ok.ensures.count _ own) text (c.in-Ok.ensures.lines _ own).all c.write_last_line.ensures;
}

pub returns-in-Err : goal.returns-in-Err
returns-in-Err g c = record {
  wrote = λ t bytes start was text.
      let ended = c.end_data-spectra.ensures.ended _ t bytes was in
      let own = own_book c.laws_hold.ensures ended in
      finish_err c.laws_hold.ensures ended c.in-Err.stop start _ _ text (c.in-Err.ensures.lines _ own).front;
}
