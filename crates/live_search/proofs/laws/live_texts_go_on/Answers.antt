use Rattle.std.proofs.Common.{◌-◌, arith}
use Rattle.live_search.specs.LiveText.{parts_before}
use Rattle.live_search.proofs.GoingOn.{line_is, said, text_further}
use Rattle.live_search.proofs.laws.live_texts_go_on.Goals as goal

pub returns : goal.returns
returns c = record {
  line = λ l from list n. line_is l from list n;
  read = λ l from spectra list n some first all few pulses.
      c.lines_are_read_back.ensures.line _ (said l some from list n spectra first all few pulses);
  rest = λ l from spectra list n some few.
      let k = parts_before l.every from.place spectra - n in
      text_further l some from list n k spectra (omega (arith, few));
}
