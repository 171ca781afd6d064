use Rattle.live_search.proofs.Resuming.{line_is, nothing_is}
use Rattle.live_search.proofs.laws.live_stops_are_said.Goals as goal

pub returns : goal.returns
returns c = record {
  line = λ l from spectra list some past. line_is l some from list spectra past;
  read = λ l from spectra list few pulses.
      c.lines_are_read_back.ensures.line _ (record { place = few; pulses = pulses });
  none = λ l from spectra list some few. nothing_is l some from list spectra few;
}
