use Rattle.std.proofs.Common.{refl}
use Rattle.std.proofs.lemmas.Bool.{lt-ltb}
use Rattle.dada_model.specs.Observation.{edges}
use Rattle.search_model.specs.Candidates.{plain_cells}
use Rattle.search_model.specs.Observed.{candidates_of, filterbank_of, labels_of}
use Rattle.warm_restart.proofs.laws.part_texts_join.Goals as goal

pub returns : goal.returns
returns c = record {
  stops = λ o s from cut bytes more. rw (lt-ltb cut (filterbank_of o bytes).spectra more) refl;
  goes_on = λ o s from cut until bytes first second.
      c.parts_join.ensures.next (labels_of o) (filterbank_of o bytes).spectra (candidates_of o s bytes) from.place cut
      until from.pulses (c.candidates_rise.ensures (filterbank_of o bytes) (edges o) (plain_cells o.channels) s) first
      second;
  whole = λ o s until bytes off all.
      c.parts_join.ensures.whole (labels_of o) (filterbank_of o bytes) (edges o) (plain_cells o.channels) s until
      off all;
}
