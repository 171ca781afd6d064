use Rattle.psr_base.specs.Written.{WroteAll, first_pieces}
use Rattle.search_model.specs.Observed.{labels_of}
use Rattle.beam_set.specs.Text.{marking, beam_text, beam_at}
use Rattle.beam_set.specs.Beams.{found_in}
use Rattle.beam_set.proofs.texts.write_beams.Given as goal

-- the texts of the beams before were written
abbrev pub invariant-loop-k : goal.invariant-loop-k
invariant-loop-k g l =
    let found = found_in l.beams in
    let labels = marking (labels_of l.obs) l.within l.more found in
    record {
      written : WroteAll (first_pieces (λ b. beam_text labels b (beam_at found b)) l.k) (g.K.Sink.seen l.fn.sink)
          (g.K.Sink.seen l.sink);
    }
