-- The text of a part from its lines and its last line.
use Rattle.std.proofs.Common.{◌≡◌, ℕ, ◌+◌, List, ◌++◌, length, ap, subst, ◌∙◌, Ok, Err, Result}
use Rattle.dada_model.specs.Observation.{Observation}
use Rattle.psr_base.specs.Written.{SinkSeen, WroteAll, WroteFront, Wrote, PiecesJoin}
use Rattle.search_model.specs.declared.candidate.Candidate.{Candidate}
use Rattle.search_model.specs.Candidates.{plain_cells}
use Rattle.search_model.specs.CandidateText.{Labels, candidate_lines}
use Rattle.search_model.specs.Observed.{labels_of}
use Rattle.candidate_book.specs.Labelled.{labels_with}
use Rattle.candidate_book.specs.declared.labels.PulseWord.TheVariants as word
use Rattle.warm_restart.specs.LastLine.{last_line}

-- the labels of a search over all channels of an observation
abbrev pub labels_over : Observation → ℕ → Labels
labels_over o channels = labels_with o (λ d. plain_cells channels d) (λ end. word.Pulse)

module _ (o : Observation) (channels : ℕ) (whole : channels ≡ o.channels) (kept part : List Candidate)
    (all : kept ≡ part) (until spectra before : ℕ) where
  -- the lines that were written, and a last line that counts them
  abbrev written : List ℕ
  written =
      candidate_lines (labels_over o channels) kept ++ last_line until spectra (before + length kept)

  abbrev wanted : List ℕ
  wanted = candidate_lines (labels_of o) part ++ last_line until spectra (before + length part)

  same : written ≡ wanted
  same =
      ap (λ (n : ℕ). candidate_lines (labels_over o n) kept ++ last_line until spectra (before + length kept)) whole
      ∙ ap (λ (xs : List Candidate). candidate_lines (labels_of o) xs
      ++ last_line until spectra (before + length xs)) all

  pub part_ends : {T E : Type 0} (old middle new : SinkSeen) (r : Result T E) → PiecesJoin →
      WroteAll (candidate_lines (labels_over o channels) kept) old middle →
      Wrote (last_line until spectra (before + length kept)) middle new r → Wrote wanted old new r
  part_ends old middle new (Ok x) join lines last = record {
    all = subst (λ text. WroteAll text old new) same (join.joins _ _ old middle new lines last.all);
    front = tt;
  }
  part_ends old middle new (Err e) join lines last = record {
    all = tt;
    front = subst (λ text. WroteFront text old new) same (join.stops _ _ old middle new lines last.front);
  }

  pub part_breaks : {T E : Type 0} (old new : SinkSeen) (e : E) → PiecesJoin →
      WroteFront (candidate_lines (labels_over o channels) kept) old new →
      Wrote {T = T} {E = E} wanted old new (Err e)
  part_breaks old new e join lines = record {
    all = tt;
    front = subst (λ text. WroteFront text old new) same (join.breaks_off _ _ old new lines);
  }
