-- The text of the candidates of several books, and how many there are of each kind.
-- Source: this project's choice.
use Rattle.std.specs.Prelude.{◌≡◌, ℕ, List, Result, IfOk, count_by}
use Rattle.psr_base.specs.Written.{SinkSeen, Wrote}
use Rattle.search_model.specs.declared.candidate.Candidate.{Candidate}
use Rattle.search_model.specs.CandidateText.{Labels, candidate_lines, candidate_text, is_pulse, is_fold}
use Rattle.candidate_book.specs.declared.merged.Totals.{Totals}
use Rattle.candidate_book.specs.Lines.{Passed}

-- how many pulses and folds a list has
pub record AreTotals (list : List Candidate) (totals : Totals) : Type 0 where
  pub pulses : totals.pulses ≡ count_by is_pulse list
  pub folds : totals.folds ≡ count_by is_fold list

-- the lines of a list were passed on, and it was counted
pub record Listed {E : Type 0}
    (labels : Labels) (list : List Candidate) (waiting : List ℕ) (old now : SinkSeen)
    (result : Result Totals E) : Type 0 where
  pub lines : Passed (candidate_lines labels list) waiting old now result
  pub totals : IfOk result (AreTotals list)

-- the text of a list was written, or its front at a fault, and the list was counted
pub record WroteText {E : Type 0}
    (labels : Labels) (spectra : ℕ) (list : List Candidate) (old new : SinkSeen)
    (result : Result Totals E) : Type 0 where
  pub text : Wrote (candidate_text labels spectra list) old new result
  pub totals : IfOk result (AreTotals list)

-- the lines of a list were written, or their front at a fault, and the list was counted
pub record WroteLines {E : Type 0}
    (labels : Labels) (list : List Candidate) (old new : SinkSeen) (result : Result Totals E) :
    Type 0 where
  pub lines : Wrote (candidate_lines labels list) old new result
  pub totals : IfOk result (AreTotals list)
