-- Candidates of a list, whose lines are passed on one by one.
use Rattle.std.proofs.Common.{◌≡◌, ℕ, ◌+◌, ◌<◌, List, [], ◌∷◌, ◌++◌, length, cond, get_or, take, drop, sym, ap, subst, ◌∙◌, arith, append_assoc}
use Rattle.std.proofs.lemmas.List.{take_more, take-append-drop}
use Rattle.dada_model.specs.Observation.{Observation}
use Rattle.psr_base.specs.Written.{SinkSeen, WroteFront, PiecesJoin}
use Rattle.search_model.specs.declared.candidate.Candidate.{Candidate}
use Rattle.search_model.specs.declared.candidate.Candidate.TheVariants.{Pulse}
use Rattle.search_model.specs.Candidates.{plain_cells}
use Rattle.search_model.specs.CandidateText.{Labels, candidate_line, candidate_lines, is_pulse, is_fold}
use Rattle.search_model.specs.Observed.{labels_of}
use Rattle.candidate_book.specs.Labelled.{labels_with}
use Rattle.candidate_book.specs.Lines.{Pending}
use Rattle.candidate_book.specs.Merged.{AreTotals}
use Rattle.candidate_book.specs.declared.labels.PulseWord.TheVariants as word
use Rattle.candidate_book.specs.declared.merged.Totals.{Totals}
use Rattle.candidate_book.proofs.Passing.{one_line_more, one_counted, line_failed, one_kind}

-- the labels of a search over all channels of an observation
pub plain_are : (o : Observation) (n : ℕ) → n ≡ o.channels →
    labels_with o (λ d. plain_cells n d) (λ end. word.Pulse) ≡ labels_of o
plain_are o n same = ap (λ (k : ℕ). labels_with o (λ d. plain_cells k d) (λ end. word.Pulse)) same

-- a candidate of a list at a place
abbrev pub listed : List Candidate → ℕ → Candidate
listed list i = get_or list i (Pulse 0 0 0 0)

-- of a list, the lines of the first i candidates were passed on, and these were counted
pub record FrontPassed (labels : Labels) (list : List Candidate) (i : ℕ) (totals : Totals) (page : List ℕ)
    (old now : SinkSeen) : Type 0 where
  pub lines : Pending (candidate_lines labels (take i list)) page old now
  pub counted : AreTotals (take i list) totals
  pub number : totals.pulses + totals.folds ≡ i

-- one candidate more
pub one_listed : (labels : Labels) (list : List Candidate) (i : ℕ) (totals more : Totals) (before page : List ℕ)
    (old middle now : SinkSeen) → i < length list → FrontPassed labels list i totals before old middle →
    more.pulses ≡ totals.pulses + cond (is_pulse (listed list i)) 1 0 →
    more.folds ≡ totals.folds + cond (is_fold (listed list i)) 1 0 →
    Pending (candidate_lines labels (take i list) ++ candidate_line labels (listed list i)) page old now →
    FrontPassed labels list (i + 1) more page old now
one_listed labels list i totals more before page old middle now below far pulses folds lines =
    let c = listed list i in
    let done = take i list in
    let longer : take (i + 1) list ≡ done ++ c ∷ [] = take_more list i (Pulse 0 0 0 0) below in
    record {
      lines = subst (λ text. Pending text page old now)
          (sym (ap (candidate_lines labels) longer ∙ one_line_more labels done c)) lines;
      counted = subst (λ xs. AreTotals xs more) (sym longer) (record {
        pulses = pulses ∙ ap (λ (n : ℕ). n + cond (is_pulse c) 1 0) far.counted.pulses
            ∙ sym (one_counted is_pulse done c);
        folds = folds ∙ ap (λ (n : ℕ). n + cond (is_fold c) 1 0) far.counted.folds
            ∙ sym (one_counted is_fold done c);
      });
      number = let kind = one_kind c in omega (arith, pulses, folds, far.number, kind);
    }

-- a fault at a candidate's line: the front of all lines was written
pub list_failed : (labels : Labels) (list : List Candidate) (i : ℕ) (old now : SinkSeen) → PiecesJoin →
    i < length list →
    WroteFront (candidate_lines labels (take i list) ++ candidate_line labels (listed list i)) old now →
    WroteFront (candidate_lines labels list) old now
list_failed labels list i old now join below front =
    let c = listed list i in
    let longer : take (i + 1) list ≡ take i list ++ c ∷ [] = take_more list i (Pulse 0 0 0 0) below in
    let is : list ≡ take i list ++ c ∷ drop (i + 1) list = sym (take-append-drop (i + 1) list)
    ∙ ap (λ (xs : List Candidate). xs ++ drop (i + 1) list) longer ∙ append_assoc (take i list) (c ∷ [])
    (drop (i + 1) list) in
    line_failed labels old now (take i list) c (drop (i + 1) list) list join is front
