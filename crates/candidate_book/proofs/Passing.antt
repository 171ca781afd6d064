-- Candidates whose lines are passed on one by one, in the merged list's order.
use Rattle.std.proofs.Common.{◌≡◌, ℕ, ◌+◌, List, [], ◌∷◌, ◌++◌, length, cond, Bool, Option, refl, sym, ap, subst, ◌∙◌, append_assoc, append-nil}
use Rattle.std.specs.Prelude.{count_by}
use Rattle.std.proofs.lemmas.List.Sums.{sum_by_push}
use Rattle.std.proofs.lemmas.List.Concat.{flat_map-append, flat_map-cons}
use Rattle.psr_base.specs.Written.{SinkSeen, WroteAll, WroteFront, PiecesJoin}
use Rattle.search_model.specs.declared.candidate.Candidate.{Candidate}
use Rattle.search_model.specs.declared.candidate.Candidate.TheVariants.{Pulse, Fold}
use Rattle.search_model.specs.CandidateText.{Labels, candidate_line, candidate_lines, candidate_text, end_line, is_pulse, is_fold}
use Rattle.candidate_book.specs.Book.{BookContents}
use Rattle.candidate_book.specs.Lines.{Pending}
use Rattle.candidate_book.specs.Merged.{AreTotals}
use Rattle.candidate_book.specs.declared.merged.Totals.{Totals}
use Rattle.candidate_book.proofs.Merging.{PartsMerge, left_at}

-- of the merged list, the lines of a front were passed on and counted, and the rest merges what is left of the books
pub record PassedOn (labels : Labels) (books : List (Option BookContents)) (places : List ℕ) (totals : Totals)
    (page : List ℕ) (old now : SinkSeen) (merged : List Candidate) : Type 0 where
  pub done : List Candidate
  pub left : List Candidate
  pub splits : merged ≡ done ++ left
  pub lines : Pending (candidate_lines labels done) page old now
  pub counted : AreTotals done totals
  pub merges : PartsMerge (length books) (left_at books places) left

-- the lines of a list and of one candidate more
pub one_line_more : (labels : Labels) (done : List Candidate) (c : Candidate) →
    candidate_lines labels (done ++ c ∷ []) ≡ candidate_lines labels done ++ candidate_line labels c
one_line_more labels done c =
    flat_map-append (candidate_line labels) done (c ∷ [])
    ∙ ap (λ (t : List ℕ). candidate_lines labels done ++ t)
    (flat_map-cons (candidate_line labels) c [] ∙ append-nil (candidate_line labels c))

-- a list counts one more
pub one_counted : (p : Candidate → Bool) (done : List Candidate) (c : Candidate) →
    count_by p (done ++ c ∷ []) ≡ count_by p done + cond (p c) 1 0
one_counted p done c = sum_by_push (λ (x : Candidate). cond (p x) 1 0) done c

-- the lines of done, of one more, and of the rest are those of the merged list
pub lines_split : (labels : Labels) (done : List Candidate) (c : Candidate) (rest merged : List Candidate) →
    merged ≡ done ++ c ∷ rest →
    candidate_lines labels merged
    ≡ (candidate_lines labels done ++ candidate_line labels c) ++ candidate_lines labels rest
lines_split labels done c rest merged is =
    ap (candidate_lines labels) is ∙ flat_map-append (candidate_line labels) done (c ∷ rest)
    ∙ ap (λ (t : List ℕ). candidate_lines labels done ++ t) (flat_map-cons (candidate_line labels) c rest)
    ∙ sym (append_assoc (candidate_lines labels done) (candidate_line labels c) (candidate_lines labels rest))

-- as it begins
pub nothing_passed : (labels : Labels) (books : List (Option BookContents)) (places : List ℕ) (totals : Totals)
    (seen : SinkSeen) (merged : List Candidate) → PiecesJoin → AreTotals [] totals →
    PartsMerge (length books) (left_at books places) merged →
    PassedOn labels books places totals [] seen seen merged
nothing_passed labels books places totals seen merged join counted merges = record {
  done = [];
  left = merged;
  splits = refl;
  lines = record { front = []; splits = refl; wrote = join.nothing seen };
  counted = counted;
  merges = merges;
}

-- one candidate more
pub one_passed : (labels : Labels) (books : List (Option BookContents)) (later : List ℕ) (totals more : Totals)
    (page : List ℕ) (old now : SinkSeen) (done : List Candidate) (c : Candidate) (rest merged : List Candidate) →
    merged ≡ done ++ c ∷ rest → AreTotals done totals →
    more.pulses ≡ totals.pulses + cond (is_pulse c) 1 0 → more.folds ≡ totals.folds + cond (is_fold c) 1 0 →
    Pending (candidate_lines labels done ++ candidate_line labels c) page old now →
    PartsMerge (length books) (left_at books later) rest →
    PassedOn labels books later more page old now merged
one_passed labels books later totals more page old now done c rest merged is counted pulses folds lines merges =
    record {
      done = done ++ c ∷ [];
      left = rest;
      splits = is ∙ sym (append_assoc done (c ∷ []) rest);
      lines = subst (λ text. Pending text page old now) (sym (one_line_more labels done c)) lines;
      counted = record {
        pulses = pulses ∙ ap (λ (n : ℕ). n + cond (is_pulse c) 1 0) counted.pulses ∙ sym (one_counted is_pulse done c);
        folds = folds ∙ ap (λ (n : ℕ). n + cond (is_fold c) 1 0) counted.folds ∙ sym (one_counted is_fold done c);
      };
      merges = merges;
    }

-- a fault at a candidate's line: the front of all lines was written
pub line_failed : (labels : Labels) (old now : SinkSeen) (done : List Candidate) (c : Candidate)
    (rest merged : List Candidate) → PiecesJoin → merged ≡ done ++ c ∷ rest →
    WroteFront (candidate_lines labels done ++ candidate_line labels c) old now →
    WroteFront (candidate_lines labels merged) old now
line_failed labels old now done c rest merged join is front =
    subst (λ text. WroteFront text old now) (sym (lines_split labels done c rest merged is))
    (join.breaks_off (candidate_lines labels done ++ candidate_line labels c)
    (candidate_lines labels rest) old now front)

-- as it ends: all lines were passed on
pub all_passed : (labels : Labels) (done left merged : List Candidate) → merged ≡ done ++ left → left ≡ [] →
    done ≡ merged
all_passed labels done left merged is none =
    sym (is ∙ ap (λ (xs : List Candidate). done ++ xs) none ∙ append-nil done)

-- a candidate is a pulse or a fold
pub one_kind : (c : Candidate) → cond (is_pulse c) 1 0 + cond (is_fold c) 1 0 ≡ 1
one_kind (Pulse end delay width sum) = refl
one_kind (Fold delay period halvings trial phase sum) = refl

-- ---- the whole text

-- the lines of a list, and the END line of its totals, are its text
pub text_is : (labels : Labels) (spectra : ℕ) (list : List Candidate) (totals : Totals) → AreTotals list totals →
    candidate_lines labels list ++ end_line totals.pulses totals.folds spectra ≡ candidate_text labels spectra list
text_is labels spectra list totals counted =
    ap (λ (n : ℕ). candidate_lines labels list ++ end_line n totals.folds spectra) counted.pulses
    ∙ ap (λ (n : ℕ). candidate_lines labels list ++ end_line (count_by is_pulse list) n spectra) counted.folds

-- what waits was written, so the whole text was
pub all_written : (text waiting : List ℕ) (old middle new : SinkSeen) → PiecesJoin →
    Pending text waiting old middle → WroteAll waiting middle new → WroteAll text old new
all_written text waiting old middle new join pending all =
    subst (λ t. WroteAll t old new) (sym pending.splits)
    (join.joins pending.front waiting old middle new pending.wrote all)

pub front_written : (text waiting : List ℕ) (old middle new : SinkSeen) → PiecesJoin →
    Pending text waiting old middle → WroteFront waiting middle new → WroteFront text old new
front_written text waiting old middle new join pending front =
    subst (λ t. WroteFront t old new) (sym pending.splits)
    (join.stops pending.front waiting old middle new pending.wrote front)
