-- The lines of what was found in the channels that a mask keeps.
use Rattle.std.proofs.Common.{◌≡◌, ℕ, ◌≤◌, Bool, List, [], ◌∷◌, ◌++◌, length, get_or, Result, refl, sym, ap, subst, ◌∙◌, arith}
use Rattle.std.specs.Prelude.{All, count_by}
use Rattle.std.proofs.lemmas.List.{take_all}
use Rattle.std.proofs.lemmas.List.Concat.{flat_map-cons}
use Rattle.std.proofs.lemmas.List.Elements.{All-head, All-tail, Contains-get_or}
use Rattle.dada_model.specs.Observation.{Observation, edges}
use Rattle.psr_base.specs.Written.{SinkSeen, Wrote}
use Rattle.search_model.specs.declared.candidate.Candidate.{Candidate}
use Rattle.search_model.specs.declared.candidate.Candidate.TheVariants.{Pulse, Fold}
use Rattle.search_model.specs.declared.search.Search.{Search}
use Rattle.search_model.specs.CandidateLaws.{CandidatesAreListed}
use Rattle.search_model.specs.CandidateText.{Labels, candidate_line, candidate_lines, end_line, is_fold, is_pulse}
use Rattle.search_model.specs.Candidates.{delay_of}
use Rattle.search_model.specs.Masks.{kept_cells, masked_candidates_of}
use Rattle.search_model.specs.Observed.{filterbank_of}
use Rattle.candidate_book.specs.Book.{BookContents}
use Rattle.candidate_book.specs.Labelled.{labels_with}
use Rattle.candidate_book.specs.Merged.{WroteText}
use Rattle.candidate_book.specs.declared.labels.PulseWord.{PulseWord}
use Rattle.candidate_book.specs.declared.merged.Totals.{Totals}
use Rattle.shard_search.specs.Sought.{cells_in}
use Rattle.search_engine.specs.Engine.{EngineState, scope_of, spectra_fed}
use Rattle.search_engine.specs.Scope.{kept_by}
use Rattle.channel_mask.specs.Masked.{HasFoundKept, WroteMasked}
use Rattle.channel_mask.proofs.Kept.{all_early}

module _ (o : Observation) where
  -- the labels of these cells
  abbrev pub cell_labels : (ℕ → ℕ) → Labels
  cell_labels cells = labels_with o cells (λ end. PulseWord.Pulse)

  same_line : (cells other : ℕ → ℕ) (c : Candidate) → cells (delay_of c) ≡ other (delay_of c) →
      candidate_line (cell_labels cells) c ≡ candidate_line (cell_labels other) c
  same_line cells other (Pulse end delay width sum) same =
      ap (λ (n : ℕ). candidate_line (cell_labels (λ d. n)) (Pulse end delay width sum)) same
  same_line cells other (Fold delay period halvings trial phase sum) same =
      ap (λ (n : ℕ). candidate_line (cell_labels (λ d. n)) (Fold delay period halvings trial phase sum)) same

  same_lines : (cells other : ℕ → ℕ) (list : List Candidate) →
      All (λ (c : Candidate). cells (delay_of c) ≡ other (delay_of c)) list →
      candidate_lines (cell_labels cells) list ≡ candidate_lines (cell_labels other) list
  same_lines cells other [] all = refl
  same_lines cells other (c ∷ list) all =
      let here = candidate_line (cell_labels cells) in
      let there = candidate_line (cell_labels other) in
      let P : Candidate → Type 0 = λ x. cells (delay_of x) ≡ other (delay_of x) in
      flat_map-cons here c list
      ∙ ap (λ (l : List ℕ). l ++ candidate_lines (cell_labels cells) list)
      (same_line cells other c (All-head P c list all))
      ∙ ap (λ (l : List ℕ). there c ++ l) (same_lines cells other list (All-tail P c list all))
      ∙ sym (flat_map-cons there c list)

pub wrote_masked : {E : Type 0} → CandidatesAreListed → (o : Observation) (s : Search) (mask : List Bool) (bytes : List ℕ)
    (e : EngineState) → HasFoundKept o s mask bytes e → e.book.count ≤ s.max_candidates →
    (old new : SinkSeen) (result : Result Totals E) →
    WroteText (cell_labels o (cells_in (scope_of e).sought)) (spectra_fed e) e.book.kept old new result →
    WroteMasked o s mask bytes old new result
wrote_masked listed o s mask bytes e found few old new result wrote =
    let all : List Candidate = masked_candidates_of o s (kept_by mask) bytes in
    let scope = found.searches.scope in
    let counted : ℕ → ℕ = cells_in (scope_of e).sought in
    let cells : ℕ → ℕ = kept_cells (kept_by mask) (edges o) o.channels in
    let n : ℕ = (filterbank_of o bytes).spectra in
    let count : e.book.count ≡ length all = ap (λ (b : BookContents). b.count) found.book in
    let kept : e.book.kept ≡ all =
    ap (λ (b : BookContents). b.kept) found.book ∙ take_all s.max_candidates all (omega (arith, few, count)) in
    let there : WroteText (cell_labels o counted) n all old new result =
    subst (λ (xs : List Candidate). WroteText (cell_labels o counted) n xs old new result) kept
    (subst (λ (k : ℕ). WroteText (cell_labels o counted) k e.book.kept old new result) found.spectra wrote) in
    let lines = same_lines o counted cells all (λ i d within.
    let c = get_or all i d in
    scope.cells (delay_of c)
    (all_early listed o s found.searches.range mask bytes c (Contains-get_or all i d within))) in
    record {
      text = subst (λ (t : List ℕ). Wrote t old new result)
          (ap (λ (l : List ℕ). l ++ end_line (count_by is_pulse all) (count_by is_fold all) n) lines) there.text;
      totals = there.totals;
    }
