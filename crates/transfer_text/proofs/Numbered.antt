-- The texts of all transfers, one more after those before.
use Rattle.std.proofs.Common.{◌≡◌, ◌≢◌, ℕ, suc, ◌+◌, ◌<◌, ◌≤◌, inl, inr, List, [], ◌∷◌, ◌++◌, length, take, drop, get_or, slice_get, Some, refl, sym, ap, subst, ◌∙◌, arith, append_assoc, append-nil}
use Rattle.std.proofs.lemmas.List.{take_more, take_all, take-append-drop, length-take-le}
use Rattle.std.proofs.lemmas.Option.{slice_get_within, slice_get_cases, get_or_from_slice_get, same_Some}
use Rattle.std.specs.Prelude.{Option, IfSome}
use Rattle.dada_model.specs.Observation.{Observation}
use Rattle.search_model.specs.CandidateText.{candidate_text}
use Rattle.search_model.specs.Observed.{labels_of}
use Rattle.candidate_book.specs.Book.{BookContents}
use Rattle.psr_base.specs.Written.{SinkSeen, WroteAll, WroteFront, PiecesJoin}
use Rattle.transfer_text.specs.Books.{IsMerged}
use Rattle.transfer_text.specs.Text.{FoundList, list_text, transfer_line, texts_from, run_text}

-- the text of transfer k after its line
abbrev pub numbered_text : ℕ → FoundList → List ℕ
numbered_text k found = transfer_line k ++ list_text found

pub texts_append : (k : ℕ) (xs ys : List FoundList) →
    texts_from k (xs ++ ys) ≡ texts_from k xs ++ texts_from (k + length xs) ys
texts_append k [] ys =
    let same : k ≡ k + 0 = omega arith in
    ap (λ n. texts_from n ys) same
texts_append k (x ∷ xs) ys =
    let here = numbered_text k x in
    let same : k + 1 + length xs ≡ k + suc (length xs) = omega arith in
    ap (λ (t : List ℕ). here ++ t)
    (texts_append (k + 1) xs ys ∙ ap (λ n. texts_from (k + 1) xs ++ texts_from n ys) same)
    ∙ sym (append_assoc here (texts_from (k + 1) xs) (texts_from (k + suc (length xs)) ys))

module _ (lists : List FoundList) (i : ℕ) (x : FoundList) (there : slice_get lists i ≡ Some x) where
  pub texts_more : texts_from 0 (take (i + 1) lists) ≡ texts_from 0 (take i lists) ++ numbered_text i x
  texts_more =
      let within = slice_get_within lists i x there in
      let same : get_or lists i x ≡ x = get_or_from_slice_get lists i x x there in
      let count : 0 + length (take i lists) ≡ i =
      let cut = length-take-le i lists (omega (arith, within)) in omega (arith, cut) in
      ap (texts_from 0) (take_more lists i x within ∙ ap (λ y. take i lists ++ y ∷ []) same)
      ∙ texts_append 0 (take i lists) (x ∷ [])
      ∙ ap (λ n. texts_from 0 (take i lists) ++ texts_from n (x ∷ [])) count
      ∙ ap (λ (t : List ℕ). texts_from 0 (take i lists) ++ t) (append-nil (numbered_text i x))

  texts_split : (rest : List ℕ)
      × (texts_from 0 lists ≡ (texts_from 0 (take i lists) ++ numbered_text i x) ++ rest)
  texts_split = (
    texts_from (0 + length (take (i + 1) lists)) (drop (i + 1) lists),
    ap (texts_from 0) (sym (take-append-drop (i + 1) lists))
        ∙ texts_append 0 (take (i + 1) lists) (drop (i + 1) lists)
        ∙ ap (λ (t : List ℕ). t ++ texts_from (0 + length (take (i + 1) lists)) (drop (i + 1) lists)) texts_more,
  )

  module _ (join : PiecesJoin) (old middle new : SinkSeen)
      (before : WroteAll (texts_from 0 (take i lists)) old middle) where
    pub one_more : WroteAll (numbered_text i x) middle new → WroteAll (texts_from 0 (take (i + 1) lists)) old new
    one_more here = subst (λ t. WroteAll t old new) (sym texts_more)
        (join.joins (texts_from 0 (take i lists)) (numbered_text i x) old middle new before here)

    pub stopped : WroteFront (numbered_text i x) middle new → WroteFront (texts_from 0 lists) old new
    stopped here = subst (λ t. WroteFront t old new) (sym texts_split.1)
        (join.breaks_off (texts_from 0 (take i lists) ++ numbered_text i x) texts_split.0 old new
        (join.stops (texts_from 0 (take i lists)) (numbered_text i x) old middle new before here))

-- a list at each place
pub list_at : (lists : List FoundList) (k : ℕ) → k < length lists → (x : FoundList) × (slice_get lists k ≡ Some x)
list_at lists k within = elim (slice_get_cases lists k).1 [
  | inl at ↦ (at.0, at.2)
  | inr past ↦ absurd (omega (arith, past.0))
]

pub alone_text : (lists : List FoundList) (x : FoundList) → length lists ≡ 1 → slice_get lists 0 ≡ Some x →
    run_text lists ≡ list_text x
alone_text [] x one there = absurd (omega (arith, one))
alone_text (y ∷ []) x one there = ap list_text (same_Some y x there)
alone_text (y ∷ z ∷ more) x one there = absurd (omega (arith, one))

pub several_texts : (lists : List FoundList) → length lists ≢ 1 → run_text lists ≡ texts_from 0 lists
several_texts [] several = refl
several_texts (x ∷ []) several = absurd (several refl)
several_texts (x ∷ y ∷ more) several = refl

-- the texts of all transfers
pub whole : (lists : List FoundList) (k : ℕ) → length lists ≢ 1 → length lists ≤ k →
    texts_from 0 (take k lists) ≡ run_text lists
whole lists k several all = ap (texts_from 0) (take_all k lists all) ∙ sym (several_texts lists several)

-- the text that is written with the observation of a transfer
pub as_written : (found : FoundList) (observation : Option Observation) (o : Observation)
    (books : List (Option BookContents)) (spectra : ℕ) → observation ≡ Some o →
    IsMerged found observation books spectra → candidate_text (labels_of o) spectra found.list ≡ list_text found
as_written found observation o books spectra there is =
    let labels : found.labels ≡ labels_of o =
    subst (λ (x : Option Observation). IfSome x (λ y. found.labels ≡ labels_of y)) there is.described in
    ap (λ l. candidate_text l spectra found.list) (sym labels)
    ∙ ap (λ n. candidate_text found.labels n found.list) (sym is.counted)
