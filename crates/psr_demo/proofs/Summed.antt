-- The summary of a search is its line and the last line of its text.
use Rattle.std.proofs.Common.{◌≡◌, ℕ, zero, suc, ◌+◌, ◌≤◌, List, [], ◌∷◌, ◌++◌, length, Contains, Ok, Err, refl, inr, ap, subst, ◌∙◌, arith}
use Rattle.std.specs.Prelude.{◌==◌, if◌then◌else◌, count_by, Result}
use Rattle.std.proofs.lemmas.List.{length-append, nil_from_length}
use Rattle.std.proofs.lemmas.List.Sums.{count_by-le-length}
use Rattle.psr_base.specs.Written.{SinkSeen, WroteAll, WroteFront, Wrote, PiecesJoin}
use Rattle.search_model.specs.CandidateText.{candidate_lines, end_line, is_pulse, is_fold}
use Rattle.search_model.specs.Observed.{labels_of}
use Rattle.search_model.specs.SampleLaws.{SamplesOfBytes}
use Rattle.psr_make.specs.Made.{made_observation}
use Rattle.psr_demo.specs.Demo.{demo_spec, demo_candidates, demo_text, demo_end, demo_line, text_at, summary, EndsAt}
use Rattle.psr_demo.specs.Laws.{EndsInItsEndLine}
use Rattle.psr_demo.specs.LastLine.{IsOneLine, IsLastLine}
use Rattle.psr_demo.proofs.LastLine.{is_last, lines_end, end_is_line}
use Rattle.psr_demo.proofs.Pulses.{spectra}

-- the text is the lines of its candidates and the END line
text_parts : SamplesOfBytes → (number : ℕ) → demo_text number
    ≡ candidate_lines (labels_of (made_observation (demo_spec number))) (demo_candidates number) ++ demo_end number
unfolding demo_text demo_end demo_candidates
text_parts samples number =
    let list = demo_candidates number in
    let lines = candidate_lines (labels_of (made_observation (demo_spec number))) list in
    ap (λ (n : ℕ). lines ++ end_line (count_by is_pulse list) (count_by is_fold list) n) (spectra number samples)

end_is_one : (number : ℕ) → length (demo_candidates number) ≤ 100000 → IsOneLine (demo_end number)
unfolding demo_end
end_is_one number few =
    let list = demo_candidates number in
    let pulses = count_by-le-length is_pulse list in
    let folds = count_by-le-length is_fold list in
    end_is_line (count_by is_pulse list) (count_by is_fold list) 4096 (omega (arith, pulses, few))
    (omega (arith, folds, few)) (omega arith)

pub end_is_last : SamplesOfBytes → EndsInItsEndLine
end_is_last samples number few =
    let labels = labels_of (made_observation (demo_spec number)) in
    record {
      before = candidate_lines labels (demo_candidates number);
      joined = text_parts samples number;
      ends = lines_end labels (demo_candidates number);
      one = inr (end_is_one number few);
    }

-- a text without bytes has no line
no_line : (line : List ℕ) → IsLastLine [] line → line ≡ []
no_line line l =
    let size : 0 ≡ length l.before + length line = ap length l.joined ∙ length-append l.before line in
    nil_from_length line (omega (arith, size))

module _ (samples : SamplesOfBytes) (number : ℕ) where
  at_zero : (text line : List ℕ) → length (demo_candidates number) ≤ 100000 → text ≡ demo_text number →
      IsLastLine text line → summary number 0 ≡ demo_line number 0 (length text) ++ line
  unfolding summary
  at_zero text line few is last =
      let lines = candidate_lines (labels_of (made_observation (demo_spec number))) (demo_candidates number) in
      let line_is : line ≡ demo_end number = is_last lines (demo_end number)
      (lines_end (labels_of (made_observation (demo_spec number))) (demo_candidates number)) (end_is_one number few)
      text line (is ∙ text_parts samples number) last in
      rw (is, line_is) refl

  without_text : (status : ℕ) (text line : List ℕ) → text_at number status ≡ [] →
      summary number status ≡ demo_line number status 0 ++ [] → text ≡ text_at number status →
      IsLastLine text line → summary number status ≡ demo_line number status (length text) ++ line
  without_text status text line none sum is last =
      let empty : text ≡ [] = is ∙ none in
      let line_is : line ≡ [] = no_line line (subst (λ (xs : List ℕ). IsLastLine xs line) empty last) in
      rw (empty, line_is) sum

  at_five : summary number 5 ≡ demo_line number 5 0 ++ []
  unfolding summary
  at_five = refl

  at_nine : summary number 9 ≡ demo_line number 9 0 ++ []
  unfolding summary
  at_nine = refl

  by_status : (status : ℕ) (text line : List ℕ) → (status ≡ 0 → length (demo_candidates number) ≤ 100000) →
      text ≡ text_at number status → IsLastLine text line → Contains (0 ∷ 5 ∷ 9 ∷ []) status →
      summary number status ≡ demo_line number status (length text) ++ line
  by_status status text line few is last (zero, below, at) =
      let P : ℕ → Type 0 = λ n. (n ≡ 0 → length (demo_candidates number) ≤ 100000) → text ≡ text_at number n →
      summary number n ≡ demo_line number n (length text) ++ line in
      subst P at (λ small same. at_zero text line (small refl) same last) few is
  by_status status text line few is last (suc zero, below, at) =
      let P : ℕ → Type 0 = λ n. text ≡ text_at number n →
      summary number n ≡ demo_line number n (length text) ++ line in
      subst P at (λ same. without_text 5 text line refl at_five same last) is
  by_status status text line few is last (suc (suc zero), below, at) =
      let P : ℕ → Type 0 = λ n. text ≡ text_at number n →
      summary number n ≡ demo_line number n (length text) ++ line in
      subst P at (λ same. without_text 9 text line refl at_nine same last) is
  by_status status text line few is last (suc (suc (suc k)), below, at) = absurd (omega (arith, below))

  pub summed : (status : ℕ) (text line : List ℕ) → EndsAt number status → text ≡ text_at number status →
      IsLastLine text line → summary number status ≡ demo_line number status (length text) ++ line
  summed status text line ends is last = by_status status text line ends.few is last ends.known

-- what comes after a text that was written whole
pub wrote_after : {T E : Type 0} → PiecesJoin → (text xs ys : List ℕ) (old middle new : SinkSeen) →
    (result : Result T E) → text ≡ xs ++ ys → WroteAll xs old middle → Wrote ys middle new result →
    Wrote text old new result
wrote_after join text xs ys old middle new (Ok done) is first second = record {
  all = rw is (join.joins xs ys old middle new first second.all);
  front = tt;
}
wrote_after join text xs ys old middle new (Err fault) is first second = record {
  all = tt;
  front = rw is (join.stops xs ys old middle new first second.front);
}

-- the front of the line is that of the summary
pub front_of : PiecesJoin → (number status : ℕ) (text line : List ℕ) (old new : SinkSeen) →
    text ≡ text_at number status → line ≡ demo_line number status (length text) → WroteFront line old new →
    WroteFront (summary number status) old new
unfolding summary
front_of join number status text line old new is line_is front =
    join.breaks_off (demo_line number status (length (text_at number status)))
    (if status == 0 then demo_end number else []) old new
    (subst (λ (xs : List ℕ). WroteFront xs old new)
    (line_is ∙ ap (λ (xs : List ℕ). demo_line number status (length xs)) is) front)
