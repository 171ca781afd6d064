-- The text without its CHECK lines is that of one part.
use Rattle.std.proofs.Common.{◌≡◌, ℕ, zero, suc, ◌+◌, ◌≤◌, ◌<◌, ◌++◌, inl, inr, Bool, false, cond, min, List, [], ◌∷◌, length, refl, sym, ◌∙◌, ap, append-nil, append_assoc, arith}
use Rattle.std.specs.Prelude.{filter, nat_lt}
use Rattle.std.proofs.lemmas.Bool.{cases_lt, le-leb, le-ltb, lt-ltb}
use Rattle.std.proofs.lemmas.Bool.Decides.{nat_tests}
use Rattle.std.proofs.lemmas.List.{length-append}
use Rattle.std.proofs.lemmas.List.Concat.{flat_map-append}
use Rattle.dada_model.specs.Observation.{Observation, edges}
use Rattle.search_model.specs.declared.candidate.Candidate.{Candidate}
use Rattle.search_model.specs.declared.candidate.Candidate.TheVariants.{Pulse, Fold}
use Rattle.search_model.specs.declared.search.Search.{Search}
use Rattle.search_model.specs.CandidateLaws.{CandidatesAreListed, CandidatesRise}
use Rattle.search_model.specs.Candidates.{plain_cells}
use Rattle.search_model.specs.Observed.{candidates_of, filterbank_of, labels_of, search_text}
use Rattle.search_model.specs.CandidateText.{candidate_line, candidate_lines, end_line}
use Rattle.search_model.specs.Order.{IsRising}
use Rattle.search_model.specs.Parts.{PartsJoin, check_line, ends_within, part_text, within_part}
use Rattle.warm_restart.specs.declared.checkpoint.Checkpoint.{Checkpoint}
use Rattle.warm_restart.specs.Joins.{PartTextsJoin}
use Rattle.warm_restart.specs.Warm.{text_of_part}
use Rattle.live_search.specs.LiveText.{Layout, after_parts, counted, end_mark, greatest_number, last_lines, layout_of, lines_at, many_line, marked_parts, marked_stop, marked_text, next_after, next_end, no_mark, part_at, printed, pulse_lines}
use Rattle.live_search.specs.Laws.{PrintsAll, PrintsAllOf, first_spectrum, last_checkpoint, plain_text}
use Rattle.live_search.proofs.Ending.{all_end}
use Rattle.live_search.proofs.Counts.{at_later, at_next, at_none, count, next_past, place_before}

-- ---- no candidate ends from a spectrum on and before it

never : (place : ℕ) (c : Candidate) → ends_within place place c ≡ false
never place (Pulse end d w sum) = grind (arith, nat_tests)
never place (Fold d p m j q sum) = refl

keeps_none : (p : Candidate → Bool) (xs : List Candidate) → ((c : Candidate) → p c ≡ false) → filter p xs ≡ []
keeps_none p [] none = refl
keeps_none p (x ∷ xs) none =
    ap (λ b. cond b (x ∷ filter p xs) (filter p xs)) (none x) ∙ keeps_none p xs none

pub within_none : (place : ℕ) (list : List Candidate) → within_part place place list ≡ []
within_none place list = keeps_none (ends_within place place) list (never place)

-- ---- one part

module _ (l : Layout) (until : ℕ) (part : List Candidate) (few : length part ≤ l.limit) where
  pub all_lines : pulse_lines l.labels l.limit until part ≡ candidate_lines l.labels part
  all_lines =
      ap (λ b. cond b (candidate_lines l.labels part) (many_line until (length part)))
      (le-leb (length part) l.limit few)

  pub all_counted : printed l.limit part ≡ length part
  all_counted = ap (λ b. cond b (length part) 0) (le-leb (length part) l.limit few)

  pub count_is : (before : ℕ) → before + length part ≤ greatest_number →
      counted before (printed l.limit part) ≡ before + length part
  count_is before small =
      ap (counted before) all_counted
      ∙ (let is : min (before + length part) greatest_number ≡ before + length part = omega (arith, small) in is)

-- ---- all parts

module _ (join : PartsJoin) (l : Layout) (some : 1 ≤ l.every) (from : Checkpoint) (list : List Candidate)
    (rises : IsRising list) where
  abbrev at : ℕ → Checkpoint
  at n = after_parts l from list n

  -- the pulses that end before a spectrum
  abbrev upto : ℕ → List Candidate
  upto until = within_part from.place until list

  abbrev plain : ℕ → List ℕ
  plain n = marked_parts no_mark l from list n

  -- what a part adds to them
  upto_more : (n until : ℕ) → (at n).place ≤ until →
      upto (at n).place ++ within_part (at n).place until list ≡ upto until
  upto_more n until later =
      join.parts list from.place (at n).place until rises (at_later l some from list n) later

  upto_count : (n until : ℕ) → (at n).place ≤ until →
      length (upto (at n).place) + length (within_part (at n).place until list) ≡ length (upto until)
  upto_count n until later =
      sym (length-append (upto (at n).place) (within_part (at n).place until list))
      ∙ ap length (upto_more n until later)

  lines_more : (n until : ℕ) → (at n).place ≤ until →
      candidate_lines l.labels (upto (at n).place)
      ++ candidate_lines l.labels (within_part (at n).place until list) ≡ candidate_lines l.labels (upto until)
  lines_more n until later =
      sym (flat_map-append (candidate_line l.labels) (upto (at n).place) (within_part (at n).place until list))
      ∙ ap (candidate_lines l.labels) (upto_more n until later)

  -- so many parts are the lines of their pulses, and count them
  record IsPlain (n : ℕ) : Type 0 where
    text : plain n ≡ candidate_lines l.labels (upto (at n).place)
    pulses : (at n).pulses ≡ from.pulses + length (upto (at n).place)

  plain_none : IsPlain 0
  unfolding marked_parts
  plain_none =
      let none = at_none l some from list in
      let upto_first : upto (at 0).place ≡ [] =
      ap (λ (c : Checkpoint). upto c.place) none ∙ within_none from.place list in
      let no_more : from.pulses + 0 ≡ from.pulses = omega arith in
      record {
        text = sym (ap (candidate_lines l.labels) upto_first);
        pulses = ap (λ (c : Checkpoint). c.pulses) none ∙ sym no_more
            ∙ sym (ap (λ xs. from.pulses + length xs) upto_first);
      }

  plain_next : (n : ℕ) → IsPlain n → length (part_at l (at n) list) ≤ l.limit →
      from.pulses + length (upto (next_end l.every (at n).place)) ≤ greatest_number → IsPlain (suc n)
  unfolding marked_parts
  plain_next n is few small =
      let end = next_end l.every (at n).place in
      let part = part_at l (at n) list in
      let past = next_past l.every (at n).place some in
      let next = at_next l some from list n in
      let place : (at (suc n)).place ≡ end = ap (λ (c : Checkpoint). c.place) next in
      let long = upto_count n end (omega (arith, past)) in
      let pulses = is.pulses in
      let own = count_is l end part few (at n).pulses (omega (arith, pulses, long, small)) in
      let counts = ap (λ (c : Checkpoint). c.pulses) next in
      let all : (at (suc n)).pulses ≡ from.pulses + length (upto end) = omega (arith, counts, own, pulses, long) in
      record {
        text = append-nil (plain n ++ lines_at l (at n) list)
            ∙ ap (λ ts. ts ++ lines_at l (at n) list) is.text
            ∙ ap (λ ts. candidate_lines l.labels (upto (at n).place) ++ ts) (all_lines l end part few)
            ∙ lines_more n end (omega (arith, past))
            ∙ ap (λ p. candidate_lines l.labels (upto p)) (sym place);
        pulses = all ∙ ap (λ p. from.pulses + length (upto p)) (sym place);
      }

  module _ (spectra : ℕ) (within : from.place ≤ spectra) (prints : PrintsAll l from spectra list) where
    abbrev m : ℕ
    m = count l some from list spectra

    -- places lie within the data
    place_within : (n : ℕ) → n ≤ m → (at n).place ≤ spectra
    place_within zero few =
        let none = ap (λ (c : Checkpoint). c.place) (at_none l some from list) in omega (arith, none, within)
    place_within (suc n) few =
        let past = place_before l some from list (suc n) spectra few (omega arith) in omega (arith, past)

    -- and pulses that end before them can be counted
    small_within : (n : ℕ) → n ≤ m → from.pulses + length (upto (at n).place) ≤ greatest_number
    small_within n few =
        let long = upto_count n spectra (place_within n few) in
        let all = prints.count in
        omega (arith, long, all)

    plain_parts : (n : ℕ) → n ≤ m → IsPlain n
    plain_parts zero few = plain_none
    plain_parts (suc n) few =
        let place = ap (λ (c : Checkpoint). from.pulses + length (upto c.place)) (at_next l some from list n) in
        let small = small_within (suc n) few in
        plain_next n (plain_parts n (omega (arith, few))) (prints.parts n (omega (arith, few)))
        (omega (arith, place, small))

    -- all pulses are counted
    pub last_count : (last_checkpoint l from spectra list).pulses ≡ from.pulses + length (upto spectra)
    last_count =
        let part = within_part (at m).place spectra list in
        let is = plain_parts m (omega arith) in
        let later = place_within m (omega arith) in
        let long = upto_count m spectra later in
        let pulses = is.pulses in
        let total = prints.count in
        let own = count_is l spectra part prints.last (at m).pulses (omega (arith, pulses, long, total)) in
        omega (arith, own, pulses, long)

    pub plain_is : marked_text no_mark l from spectra list
        ≡ part_text l.labels spectra from.place spectra from.pulses list
    plain_is =
        let part = within_part (at m).place spectra list in
        let is = plain_parts m (omega arith) in
        let later = place_within m (omega arith) in
        let all : counted (at m).pulses (printed l.limit part) ≡ from.pulses + length (upto spectra) = last_count in
        let no : nat_lt spectra spectra ≡ false = grind (arith, nat_tests) in
        ap (λ ts. ts ++ (pulse_lines l.labels l.limit spectra part
        ++ end_mark spectra (counted (at m).pulses (printed l.limit part)))) is.text
        ∙ ap (λ ts. candidate_lines l.labels (upto (at m).place)
        ++ (ts ++ end_mark spectra (counted (at m).pulses (printed l.limit part)))) (all_lines l spectra part prints.last)
        ∙ sym (append_assoc (candidate_lines l.labels (upto (at m).place)) (candidate_lines l.labels part)
        (end_mark spectra (counted (at m).pulses (printed l.limit part))))
        ∙ ap (λ ts. ts ++ end_mark spectra (counted (at m).pulses (printed l.limit part))) (lines_more m spectra later)
        ∙ ap (λ k. candidate_lines l.labels (upto spectra) ++ end_mark spectra k) all
        ∙ sym (ap (λ b. candidate_lines l.labels (upto spectra)
        ++ cond b (check_line spectra (from.pulses + length (upto spectra)))
        (end_line (from.pulses + length (upto spectra)) 0 spectra)) no)

    -- data that stopped have the lines of their pulses
    pub stop_is : marked_stop no_mark l from spectra list ≡ candidate_lines l.labels (upto spectra)
    stop_is =
        let part = within_part (at m).place spectra list in
        let is = plain_parts m (omega arith) in
        let later = place_within m (omega arith) in
        let lines = last_lines no_mark l (at m) spectra list in
        elim (cases_lt (at m).place spectra) [
          | inl past ↦
              ap (λ b. plain m ++ cond b lines []) (lt-ltb (at m).place spectra past)
              ∙ ap (λ ts. plain m ++ ts) (append-nil (pulse_lines l.labels l.limit spectra part))
              ∙ ap (λ ts. plain m ++ ts) (all_lines l spectra part prints.last)
              ∙ ap (λ ts. ts ++ candidate_lines l.labels part) is.text
              ∙ lines_more m spectra later
          | inr here ↦
              let same : (at m).place ≡ spectra = omega (arith, later, here) in
              ap (λ b. plain m ++ cond b lines []) (le-ltb (at m).place spectra here)
              ∙ append-nil (plain m) ∙ is.text ∙ ap (λ u. candidate_lines l.labels (upto u)) same
        ]

-- ---- of data bytes

pub one_is : (o : Observation) (s : Search) (every : ℕ) (at : Checkpoint) (bytes : List ℕ) →
    let l = layout_of o s every in
    let list = candidates_of o s bytes in
    let next = next_after l at list in
    next_end every at.place < (filterbank_of o bytes).spectra → length (part_at l at list) ≤ s.max_candidates →
    at.pulses + length (part_at l at list) ≤ greatest_number →
    lines_at l at list ++ check_line next.place next.pulses ≡ text_of_part o s at (next_end every at.place) bytes
one_is o s every at bytes inside few small =
    let l = layout_of o s every in
    let list = candidates_of o s bytes in
    let part = part_at l at list in
    let end = next_end every at.place in
    let spectra = (filterbank_of o bytes).spectra in
    ap (λ ts. ts ++ check_line end (counted at.pulses (printed l.limit part))) (all_lines l end part few)
    ∙ ap (λ k. candidate_lines l.labels part ++ check_line end k) (count_is l end part few at.pulses small)
    ∙ sym (ap (λ b. candidate_lines l.labels part
    ++ cond b (check_line end (at.pulses + length part)) (end_line (at.pulses + length part) 0 spectra))
    (lt-ltb end spectra inside))

module _ (join : PartsJoin) (rise : CandidatesRise) (listed : CandidatesAreListed) where
  -- one part that has all spectra
  last_is : (o : Observation) (s : Search) (from : Checkpoint) (until : ℕ) (bytes : List ℕ) →
      (filterbank_of o bytes).spectra ≤ until →
      text_of_part o s from (filterbank_of o bytes).spectra bytes ≡ text_of_part o s from until bytes
  last_is o s from until bytes late =
      let spectra = (filterbank_of o bytes).spectra in
      let text : List Candidate → Bool → ℕ → List ℕ =
      λ part b u. candidate_lines (labels_of o) part
      ++ cond b (check_line u (from.pulses + length part)) (end_line (from.pulses + length part) 0 spectra) in
      let end : ℕ → List Candidate → List ℕ = λ u part. text part (nat_lt u spectra) u in
      let no : nat_lt spectra spectra ≡ false = grind (arith, nat_tests) in
      let nor : nat_lt until spectra ≡ false = grind (arith, nat_tests, late) in
      ap (λ b. text (within_part from.place spectra (candidates_of o s bytes)) b spectra) no
      ∙ sym (ap (λ b. text (within_part from.place spectra (candidates_of o s bytes)) b until) nor)
      ∙ ap (end until) (sym (all_end listed o s bytes from.place until late))

  pub rest_is : (o : Observation) (s : Search) (every : ℕ) (from : Checkpoint) (until : ℕ) (bytes : List ℕ) →
      1 ≤ every → from.place ≤ (filterbank_of o bytes).spectra → (filterbank_of o bytes).spectra ≤ until →
      PrintsAllOf o s every from bytes → plain_text o s every from bytes ≡ text_of_part o s from until bytes
  rest_is o s every from until bytes some within late prints =
      plain_is join (layout_of o s every) some from (candidates_of o s bytes)
      (rise (filterbank_of o bytes) (edges o) (plain_cells o.channels) s) (filterbank_of o bytes).spectra within prints
      ∙ last_is o s from until bytes late

  pub whole_is : PartTextsJoin → (o : Observation) (s : Search) (every : ℕ) (bytes : List ℕ) → 1 ≤ every →
      s.fold_max < s.fold_min → PrintsAllOf o s every first_spectrum bytes →
      plain_text o s every first_spectrum bytes ≡ search_text o s bytes
  whole_is whole o s every bytes some off prints =
      let spectra = (filterbank_of o bytes).spectra in
      rest_is o s every first_spectrum spectra bytes some (omega arith) (omega arith) prints
      ∙ whole.whole o s spectra bytes off (omega arith)
