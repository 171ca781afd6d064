-- A search that goes on where data stopped.
use Rattle.std.proofs.Common.{◌≡◌, ℕ, zero, suc, ◌+◌, ◌-◌, ◌*◌, ◌/◌, ◌≤◌, ◌<◌, ◌++◌, inl, inr, cond, List, [], length, refl, sym, ◌∙◌, ap, subst, append_assoc, arith}
use Rattle.std.specs.Prelude.{nat_lt}
use Rattle.std.proofs.Math.Nat.{div-mul-le_self}
use Rattle.std.proofs.lemmas.Bool.{cases_lt, le-ltb, lt-ltb}
use Rattle.std.proofs.lemmas.List.{length-append}
use Rattle.std.proofs.lemmas.List.Concat.{flat_map-append}
use Rattle.dada_model.specs.Bounds.{ObservationInRange}
use Rattle.dada_model.specs.Laws.{EdgesFall}
use Rattle.dada_model.specs.Observation.{Observation, edges}
use Rattle.search_model.specs.declared.candidate.Candidate.{Candidate}
use Rattle.search_model.specs.declared.search.Search.{Search}
use Rattle.search_model.specs.CandidateLaws.{CandidatesAreListed, CandidatesRise, RisingListsAgree}
use Rattle.search_model.specs.Candidates.{plain_cells}
use Rattle.search_model.specs.CandidateText.{candidate_line, candidate_lines}
use Rattle.search_model.specs.Laws.{HasOnePath, PathsRise}
use Rattle.search_model.specs.Observed.{candidates_of, filterbank_of}
use Rattle.search_model.specs.Order.{IsRising}
use Rattle.search_model.specs.Parts.{PartsJoin, check_line, part_text, within_part}
use Rattle.search_model.specs.SampleLaws.{SamplesOfBytes}
use Rattle.warm_restart.specs.declared.checkpoint.Checkpoint.{Checkpoint}
use Rattle.live_search.specs.LiveText.{Layout, after_parts, last_lines, layout_of, marked_parts, next_end, part_at, parts_before, pulse_lines, stopped_text}
use Rattle.live_search.specs.Laws.{LiveStopsGoOn, PrintsAll, PrintsAllOf, last_checkpoint, last_part, plain_stop, plain_text, stops_at}
use Rattle.live_search.proofs.Counts.{at_next, at_none, count, count_is, count_rises, end_after, end_before, end_of, next_past, place_before}
use Rattle.live_search.proofs.MoreData.{part_stays}
use Rattle.live_search.proofs.Plain.{last_count, plain_is, stop_is, within_none}
use Rattle.live_search.proofs.Sizes.{quotients, spectra_grow}

-- ---- the last line

module _ (l : Layout) (some : 1 ≤ l.every) (from : Checkpoint) (list : List Candidate) where
  pub line_is : (spectra : ℕ) → from.place < spectra → let last = last_checkpoint l from spectra list in
      stopped_text l from spectra list
      ≡ (marked_parts check_line l from list (parts_before l.every from.place spectra)
      ++ pulse_lines l.labels l.limit spectra (last_part l from spectra list)) ++ check_line last.place last.pulses
  line_is spectra past =
      let n = count l some from list spectra in
      let at = after_parts l from list n in
      let last = last_checkpoint l from spectra list in
      let marked = marked_parts check_line l from list n in
      let lines = pulse_lines l.labels l.limit spectra (last_part l from spectra list) in
      ap (λ b. marked ++ cond b (last_lines check_line l at spectra list) []) (lt-ltb at.place spectra (later n refl))
      ∙ sym (append_assoc marked lines (check_line last.place last.pulses))
    where
      later : (n : ℕ) → n ≡ count l some from list spectra → (after_parts l from list n).place < spectra
      later zero is = let none = ap (λ (c : Checkpoint). c.place) (at_none l some from list) in omega (arith, none, past)
      later (suc n) is = place_before l some from list (suc n) spectra (omega (arith, is)) (omega arith)

  pub nothing_is : (spectra : ℕ) → spectra ≤ from.place → stopped_text l from spectra list ≡ []
  unfolding marked_parts
  nothing_is spectra few =
      let past = next_past l.every from.place some in
      let end = ap (λ (c : Checkpoint). next_end l.every c.place) (at_none l some from list) in
      let first = count_is l some from list 0 spectra (λ more. absurd (omega (arith, more)))
      (omega (arith, few, past, end)) in
      let place = ap (λ (c : Checkpoint). c.place) (at_none l some from list) in
      let rest : ℕ → List ℕ = λ n. let at = after_parts l from list n in
      cond (nat_lt at.place spectra) (last_lines check_line l at spectra list) [] in
      ap (λ n. marked_parts check_line l from list n ++ rest n) first
      ∙ ap (λ b. cond b (last_lines check_line l (after_parts l from list 0) spectra list) [])
      (le-ltb (after_parts l from list 0).place spectra (omega (arith, few, place)))

-- ---- parts of parts

module _ (join : PartsJoin) (l : Layout) (some : 1 ≤ l.every) (from : Checkpoint) (list : List Candidate)
    (rises : IsRising list) where
  abbrev at : Checkpoint → ℕ → Checkpoint
  at c n = after_parts l c list n

  abbrev long : ℕ → ℕ → ℕ
  long place until = length (within_part place until list)

  long_joins : (place cut until : ℕ) → place ≤ cut → cut ≤ until →
      long place cut + long cut until ≡ long place until
  long_joins place cut until early late =
      sym (length-append (within_part place cut list) (within_part cut until list))
      ∙ ap length (join.parts list place cut until rises early late)

  module _ (spectra u : ℕ) (past : from.place ≤ u) (within : u ≤ spectra)
      (prints : PrintsAll l from spectra list) where
    -- the part that has spectrum u
    abbrev j : ℕ
    j = u / l.every - from.place / l.every

    order : from.place / l.every ≤ u / l.every
    order = quotients from.place u l.every (omega (arith, some)) past

    -- ---- of the data that came first

    module _ (other : List Candidate)
        (same : (place until : ℕ) → until ≤ u → within_part place until other ≡ within_part place until list) where
      place_same : (k : ℕ) → (after_parts l from other k).place ≡ (at from k).place
      place_same zero =
          ap (λ (c : Checkpoint). c.place) (at_none l some from other ∙ sym (at_none l some from list))
      place_same (suc k) =
          ap (λ (c : Checkpoint). c.place) (at_next l some from other k)
          ∙ ap (λ p. next_end l.every p) (place_same k)
          ∙ sym (ap (λ (c : Checkpoint). c.place) (at_next l some from list k))

      first_part : (k : ℕ) → k < count l some from list u →
          length (part_at l (after_parts l from other k) other) ≤ l.limit
      first_part k few =
          let rises = count_rises l some from list u spectra within in
          let place = place_same k in
          let end = end_before l some from list k u few in
          let few_at = prints.parts k (omega (arith, few, rises)) in
          let is : length (part_at l (after_parts l from other k) other) ≡ length (part_at l (at from k) list) =
          ap (λ p. length (within_part p (next_end l.every p) other)) place
          ∙ ap length (same (at from k).place (next_end l.every (at from k).place) (omega (arith, end))) in
          omega (arith, is, few_at)

      -- places lie within the data
      place_within : (n : ℕ) → n ≤ count l some from list u → (at from n).place ≤ u
      place_within zero few =
          let none = ap (λ (c : Checkpoint). c.place) (at_none l some from list) in omega (arith, none, past)
      place_within (suc n) few =
          let before = place_before l some from list (suc n) u few (omega arith) in omega (arith, before)

      first_last : long (at from (count l some from list u)).place u ≤ l.limit
      first_last =
          let m = count l some from list u in
          let rises = count_rises l some from list u spectra within in
          let early = place_within m (omega arith) in
          elim (cases_lt m (count l some from list spectra)) [
            | inl more ↦
                let end = end_after l some from list u in
                let all = prints.parts m more in
                let both = long_joins (at from m).place u (next_end l.every (at from m).place) early end in
                omega (arith, all, both)
            | inr none ↦
                let last : count l some from list spectra ≡ m = omega (arith, rises, none) in
                let all : long (at from m).place spectra ≤ l.limit =
                subst (λ k. long (at from k).place spectra ≤ l.limit) last prints.last in
                let both = long_joins (at from m).place u spectra early within in
                omega (arith, all, both)
          ]

      pub first_prints : PrintsAll l from u other
      first_prints = record {
        parts = first_part;
        last =
            let m = count l some from list u in
            let is : length (within_part (after_parts l from other m).place u other) ≡ long (at from m).place u =
            ap (λ p. length (within_part p u other)) (place_same m)
            ∙ ap length (same (at from m).place u (omega arith)) in
            let few = first_last in
            omega (arith, is, few);
        count =
            let is = ap length (same from.place u (omega arith)) in
            let both = long_joins from.place u spectra past within in
            let all = prints.count in
            omega (arith, is, both, all);
      }

    -- ---- from there on

    module _ (c : Checkpoint) (place_is : c.place ≡ u) (pulses_are : c.pulses ≡ from.pulses + long from.place u) where
      ends_same : (k : ℕ) → next_end l.every (at c k).place ≡ next_end l.every (at from (j + k)).place
      ends_same k =
          let before = order in
          let quotient = ap (λ p. p / l.every) place_is in
          let count : c.place / l.every + k + 1 ≡ from.place / l.every + (j + k) + 1 = omega (arith, before, quotient) in
          end_of l some c list k ∙ ap (λ n. n * l.every) count ∙ sym (end_of l some from list (j + k))

      -- the part of one search that has spectrum u begins with it or before it
      begins_early : (i : ℕ) → i ≡ j → (at from i).place ≤ u
      begins_early zero is =
          let none = ap (λ (x : Checkpoint). x.place) (at_none l some from list) in omega (arith, none, past)
      begins_early (suc i) is =
          let next = ap (λ (x : Checkpoint). x.place) (at_next l some from list i) in
          let end = end_of l some from list i in
          let before = order in
          let count : from.place / l.every + i + 1 ≡ u / l.every = omega (arith, is, before) in
          let same = ap (λ n. n * l.every) count in
          let most = div-mul-le_self u l.every in
          omega (arith, next, end, same, most)

      place_later : (k : ℕ) → (at from (j + k)).place ≤ (at c k).place
      place_later zero =
          let none = ap (λ (x : Checkpoint). x.place) (at_none l some c list) in
          let early = begins_early (j + 0) (omega arith) in
          omega (arith, none, place_is, early)
      place_later (suc i) =
          let next = ap (λ (x : Checkpoint). x.place) (at_next l some c list i) in
          let step : j + suc i ≡ suc (j + i) = omega arith in
          let other = ap (λ k. (at from k).place) step
          ∙ ap (λ (x : Checkpoint). x.place) (at_next l some from list (j + i)) in
          let same = ends_same i in
          omega (arith, next, other, same)

      later_part : (k : ℕ) → k < count l some c list spectra → length (part_at l (at c k) list) ≤ l.limit
      later_part k few =
          let before = order in
          let quotient = ap (λ p. p / l.every) place_is in
          let all = prints.parts (j + k) (omega (arith, few, before, quotient)) in
          let end = ends_same k in
          let past_end = next_past l.every (at c k).place some in
          let both = long_joins (at from (j + k)).place (at c k).place (next_end l.every (at c k).place) (place_later k)
          (omega (arith, past_end)) in
          let is : long (at from (j + k)).place (next_end l.every (at c k).place)
          ≡ length (part_at l (at from (j + k)) list) = ap (long (at from (j + k)).place) end in
          omega (arith, all, both, is)

      c_within : (n : ℕ) → n ≤ count l some c list spectra → (at c n).place ≤ spectra
      c_within zero few =
          let none = ap (λ (x : Checkpoint). x.place) (at_none l some c list) in
          omega (arith, none, place_is, within)
      c_within (suc n) few =
          let before = place_before l some c list (suc n) spectra few (omega arith) in omega (arith, before)

      later_last : long (at c (count l some c list spectra)).place spectra ≤ l.limit
      later_last =
          let m = count l some c list spectra in
          let before = order in
          let quotient = ap (λ p. p / l.every) place_is in
          elim (cases_lt ((spectra - 1) / l.every) (u / l.every)) [
            | inl none ↦
                let first : m ≡ 0 = omega (arith, none, quotient) in
                let all : spectra ≤ u = elim (cases_lt (spectra - 1) u) [
                  | inl most ↦ omega (arith, most)
                  | inr more ↦
                      let less = quotients u (spectra - 1) l.every (omega (arith, some)) more in
                      absurd (omega (arith, less, none))
                ] in
                let place : (at c m).place ≡ spectra =
                ap (λ k. (at c k).place) first ∙ ap (λ (x : Checkpoint). x.place) (at_none l some c list) ∙ place_is
                ∙ (let same : u ≡ spectra = omega (arith, all, within) in same) in
                let nothing = ap length (within_none spectra list) in
                let is = ap (λ p. long p spectra) place in
                let zeroth : length {A = Candidate} [] ≡ 0 = refl in
                omega (arith, is, nothing, zeroth)
            | inr some_parts ↦
                let last : j + m ≡ count l some from list spectra = omega (arith, some_parts, before, quotient) in
                let all : long (at from (j + m)).place spectra ≤ l.limit =
                subst (λ k. long (at from k).place spectra ≤ l.limit) (sym last) prints.last in
                let both = long_joins (at from (j + m)).place (at c m).place spectra (place_later m)
                (c_within m (omega arith)) in
                omega (arith, all, both)
          ]

      pub later_prints : PrintsAll l c spectra list
      later_prints = record {
        parts = later_part;
        last = later_last;
        count =
            let both = long_joins from.place u spectra past within in
            let is = ap (λ p. long p spectra) place_is in
            let all = prints.count in
            omega (arith, pulses_are, both, is, all);
      }

-- ---- of data bytes

module _ (samples : SamplesOfBytes) (fall : EdgesFall) (one : HasOnePath) (rise : PathsRise)
    (listed : CandidatesAreListed) (rises : CandidatesRise) (agree : RisingListsAgree) (join : PartsJoin)
    (o : Observation) (range : ObservationInRange o) (s : Search) (every : ℕ) (from : Checkpoint)
    (first more : List ℕ) (some : 1 ≤ every) (past : from.place < (filterbank_of o first).spectra)
    (prints : PrintsAllOf o s every from (first ++ more)) where
  abbrev l : Layout
  l = layout_of o s every

  abbrev u : ℕ
  u = (filterbank_of o first).spectra

  abbrev spectra : ℕ
  spectra = (filterbank_of o (first ++ more)).spectra

  abbrev list : List Candidate
  list = candidates_of o s (first ++ more)

  abbrev other : List Candidate
  other = candidates_of o s first

  abbrev last : Checkpoint
  last = stops_at o s every from first

  early : from.place ≤ u
  early = omega (arith, past)

  within : u ≤ spectra
  within = spectra_grow o first (first ++ more) range
      (let count = length-append first more in omega (arith, count))

  rising : IsRising list
  rising = rises (filterbank_of o (first ++ more)) (edges o) (plain_cells o.channels) s

  same : (place until : ℕ) → until ≤ u → within_part place until other ≡ within_part place until list
  same place until few = sym (part_stays samples fall one rise o range first more listed s place until few rises agree)

  prints_first : PrintsAll l from u other
  prints_first = first_prints join l some from list rising spectra u early within prints other same

  rising_first : IsRising other
  rising_first = rises (filterbank_of o first) (edges o) (plain_cells o.channels) s

  -- the lines of the search that stopped, and the count of its last line
  stopped_lines : plain_stop o s every from first ≡ candidate_lines l.labels (within_part from.place u list)
  stopped_lines =
      stop_is join l some from other rising_first u early prints_first
      ∙ ap (candidate_lines l.labels) (same from.place u (omega arith))

  count_same : last.pulses ≡ from.pulses + length (within_part from.place u list)
  count_same =
      last_count join l some from other rising_first u early prints_first
      ∙ ap (λ xs. from.pulses + length xs) (same from.place u (omega arith))

  prints_later : PrintsAll l last spectra list
  prints_later = later_prints join l some from list rising spectra u early within prints last refl count_same

  pub rest_joins : plain_stop o s every from first ++ plain_text o s every last (first ++ more)
      ≡ plain_text o s every from (first ++ more)
  rest_joins =
      ap (λ ts. ts ++ plain_text o s every last (first ++ more)) stopped_lines
      ∙ ap (λ ts. candidate_lines l.labels (within_part from.place u list) ++ ts)
      (plain_is join l some last list rising spectra within prints_later)
      ∙ ap (λ k. candidate_lines l.labels (within_part from.place u list) ++ part_text l.labels spectra u spectra k list)
      count_same
      ∙ join.next l.labels spectra list from.place u spectra from.pulses rising early within
      ∙ sym (plain_is join l some from list rising spectra (omega (arith, early, within)) prints)

  pub stops_join : plain_stop o s every from first ++ plain_stop o s every last (first ++ more)
      ≡ plain_stop o s every from (first ++ more)
  stops_join =
      ap (λ ts. ts ++ plain_stop o s every last (first ++ more)) stopped_lines
      ∙ ap (λ ts. candidate_lines l.labels (within_part from.place u list) ++ ts)
      (stop_is join l some last list rising spectra within prints_later)
      ∙ sym (flat_map-append (candidate_line l.labels) (within_part from.place u list) (within_part u spectra list))
      ∙ ap (candidate_lines l.labels) (join.parts list from.place u spectra rising early within)
      ∙ sym (stop_is join l some from list rising spectra (omega (arith, early, within)) prints)

pub go_on : SamplesOfBytes → EdgesFall → HasOnePath → PathsRise → CandidatesAreListed → CandidatesRise →
    RisingListsAgree → PartsJoin → (o : Observation) → ObservationInRange o → LiveStopsGoOn o
go_on samples fall one rise listed rises agree join o range = record {
  rest = λ s every from first more some past prints.
      rest_joins samples fall one rise listed rises agree join o range s every from first more some past prints;
  again = λ s every from first more some past prints.
      stops_join samples fall one rise listed rises agree join o range s every from first more some past prints;
}
