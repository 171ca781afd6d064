-- Beams that were searched: their books hold the candidate lists of their data.
use Rattle.std.proofs.Common.{◌≡◌, ℕ, ◌<◌, ◌≤◌, List, [], map, length, get_or, Option, Some, None, refl, sym, ap, ◌∙◌, arith}
use Rattle.std.specs.Prelude.{All, IsSome}
use Rattle.std.proofs.lemmas.List.{ext_get_or, get_or-map, length-map, take_all}
use Rattle.std.proofs.lemmas.List.Elements.{All-map, All-from_get_or, Contains-get_or}
use Rattle.dada_model.specs.Observation.{Observation, edges}
use Rattle.search_model.specs.declared.candidate.Candidate.{Candidate}
use Rattle.search_model.specs.declared.candidate.Candidate.TheVariants.{Pulse, Fold}
use Rattle.search_model.specs.declared.search.Search.{Search}
use Rattle.search_model.specs.Search.{SettingsInRange}
use Rattle.search_model.specs.Candidates.{plain_cells}
use Rattle.search_model.specs.CandidateLaws.{CandidatesAreListed, CandidatesRise, IsCandidate}
use Rattle.search_model.specs.Observed.{filterbank_of, candidates_of}
use Rattle.search_model.specs.Order.{IsRising}
use Rattle.candidate_book.specs.Book.{BookContents}
use Rattle.candidate_book.specs.Conditions.{IsSearched}
use Rattle.beam_set.specs.declared.ended.BeamEnd.{BeamEnd}
use Rattle.beam_set.specs.Text.{FoundBeam, nothing_found, lists_of}
use Rattle.beam_set.specs.Searched.{found_by}
use Rattle.beam_set.specs.Beams.{found_at, found_in, CanBeWritten}
use Rattle.beam_set.specs.Laws.{HoldsData, BeamsHoldData, SearchedBeamsAreFound}

module _ (listed : CandidatesAreListed) (rise : CandidatesRise) (o : Observation) (s : Search)
    (range : SettingsInRange s) where
  -- what a search finds has delays, widths and halvings that a search can have
  searched : (bytes : List ℕ) (c : Candidate) →
      IsCandidate (filterbank_of o bytes) (edges o) (plain_cells o.channels) s c → IsSearched c
  searched bytes (Pulse end delay width sum) is = (omega (arith, is.delay_to, range.delays.most), is.box)
  searched bytes (Fold delay period halvings trial phase sum) is = (
    omega (arith, is.delay_to, range.delays.most),
    is.rows.some,
    omega (arith, is.rows.within, range.folds.most_rows),
  )

  all_searched : (bytes : List ℕ) → All IsSearched (candidates_of o s bytes)
  all_searched bytes = λ i d within.
      let list = candidates_of o s bytes in
      searched bytes (get_or list i d) ((listed (filterbank_of o bytes) (edges o) (plain_cells o.channels) s
      (get_or list i d)).0 (Contains-get_or list i d within))

  is_there : (bytes : List ℕ) (beam : Option BeamEnd) → HoldsData o s bytes beam → IsSome beam
  is_there bytes None holds = absurd holds
  is_there bytes (Some beam) holds = refl

  found_one : (bytes : List ℕ) (beam : Option BeamEnd) → length (candidates_of o s bytes) ≤ s.max_candidates →
      HoldsData o s bytes beam → found_at beam ≡ found_by o s bytes
  found_one bytes None few holds = absurd holds
  found_one bytes (Some beam) few holds =
      let list = candidates_of o s bytes in
      let kept : beam.book.kept ≡ list =
      ap (λ (b : BookContents). b.kept) holds.0 ∙ take_all s.max_candidates list few in
      let first : FoundBeam = record { spectra = beam.spectra; list = beam.book.kept } in
      ap (λ (n : ℕ). record first { spectra = n }) holds.1
      ∙ ap (λ (l : List Candidate). record (found_by o s bytes) { list = l }) kept

  module _ (data_of_beams : List (List ℕ)) (beams : List (Option BeamEnd))
      (holds : BeamsHoldData o s data_of_beams beams)
      (few : All (λ bytes. length (candidates_of o s bytes) ≤ s.max_candidates) data_of_beams) where
    all_found : found_in beams ≡ map (found_by o s) data_of_beams
    all_found =
        let here = length-map beams found_at in
        let there = length-map data_of_beams (found_by o s) in
        ext_get_or nothing_found (found_in beams) (map (found_by o s) data_of_beams)
        (omega (arith, here, there, holds.count)) (λ b within.
        let inside : b < length data_of_beams = omega (arith, within, here, holds.count) in
        get_or-map found_at beams b None nothing_found (omega (arith, within, here))
        ∙ found_one (get_or data_of_beams b []) (get_or beams b None) (few b [] inside) (holds.each b inside)
        ∙ sym (get_or-map (found_by o s) data_of_beams b [] nothing_found inside))

    -- what holds of each candidate list holds of each list of the beams
    each_list : (P : List Candidate → Type 0) → ((bytes : List ℕ) → P (candidates_of o s bytes)) →
        All P (lists_of (found_in beams))
    each_list P all = rw all_found
        (All-map P (λ (f : FoundBeam). f.list) (map (found_by o s) data_of_beams)
        (All-map (λ (f : FoundBeam). P f.list) (found_by o s) data_of_beams (λ b d within.
        all (get_or data_of_beams b d))))

    can_be_written : CanBeWritten beams
    can_be_written = record {
      there = All-from_get_or IsSome beams None (λ b within.
          is_there (get_or data_of_beams b []) (get_or beams b None)
          (holds.each b (omega (arith, within, holds.count))));
      rise = each_list IsRising (λ bytes. rise (filterbank_of o bytes) (edges o) (plain_cells o.channels) s);
      searched = each_list (All IsSearched) all_searched;
    }

pub searched_beams : CandidatesAreListed → CandidatesRise → SearchedBeamsAreFound
searched_beams listed rise o s data_of_beams beams range holds few = (
  can_be_written listed rise o s range data_of_beams beams holds few,
  all_found listed rise o s range data_of_beams beams holds few,
)
