-- The ends of all beams, looked through in their order.
use Rattle.std.proofs.Common.{◌≡◌, ℕ, ◌<◌, ◌≤◌, List, [], All, map, length, get_or, Option, Some, None, ap, subst, arith}
use Rattle.std.proofs.lemmas.List.{get_or_default}
use Rattle.dada_model.specs.Observation.{Observation}
use Rattle.search_model.specs.declared.search.Search.{Search}
use Rattle.psr_base.specs.Written.{SinkSeen, WroteAll, WroteFront}
use Rattle.search_model.specs.Observed.{candidates_of, labels_of}
use Rattle.search_model.specs.Search.{SettingsInRange}
use Rattle.candidate_book.specs.Book.{BookContents}
use Rattle.beam_set.specs.declared.ended.BeamEnd.{BeamEnd}
use Rattle.beam_set.specs.Beams.{CanBeWritten, found_in}
use Rattle.beam_set.specs.Laws.{HoldsData, BeamsHoldData, SearchedBeamsAreFound}
use Rattle.beam_set.specs.Searched.{found_by, searched_beams_text}
use Rattle.beam_set.specs.Text.{beams_text}
use Rattle.psr_beams.specs.Ends.{slot_count, counted_in, NoneCountsTooMany}

module _ (ends : List (Option BeamEnd)) where
  -- ---- the lists

  module _ (o : Observation) (s : Search) where
    pub counted_is : (bytes : List ℕ) (slot : Option BeamEnd) → HoldsData o s bytes slot →
        slot_count slot ≡ length (candidates_of o s bytes)
    counted_is bytes None held = absurd held
    counted_is bytes (Some end) (book, spectra) = ap (λ (b : BookContents). b.count) book

    pub counts : (data_of_beams : List (List ℕ)) (k : ℕ) → BeamsHoldData o s data_of_beams ends → k < length ends →
        counted_in ends k ≡ length (candidates_of o s (get_or data_of_beams k []))
    counts data_of_beams k held within =
        let many = held.count in
        counted_is (get_or data_of_beams k []) (get_or ends k None) (held.each k (omega (arith, within, many)))

    -- none is longer than the limit
    pub few_lists : (data_of_beams : List (List ℕ)) → BeamsHoldData o s data_of_beams ends →
        NoneCountsTooMany ends s.max_candidates →
        All (λ bytes. length (candidates_of o s bytes) ≤ s.max_candidates) data_of_beams
    few_lists data_of_beams held few k d within =
        let many = held.count in
        let there : k < length ends = omega (arith, within, many) in
        let P : List ℕ → Type 0 = λ bytes. length (candidates_of o s bytes) ≤ s.max_candidates in
        subst P (get_or_default data_of_beams k [] d within)
        (subst (λ m. m ≤ s.max_candidates) (counts data_of_beams k held there) (few k there))

    -- ---- the text

    module _ (law : SearchedBeamsAreFound) (range : SettingsInRange s) (data_of_beams : List (List ℕ))
        (held : BeamsHoldData o s data_of_beams ends) (few : NoneCountsTooMany ends s.max_candidates) where
      found : CanBeWritten ends × (found_in ends ≡ map (found_by o s) data_of_beams)
      found = law o s data_of_beams ends range held (few_lists data_of_beams held few)

      pub can_be_written : CanBeWritten ends
      can_be_written = found.0

      pub text_written : (within more_than : ℕ) (before after : SinkSeen) →
          WroteAll (beams_text (labels_of o) within more_than (found_in ends)) before after →
          WroteAll (searched_beams_text o s within more_than data_of_beams) before after
      text_written within more_than before after wrote =
          subst (λ fs. WroteAll (beams_text (labels_of o) within more_than fs) before after) found.1 wrote

      pub text_front : (within more_than : ℕ) (before after : SinkSeen) →
          WroteFront (beams_text (labels_of o) within more_than (found_in ends)) before after →
          WroteFront (searched_beams_text o s within more_than data_of_beams) before after
      text_front within more_than before after wrote =
          subst (λ fs. WroteFront (beams_text (labels_of o) within more_than fs) before after) found.1 wrote
