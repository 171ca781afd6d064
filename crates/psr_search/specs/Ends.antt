-- How a search ends, before the notes.
-- Source: this project's choice.
use Rattle.std.specs.Prelude.{◌≡◌, ◌≢◌, ◌<◌, ℕ, List, [], ◌∷◌, Option, Some, None, Contains}
use Rattle.psr_base.specs.Told.{InputsSeen}
use Rattle.psr_base.specs.Made.{FilesSeen}
use Rattle.psr_base.specs.Written.{SinkSeen, WroteAll, WroteFront}
use Rattle.ring_ends.specs.declared.finished.Finished.{Finished}
use Rattle.search_model.specs.declared.search.Search.{Search}
use Rattle.transfer_text.specs.Searched.{ObservedTransfer, candidate_total, searched_text}
use Rattle.transfer_text.specs.Found.{HasFew}
use Rattle.dada_recorder.specs.declared.answers.RecordEnd.{RecordEnd}
use Rattle.dada_recorder.specs.declared.answers.RecordEnd.TheVariants as recorder
use Rattle.run_outcome.specs.declared.stop.Stop.{Stop}
use Rattle.run_outcome.specs.declared.stop.Stop.TheVariants.{TooMany, SinkFault, FileFault}
use Rattle.run_outcome.specs.Runs.{Searching, HasCandidates}
use Rattle.run_outcome.specs.Ends.{EndsRun, end_status, IsSaid}
use Rattle.psr_search.specs.Outcome.{ForSearch, WritesText, ClearsBlocks}

-- ---- the text

-- how a search ends whose data were all sealed: its text is written, or its front at a fault, or there are too many
-- candidates; and the files failed, or did not
abbrev pub EndsSearch : Search → List ObservedTransfer → Option RecordEnd → SinkSeen → SinkSeen
    → Option Stop → Type 0
EndsSearch search transfers recorded before after None =
    HasFew search transfers × WroteAll (searched_text search transfers) before after
    × (recorded ≢ Some recorder.FileFault)
EndsSearch search transfers recorded before after (Some FileFault) =
    HasFew search transfers × WroteAll (searched_text search transfers) before after
    × (recorded ≡ Some recorder.FileFault)
EndsSearch search transfers recorded before after (Some SinkFault) =
    HasFew search transfers × WroteFront (searched_text search transfers) before after
EndsSearch search transfers recorded before after (Some (TooMany count limit)) =
    (candidate_total search transfers ≡ count) × (limit ≡ search.max_candidates) × (limit < count)
    × (after ≡ before)
EndsSearch search transfers recorded before after (Some stop) = ⊥

-- the feeder was stopped, which stops the search; or all data were sealed
abbrev pub EndsFed : Option Stop → Search → List ObservedTransfer → Option RecordEnd → SinkSeen
    → SinkSeen → Option Stop → Type 0
EndsFed (Some fed) search transfers recorded before after stop =
    (stop ≡ Some fed) × (after ≡ before)
EndsFed None search transfers recorded before after stop =
    EndsSearch search transfers recorded before after stop

-- ---- the search

-- all that the outcome says but for the notes
pub record Ends (words : List (List ℕ)) (inputs : InputsSeen) (is_calm : Type 0)
    (files_before files_after : FilesSeen) (out_before out_after : SinkSeen)
    (stop : Option Stop) (blocks : Option Finished) (recorded : Option RecordEnd) : Type 0 where
  pub known : Contains
      (0 ∷ 2 ∷ 3 ∷ 4 ∷ 5 ∷ 6 ∷ 7 ∷ 8 ∷ 9 ∷ 10 ∷ 11 ∷ []) (end_status stop)
  pub written : WritesText words inputs.told out_before out_after (end_status stop)
  pub run : EndsRun Searching words inputs is_calm blocks recorded files_before files_after
      (end_status stop)
  pub too_many : end_status stop ≡ 9 → ForSearch words inputs.told (λ s w.
      HasCandidates s w (λ total. s.search.max_candidates < total))
  pub cleared : ClearsBlocks words blocks recorded
  pub said : IsSaid Searching words inputs.told stop
