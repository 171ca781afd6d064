-- How the search of a part ends, before the notes.
-- Source: this project's choice.
use Rattle.std.specs.Prelude.{◌≡◌, ℕ, ◌<◌, ◌≤◌, ⊤, List, length, Option, Some, None, Contains}
use Rattle.dada_model.specs.Observation.{Observation}
use Rattle.psr_base.specs.Told.{Told, InputsSeen}
use Rattle.psr_base.specs.Written.{SinkSeen, WroteAll, WroteFront}
use Rattle.ring_ends.specs.declared.finished.Finished.{Finished}
use Rattle.search_model.specs.declared.search.Search.{Search}
use Rattle.search_model.specs.Observed.{candidates_of, filterbank_of}
use Rattle.search_model.specs.Parts.{within_part}
use Rattle.disk_feeder.specs.Filling.{HoldsAll}
use Rattle.warm_restart.specs.declared.checkpoint.Checkpoint.{Checkpoint}
use Rattle.warm_restart.specs.Warm.{text_of_part}
use Rattle.run_outcome.specs.declared.stop.Stop.{Stop}
use Rattle.run_outcome.specs.declared.stop.Stop.TheVariants.{TooMany, SinkFault}
use Rattle.run_outcome.specs.Ends.{IsSaid}
use Rattle.drive_lone.specs.Outcomes.{RunsAlone}
use Rattle.psr_part.specs.declared.stop.CheckpointRefusal.TheVariants.{Beyond}
use Rattle.psr_part.specs.declared.stop.PartStop.{PartStop}
use Rattle.psr_part.specs.declared.stop.PartStop.TheVariants.{Run, Refused}
use Rattle.psr_part.specs.Texts.{end_status, statuses}
use Rattle.psr_part.specs.Part.{check_names, GoesOnFrom, part_search, searching, ForPart}
use Rattle.psr_part.specs.Outcome.{WritesPart, IsCrowded, IsRefused, later_statuses}

-- ---- the text

-- how many spectra these data bytes of an observation have, and how many pulses the part of them
abbrev pub spectra_of : Observation → List ℕ → ℕ
spectra_of o bytes = (filterbank_of o bytes).spectra

abbrev pub count_of : Observation → Search → Checkpoint → ℕ → List ℕ → ℕ
count_of o s from until bytes =
    length (within_part from.place until (candidates_of o s bytes))

-- the place is not behind the data, and the part has no more pulses than there may be
abbrev pub FitsPart : Observation → Search → Checkpoint → ℕ → List ℕ → Type 0
FitsPart o s from until bytes =
    (from.place ≤ spectra_of o bytes) × (count_of o s from until bytes ≤ s.max_candidates)

-- How a search ends whose data were all sealed: its text is written, or its front at a fault; or there are too many
-- pulses, or the place is behind the data.
abbrev pub EndsText : Observation → Search → Checkpoint → ℕ → List ℕ → SinkSeen → SinkSeen →
    Option PartStop → Type 0
EndsText o s from until bytes before after None =
    FitsPart o s from until bytes × WroteAll (text_of_part o s from until bytes) before after
EndsText o s from until bytes before after (Some (Run SinkFault)) =
    FitsPart o s from until bytes × WroteFront (text_of_part o s from until bytes) before after
EndsText o s from until bytes before after (Some (Run (TooMany count limit))) =
    (from.place ≤ spectra_of o bytes) × (count_of o s from until bytes ≡ count)
    × (limit ≡ s.max_candidates) × (limit < count) × (after ≡ before)
EndsText o s from until bytes before after (Some (Refused (Beyond place spectra))) =
    (place ≡ from.place) × (spectra ≡ spectra_of o bytes) × (spectra < place) × (after ≡ before)
EndsText o s from until bytes before after (Some stop) = ⊥

-- the feeder was stopped, which stops the search; or all data were sealed
abbrev pub EndsFed : Option Stop → Observation → Search → Checkpoint → ℕ → List ℕ → SinkSeen →
    SinkSeen → Option PartStop → Type 0
EndsFed (Some fed) o s from until bytes before after stop =
    (stop ≡ Some (Run fed)) × (after ≡ before)
EndsFed None o s from until bytes before after stop =
    EndsText o s from until bytes before after stop

-- ---- the search

-- what a stop, where there is one, says of the words, of the checkpoint and of the files
abbrev pub IsPartSaid : List (List ℕ) → Checkpoint → Told → Option Finished → Option PartStop →
    Type 0
IsPartSaid words from told blocks None = ⊤
IsPartSaid words from told blocks (Some (Run stop)) =
    IsSaid (searching words from) words told (Some stop)
IsPartSaid words from told blocks (Some (Refused refusal)) =
    IsRefused words from told blocks refusal

-- all that the outcome says but for the notes
pub record Ends (words : List (List ℕ)) (inputs : InputsSeen) (is_calm : Type 0)
    (out_before out_after : SinkSeen) (stop : Option PartStop) (blocks : Option Finished) :
    Type 0 where
  pub from : Checkpoint
  pub accepted : Contains later_statuses (end_status stop) → GoesOnFrom inputs.told words from
  pub held : is_calm → HoldsAll inputs.told (check_names words) → end_status stop ≡ 6 →
      GoesOnFrom inputs.told words from
  pub known : Contains statuses (end_status stop)
  pub written : WritesPart words from inputs.told out_before out_after (end_status stop)
  pub run : RunsAlone 13 (part_search words from) words inputs
      (is_calm × HoldsAll inputs.told (check_names words)) blocks (end_status stop)
  pub too_many : end_status stop ≡ 9 → ForPart words from inputs.told (IsCrowded words from)
  pub said : IsPartSaid words from inputs.told blocks stop
