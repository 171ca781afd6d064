-- How a search of several beams ends, before the notes.
-- Source: this project's choice.
use Rattle.std.specs.Prelude.{◌≡◌, ℕ, ◌<◌, ◌≤◌, ◌⊎◌, ⊤, List, [], ◌∷◌, length, slice_index_or, Option, Some, None, Contains}
use Rattle.psr_base.specs.Told.{Told, InputsSeen}
use Rattle.psr_base.specs.Written.{SinkSeen, WroteAll, WroteFront}
use Rattle.dada_model.specs.Observation.{Observation}
use Rattle.search_model.specs.declared.search.Search.{Search}
use Rattle.disk_feeder.specs.declared.answers.FeedEnd.{FeedEnd}
use Rattle.disk_feeder.specs.declared.answers.FeedEnd.TheVariants as feed
use Rattle.beam_set.specs.declared.ended.BeamEnd.{BeamEnd}
use Rattle.beam_set.specs.Laws.{BeamsHoldData}
use Rattle.beam_set.specs.Searched.{searched_beams_text}
use Rattle.run_outcome.specs.declared.stop.Stop.{Stop}
use Rattle.run_outcome.specs.declared.stop.Stop.TheVariants.{Header, Memory, ReadFault, Gap, TooLong, TooMany, SinkFault}
use Rattle.run_outcome.specs.Ends.{end_status}
use Rattle.run_outcome.specs.Runs.{IsStopOfWords}
use Rattle.run_outcome.specs.Outcomes.{JudgesWords}
use Rattle.psr_beams.specs.Words.{searching_beams}
use Rattle.psr_beams.specs.Seen.{told_in, told_at, calm_at, seen_at}
use Rattle.psr_beams.specs.Files.{ForSettings}
use Rattle.psr_beams.specs.Stops.{SaysOfBeams}
use Rattle.psr_beams.specs.Outcome.{ReadsNoData, FailsFirst, ReadsBeams, StopsAtBeams, WritesBeams}

-- ---- the ends of all beams

-- the stop of a beam that ended so at its data, or none
abbrev pub stop_at_data : ℕ → FeedEnd → Option Stop
stop_at_data beam (feed.Whole bytes) = None
stop_at_data beam feed.ReadFault = Some ReadFault
stop_at_data beam (feed.BadHeader file cause) = None
stop_at_data beam (feed.Gap file expected found) = None
stop_at_data beam (feed.TooLong limit) = Some (TooLong limit)

-- and of one that ended so at its header
abbrev pub stop_at_header : ℕ → FeedEnd → Option Stop
stop_at_header beam (feed.Whole bytes) = None
stop_at_header beam feed.ReadFault = None
stop_at_header beam (feed.BadHeader file cause) = Some (Header beam cause)
stop_at_header beam (feed.Gap file expected found) = Some (Gap beam expected found)
stop_at_header beam (feed.TooLong limit) = None

-- that of the beam of a slot, by one of these
abbrev pub slot_stop : (ℕ → FeedEnd → Option Stop) → ℕ → Option BeamEnd → Option Stop
slot_stop stop_of beam None = None
slot_stop stop_of beam (Some end) = stop_of beam end.feed

abbrev pub stop_in : (ℕ → FeedEnd → Option Stop) → List (Option BeamEnd) → ℕ → Option Stop
stop_in stop_of ends beam = slot_stop stop_of beam (slice_index_or ends beam None)

-- how many candidates its book counts
abbrev pub slot_count : Option BeamEnd → ℕ
slot_count None = 0
slot_count (Some end) = end.book.count

abbrev pub counted_in : List (Option BeamEnd) → ℕ → ℕ
counted_in ends beam = slot_count (slice_index_or ends beam None)

-- the lowest beam that stopped so has this stop
pub record StopsBy (stop_of : ℕ → FeedEnd → Option Stop) (ends : List (Option BeamEnd))
    (stop : Stop) : Type 0 where
  pub beam : ℕ
  pub there : beam < length ends
  pub is : stop_in stop_of ends beam ≡ Some stop
  pub earlier : (k : ℕ) → k < beam → stop_in stop_of ends k ≡ None

abbrev pub NoneStopsBy : (ℕ → FeedEnd → Option Stop) → List (Option BeamEnd) → Type 0
NoneStopsBy stop_of ends = (beam : ℕ) → beam < length ends → stop_in stop_of ends beam ≡ None

-- the lowest beam that stopped at its data has this stop; or none did, and the lowest that stopped at its header has it
abbrev pub StopsFirst : List (Option BeamEnd) → Stop → Type 0
StopsFirst ends stop = StopsBy stop_at_data ends stop
    ⊎ (NoneStopsBy stop_at_data ends × StopsBy stop_at_header ends stop)

abbrev pub NoneStops : List (Option BeamEnd) → Type 0
NoneStops ends = NoneStopsBy stop_at_data ends × NoneStopsBy stop_at_header ends

-- the lowest beam that counts more than the limit counts so many
pub record CountsTooMany (ends : List (Option BeamEnd)) (limit : ℕ) (stop : Stop) : Type 0 where
  pub beam : ℕ
  pub there : beam < length ends
  pub is : stop ≡ TooMany (counted_in ends beam) limit
  pub many : limit < counted_in ends beam
  pub earlier : (k : ℕ) → k < beam → counted_in ends k ≤ limit

abbrev pub NoneCountsTooMany : List (Option BeamEnd) → ℕ → Type 0
NoneCountsTooMany ends limit = (beam : ℕ) → beam < length ends → counted_in ends beam ≤ limit

-- what was written of the ends of beams that hold these data, by the stop that it came to
abbrev pub WritesFound : (List ℕ → Type 0) → (List ℕ → Type 0) → Option Stop → List ℕ → Type 0
WritesFound all front None text = all text
WritesFound all front (Some SinkFault) text = front text
WritesFound all front (Some stop) text = ⊥

-- no beam stopped, and none has too many candidates: the text is written, or its front at a fault
pub record EndsWritten (o : Observation) (s : Search) (within more : ℕ)
    (ends : List (Option BeamEnd)) (before after : SinkSeen) (stop : Option Stop) : Type 0 where
  pub whole : NoneStops ends
  pub few : NoneCountsTooMany ends s.max_candidates
  pub wrote : (data_of_beams : List (List ℕ)) → BeamsHoldData o s data_of_beams ends →
      WritesFound (λ text. WroteAll text before after) (λ text. WroteFront text before after) stop
      (searched_beams_text o s within more data_of_beams)
  pub kind : (stop ≡ None) ⊎ (stop ≡ Some SinkFault)

-- what the ends of all beams come to: the lowest beam that stopped stops the search; then the lowest that has too many
-- candidates does; and then the text is written
abbrev pub EndsBeams : Observation → Search → ℕ → ℕ → List (Option BeamEnd) → SinkSeen → SinkSeen →
    Option Stop → Type 0
EndsBeams o s within more ends before after stop =
    ((first : Stop) × (stop ≡ Some first) × StopsFirst ends first × (after ≡ before))
    ⊎ (((many : Stop) × (stop ≡ Some many) × NoneStops ends
    × CountsTooMany ends s.max_candidates many × (after ≡ before))
    ⊎ EndsWritten o s within more ends before after stop)

-- ---- the search

-- what a stop, where there is one, says of the words and of the files
abbrev pub IsSaid : List (List ℕ) → (ℕ → Told) → Option Stop → Type 0
IsSaid words told None = ⊤
IsSaid words told (Some stop) = IsStopOfWords searching_beams words stop
    × ForSettings words (λ s. SaysOfBeams told s stop)

-- all that the outcome says but for the notes
pub record Ends (words : List (List ℕ)) (inputs : ℕ → InputsSeen) (is_calm : ℕ → Type 0)
    (out_before out_after : SinkSeen) (stop : Option Stop) : Type 0 where
  pub known : Contains (0 ∷ 2 ∷ 3 ∷ 4 ∷ 5 ∷ 6 ∷ 7 ∷ 8 ∷ 9 ∷ 10 ∷ []) (end_status stop)
  pub written : WritesBeams words (told_in inputs) out_before out_after (end_status stop)
  pub judged : JudgesWords searching_beams words (end_status stop)
  pub read : ReadsBeams words inputs is_calm (end_status stop)
  pub stopped : StopsAtBeams words (told_in inputs) (end_status stop)
  pub said : IsSaid words (told_in inputs) stop

-- So it is over these inputs. Where there was no memory no data were read, and where inputs failed nothing came before.
pub record Leaves {I : Type 0} (told : I → Told) (is_calm : I → Type 0) (faults : I → ℕ)
    (words : List (List ℕ)) (before after : List I) (out_before out_after : SinkSeen)
    (stop : Option Stop) : Type 0 where
  pub ends : Ends words (seen_at told faults before after) (calm_at is_calm before) out_before
      out_after stop
  pub early : stop ≡ Some Memory → ReadsNoData words (told_at told before) (told_at told after)
  pub order : stop ≡ Some ReadFault → FailsFirst words (seen_at told faults before after)
      (told_at told after)
