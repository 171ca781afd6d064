-- How a search without masked channels ends, before the notes.
-- Source: this project's choice.
use Rattle.std.specs.Prelude.{◌≡◌, ◌≤◌, ◌<◌, ℕ, ⊤, Bool, List, length, Option, Some, None}
use Rattle.dada_model.specs.Observation.{Observation}
use Rattle.psr_base.specs.Told.{Told, InputsSeen}
use Rattle.psr_base.specs.Written.{SinkSeen, WroteAll, WroteFront}
use Rattle.ring_ends.specs.declared.finished.Finished.{Finished}
use Rattle.search_model.specs.declared.candidate.Candidate.{Candidate}
use Rattle.search_model.specs.declared.search.Search.{Search}
use Rattle.search_model.specs.Masks.{masked_candidates_of, masked_text}
use Rattle.search_engine.specs.Engine.{EngineState, HasFoundPart}
use Rattle.search_engine.specs.Scope.{kept_by}
use Rattle.channel_mask.specs.Masked.{SearchesKept}
use Rattle.run_outcome.specs.declared.stop.Stop.{Stop}
use Rattle.run_outcome.specs.declared.stop.Stop.TheVariants.{TooMany, SinkFault}
use Rattle.run_outcome.specs.Ends.{IsSaid}
use Rattle.run_outcome.specs.Runs.{Alone}
use Rattle.drive_lone.specs.declared.stop.LoneStop.{LoneStop}
use Rattle.drive_lone.specs.declared.stop.LoneStop.TheVariants.{Run, Unscoped}
use Rattle.psr_mask.specs.Masking.{RefusesMaskWord, mask_search}
use Rattle.psr_mask.specs.Notes.{end_status}
use Rattle.psr_mask.specs.Outcome.{Answered}
use Rattle.psr_mask.specs.declared.refusal.MaskRefusal.{MaskRefusal}

-- ---- the text

-- an engine has searched these data bytes in the channels that a mask keeps
pub record HoldsKept (o : Observation) (s : Search) (mask : List Bool) (bytes : List ℕ)
    (e : EngineState) : Type 0 where
  pub searches : SearchesKept o s mask e
  pub found : HasFoundPart o bytes e

-- how a search ends whose data were all sealed: its text is written, or its front at a fault, or there are too many
-- candidates
abbrev pub EndsKept : Search → List Candidate → List ℕ → SinkSeen → SinkSeen → Option Stop
    → Type 0
EndsKept s list text before after None =
    (length list ≤ s.max_candidates) × WroteAll text before after
EndsKept s list text before after (Some SinkFault) =
    (length list ≤ s.max_candidates) × WroteFront text before after
EndsKept s list text before after (Some (TooMany count limit)) =
    (length list ≡ count) × (limit ≡ s.max_candidates) × (limit < count) × (after ≡ before)
EndsKept s list text before after (Some stop) = ⊥

-- so it ends in the channels that a mask keeps
abbrev pub EndsMasked : Observation → Search → List Bool → List ℕ → SinkSeen → SinkSeen
    → Option Stop → Type 0
EndsMasked o s mask bytes = EndsKept s (masked_candidates_of o s (kept_by mask) bytes)
    (masked_text o s (kept_by mask) bytes)

-- the feeder was stopped, which stops the search; or all data were sealed
abbrev pub EndsFed : Option Stop → Observation → Search → List Bool → List ℕ → SinkSeen
    → SinkSeen → Option Stop → Type 0
EndsFed (Some fed) o s mask bytes before after stop = (stop ≡ Some fed) × (after ≡ before)
EndsFed None o s mask bytes before after stop = EndsMasked o s mask bytes before after stop

-- ---- the search

-- a stop of any run as one of a search alone
abbrev pub as_alone : Option Stop → Option (LoneStop MaskRefusal)
as_alone None = None
as_alone (Some stop) = Some (Run stop)

-- what its stop, where there is one, says of the words and of the files
abbrev pub IsSaidOf : List (List ℕ) → Told → Option (LoneStop MaskRefusal) → Type 0
IsSaidOf words told None = ⊤
IsSaidOf words told (Some (Run stop)) = IsSaid (Alone (mask_search words)) words told (Some stop)
IsSaidOf words told (Some (Unscoped refusal)) = RefusesMaskWord words told refusal

-- all that the outcome says but for the notes
pub record Ends (words : List (List ℕ)) (inputs : InputsSeen) (is_calm : Type 0)
    (out_before out_after : SinkSeen) (stop : Option (LoneStop MaskRefusal))
    (blocks : Option Finished) : Type 0 where
  pub answered : Answered words inputs is_calm out_before out_after blocks (end_status stop)
  pub said : IsSaidOf words inputs.told stop
