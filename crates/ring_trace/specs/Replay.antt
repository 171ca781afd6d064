-- How far a trace was replayed.
-- Source: this project's choice.
use Rattle.std.specs.Prelude.{◌≡◌, ℕ, List, ◌∷◌, ◌++◌}
use Rattle.std.specs.List.{flat_map}
use Rattle.ring_core.specs.Machine.{Event, Answer, Runs}
use Rattle.ring_core.specs.State.{CoreState, Steps}
use Rattle.ring_trace.specs.Events.{AsksFor, answer_line}
use Rattle.ring_trace.specs.Trace.{AskFor}

-- the line asked for an event, which moved the ring, and its answer was put behind the text
pub record IsStep (readers : ℕ) (line : List ℕ) (old new : CoreState)
    (before text : List ℕ) : Type 0 where
  pub event : Event ℕ
  pub answer : Answer ℕ
  pub asked : AsksFor readers line event
  pub steps : Steps old event answer new
  pub said : text ≡ before ++ answer_line answer

-- the lines asked for events, which moved the ring, and the text says the answers
pub record IsReplayed (readers : ℕ) (old : CoreState) (lines : List (List ℕ)) (new : CoreState)
    (text : List ℕ) : Type 0 where
  pub events : List (Event ℕ)
  pub answers : List (Answer ℕ)
  pub asked : AskFor readers lines events
  pub shape : new.shape ≡ old.shape
  pub runs : Runs old.shape.buffers old.shape.max_blocks old.machine events answers new.machine
  pub said : text ≡ flat_map answer_line answers

-- the lines before the first that asks for no event were replayed
pub record ReplaysSome (readers : ℕ) (old : CoreState) (all : List (List ℕ)) (new : CoreState)
    (text : List ℕ) : Type 0 where
  pub lines : List (List ℕ)
  pub bad : List ℕ
  pub later : List (List ℕ)
  pub parts : all ≡ lines ++ bad ∷ later
  pub replayed : IsReplayed readers old lines new text
  pub asks_for_none : (event : Event ℕ) → ¬ AsksFor readers bad event
