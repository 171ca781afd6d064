-- A whole trace, and the answers to it.
-- Source: this project's choice.
use Rattle.std.specs.Prelude.{◌≡◌, ◌⊎◌, ⊤, ℕ, List, [], ◌∷◌, ◌++◌}
use Rattle.std.specs.List.{flat_map}
use Rattle.psr_base.specs.Written.{SinkSeen, WroteAll, WroteFront}
use Rattle.ring_core.specs.Machine.{Machine, Event, Answer, Runs, at_first}
use Rattle.ring_core.specs.declared.Shape.{Shape}
use Rattle.ring_trace.specs.Text.{trace_lines}
use Rattle.ring_trace.specs.Events.{IsRingLine, AsksFor, answer_line}

-- each line asks for one of the events, in order
abbrev pub AskFor : ℕ → List (List ℕ) → List (Event ℕ) → Type 0
AskFor readers [] [] = ⊤
AskFor readers (line ∷ lines) (event ∷ events) =
    AsksFor readers line event × AskFor readers lines events
AskFor readers [] (event ∷ events) = ⊥
AskFor readers (line ∷ lines) [] = ⊥

-- the text says what a new ring of this shape answers to the events that the lines ask for
pub record IsAnswered (shape : Shape) (lines : List (List ℕ)) (text : List ℕ) : Type 0 where
  pub events : List (Event ℕ)
  pub answers : List (Answer ℕ)
  pub after : Machine ℕ
  pub asked : AskFor shape.readers lines events
  pub runs : Runs shape.buffers shape.max_blocks (at_first ℕ shape.readers) events answers after
  pub said : text ≡ flat_map answer_line answers

-- each line of the file has its form, and the text answers them
pub record IsWhole (file text : List ℕ) : Type 0 where
  pub shape : Shape
  pub first : List ℕ
  pub lines : List (List ℕ)
  pub of_file : trace_lines file ≡ first ∷ lines
  pub ring : IsRingLine first shape
  pub answered : IsAnswered shape lines text

-- there is no first line, or it has not its form
abbrev pub HasNoRing : List ℕ → Type 0
HasNoRing file =
    (trace_lines file ≡ [])
    ⊎ ((first : List ℕ) × (lines : List (List ℕ)) × (trace_lines file ≡ first ∷ lines)
    × ((shape : Shape) → ¬ IsRingLine first shape))

-- a later line has not its form, and the text answers the lines before the first such line
pub record IsCutAt (file text : List ℕ) : Type 0 where
  pub shape : Shape
  pub first : List ℕ
  pub lines : List (List ℕ)
  pub bad : List ℕ
  pub later : List (List ℕ)
  pub of_file : trace_lines file ≡ first ∷ (lines ++ bad ∷ later)
  pub ring : IsRingLine first shape
  pub answered : IsAnswered shape lines text
  pub asks_for_none : (event : Event ℕ) → ¬ AsksFor shape.readers bad event

-- some line has not its form, or there is no line; the text answers the lines before it
abbrev pub IsCut : List ℕ → List ℕ → Type 0
IsCut file text = (HasNoRing file × (text ≡ [])) ⊎ IsCutAt file text

-- the answers to all lines of the file were appended
pub record AppendsAll (file : List ℕ) (old new : SinkSeen) : Type 0 where
  pub text : List ℕ
  pub whole : IsWhole file text
  pub wrote : WroteAll text old new

-- the answers to the lines before the first that has not its form were appended
pub record AppendsCut (file : List ℕ) (old new : SinkSeen) : Type 0 where
  pub text : List ℕ
  pub cut : IsCut file text
  pub wrote : WroteAll text old new

-- a front was appended of the answers to all lines, or to those before the first that has not its form
pub record AppendsFront (file : List ℕ) (old new : SinkSeen) : Type 0 where
  pub text : List ℕ
  pub answers : IsWhole file text ⊎ IsCut file text
  pub wrote : WroteFront text old new
