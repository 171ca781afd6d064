-- A set of beams, each with the inputs at its place of a list.
-- Source: this project's choice.
use Rattle.std.specs.Prelude.{◌≡◌, ℕ, ◌<◌, ◌≤◌, ⊤, List, length, slice_index_or, Option, Some, None}
use Rattle.psr_base.specs.Told.{Told}
use Rattle.search_engine.specs.Engine.{EngineState}
use Rattle.session_readers.specs.Banks.{HasEngine}
use Rattle.beam_set.specs.declared.ended.BeamEnd.{BeamEnd}
use Rattle.beam_set.specs.declared.beam.Beam.{Beam}
use Rattle.beam_set.specs.Beam.{BeamBegins, BeamMoved, BeamOn, HasBeamEnded, HasBeamFile, engines_in}
use Rattle.beam_set.specs.Answers.{BeamAnswers, IsBeamEnd}

-- ---- pairs: an element of a list, and that at its place of another, which may be longer

-- so it is with each pair
pub record EachPair {A B : Type 0} (P : A → B → Type 0) (xs : List A) (ys : List B) : Type 0 where
  pub count : length xs ≤ length ys
  pub each : (k : ℕ) (x : A) (y : B) → k < length xs →
      P (slice_index_or xs k x) (slice_index_or ys k y)

-- each pair moved so, from x and y to x' and y', and what has no partner stands
pub record PairsMoved {A B : Type 0} (R : B → A → B → A → Type 0) (ys : List B) (xs : List A)
    (ys' : List B) (xs' : List A) : Type 0 where
  pub count : length xs' ≡ length xs
  pub lent : length ys' ≡ length ys
  pub moved : (k : ℕ) (x : A) (y : B) → k < length xs →
      R (slice_index_or ys k y) (slice_index_or xs k x)
      (slice_index_or ys' k y)
      (slice_index_or xs' k x)
  pub others : (k : ℕ) (y : B) → length xs ≤ k → slice_index_or ys' k y ≡ slice_index_or ys k y

-- ---- the beam of a place

-- a beam is there, and begins over these inputs
abbrev pub SlotBegins : {I : Type 0} → (I → Told) → (I → Type 0) → Option Beam → I → Type 0
SlotBegins told is_open None lent = ⊥
SlotBegins told is_open (Some beam) lent =
    BeamBegins (told lent) beam × HasBeamFile is_open lent beam

-- a beam is there, and can take turns over these inputs
abbrev pub SlotOn : {I : Type 0} → (I → Told) → (I → Type 0) → Option Beam → I → Type 0
SlotOn told is_open None lent = ⊥
SlotOn told is_open (Some beam) lent = BeamOn (told lent) beam × HasBeamFile is_open lent beam

-- it took n turns, or fewer where it ended
abbrev pub SlotMoved : {I : Type 0} → (I → Told) → (I → Type 0) → (I → ℕ) → ℕ → I →
    Option Beam → I → Option Beam → Type 0
SlotMoved told is_calm faults n before None after None = ⊤
SlotMoved told is_calm faults n before None after (Some new) = ⊥
SlotMoved told is_calm faults n before (Some old) after None = ⊥
SlotMoved told is_calm faults n before (Some old) after (Some new) =
    BeamMoved told is_calm faults n before old after new

-- it ended
abbrev pub HasSlotEnded : Option Beam → Type 0
HasSlotEnded None = ⊤
HasSlotEnded (Some beam) = HasBeamEnded beam

-- it can be closed: it ended, and has an engine
abbrev pub CanClose : Option Beam → Type 0
CanClose None = ⊤
CanClose (Some beam) = ((told : Told) × BeamOn told beam) × HasBeamEnded beam
    × ((e : EngineState) × HasEngine (engines_in beam) 0 e)

-- it was closed
abbrev pub IsSlotEnd : Option Beam → Option BeamEnd → Type 0
IsSlotEnd None None = ⊤
IsSlotEnd None (Some end) = ⊥
IsSlotEnd (Some beam) None = ⊥
IsSlotEnd (Some beam) (Some end) = IsBeamEnd beam end

-- what it came to
abbrev pub SlotAnswers : {I : Type 0} → (I → Told) → (I → Type 0) → (I → ℕ) → Option Beam → I → I →
    Option BeamEnd → Type 0
SlotAnswers told is_calm faults (Some start) before after (Some end) =
    BeamAnswers told is_calm faults start before after end
SlotAnswers told is_calm faults _ before after _ = ⊥

-- ---- all beams

-- each beam is there, and begins over the inputs at its place
abbrev pub SetBegins : {I : Type 0} → (I → Told) → (I → Type 0) → List (Option Beam) → List I →
    Type 0
SetBegins told is_open beams inputs = EachPair (SlotBegins told is_open) beams inputs

-- each beam was closed
pub record AreSetEnds (beams : List (Option Beam)) (ends : List (Option BeamEnd)) : Type 0 where
  pub count : length ends ≡ length beams
  pub each : (b : ℕ) → b < length beams →
      IsSlotEnd (slice_index_or beams b None) (slice_index_or ends b None)

-- Each beam came to its end over the inputs at its place, which were `before` and are `after`. No other inputs changed.
pub record SetAnswers {I : Type 0} (told : I → Told) (is_calm : I → Type 0) (faults : I → ℕ)
    (beams : List (Option Beam)) (before after : List I) (ends : List (Option BeamEnd)) :
    Type 0 where
  pub count : length ends ≡ length beams
  pub inputs_count : length after ≡ length before
  pub each : (b : ℕ) (lent : I) → b < length beams →
      SlotAnswers told is_calm faults (slice_index_or beams b None)
      (slice_index_or before b lent)
      (slice_index_or after b lent)
      (slice_index_or ends b None)
  pub others : (b : ℕ) (lent : I) → length beams ≤ b →
      slice_index_or after b lent ≡ slice_index_or before b lent
