-- A beam: its feeder and the reader of its one engine take turns. It holds no inputs: they are lent to it at each turn.
-- Source: this project's choice.
use Rattle.std.specs.Prelude.{◌≡◌, ℕ, ◌*◌, ◌≤◌, false, List, [], ◌∷◌, Option, Some}
use Rattle.psr_base.specs.Told.{Told}
use Rattle.dada_model.specs.Fields.{HeaderText}
use Rattle.ring_words.specs.declared.shape.RingShape.{RingShape}
use Rattle.search_engine.specs.Engine.{EngineState, most_fed}
use Rattle.disk_feeder.specs.declared.feeder.FeederSpace.{FeederSpace}
use Rattle.search_session.specs.declared.lone.LoneSession.{LoneSession}
use Rattle.search_session.specs.declared.lone_space.LoneSpace.{LoneSpace}
use Rattle.search_session.specs.Lone.{HasFileOpen, HasLoneEnded, IsLoneSpace, FeedsAlone, LoneBegins, LoneMoved, LoneOn, bank_in, lone_feeder, lone_bank, transfers_at}
use Rattle.session_readers.specs.Banks.{engines_of}
use Rattle.beam_set.specs.declared.space.BeamSpace.{BeamSpace}
use Rattle.beam_set.specs.declared.beam.Beam.{Beam}

-- ---- the parts of a beam

-- its session
abbrev pub session_in : Beam → LoneSession
session_in beam = beam.lone

-- its feeder, at rest
abbrev pub feeder_in : Beam → FeederSpace
feeder_in beam = lone_feeder (session_in beam)

-- its engine, alone in a list
abbrev pub engines_in : Beam → List (Option EngineState)
engines_in beam = engines_of (lone_bank (session_in beam))

-- where its feeder has a file open, so have these inputs
abbrev pub HasBeamFile : {I : Type 0} → (I → Type 0) → I → Beam → Type 0
HasBeamFile is_open lent beam = HasFileOpen is_open lent (session_in beam)

-- ---- its space

abbrev pub session_space : BeamSpace → LoneSpace
session_space space = space.lone

-- the engine of a space, alone in a list
abbrev pub engines_held : BeamSpace → List (Option EngineState)
engines_held space = engines_of (bank_in (session_space space))

-- the space of a beam with this engine: rings of this shape, of which the header is sealed
pub record IsBeamSpace (engine : EngineState) (shape : RingShape) (header : HeaderText)
    (space : BeamSpace) : Type 0 where
  pub engine_is : engines_held space ≡ Some engine ∷ []
  pub rings : IsLoneSpace (bank_in (session_space space)) shape header (session_space space)

-- Where its inputs tell this, the space and the feeder are those of one beam: the feeder reads one transfer, of which
-- it has accepted the first header; the engine was fed nothing, and may be fed all that the rings may carry.
pub record IsBeamReady (told : Told) (space : BeamSpace) (feeder : FeederSpace) : Type 0 where
  pub engine : EngineState
  pub shape : RingShape
  pub header : HeaderText
  pub space_is : IsBeamSpace engine shape header space
  pub feeds : FeedsAlone told shape header feeder
  pub one_transfer : transfers_at feeder ≡ 1
  pub unfed : engine.fed ≡ 0
  pub running : engine.has_ended ≡ false
  pub few : shape.max_blocks * shape.size ≤ most_fed

-- ---- its turns

-- where its inputs tell this, a beam can take turns
abbrev pub BeamOn : Told → Beam → Type 0
BeamOn told beam = LoneOn told (session_in beam)

-- n turns of its feeder and of its reader each, or fewer of one that ended. In this and the following: what inputs
-- tell, whether they are calm, and how many calls have failed.
abbrev pub BeamMoved : {I : Type 0} → (I → Told) → (I → Type 0) → (I → ℕ) → ℕ → I → Beam → I →
    Beam → Type 0
BeamMoved told is_calm faults n before old after new =
    LoneMoved told is_calm faults n before (session_in old) after (session_in new)

-- its feeder and its reader ended
abbrev pub HasBeamEnded : Beam → Type 0
HasBeamEnded beam = HasLoneEnded (session_in beam)

-- a beam with one engine before its first turn, where its inputs tell this
pub record BeamBegins (told : Told) (beam : Beam) : Type 0 where
  pub session : LoneBegins told (session_in beam)
  pub engine : EngineState
  pub engine_is : engines_in beam ≡ Some engine ∷ []
