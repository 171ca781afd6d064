-- How a stream that goes through a program to its output ends.
-- Source: this project's choice.
use Rattle.std.specs.Prelude.{⊤}
use Rattle.drive_stream.specs.declared.faults.OpenFault.{OpenFault}
use Rattle.drive_stream.specs.declared.faults.OpenFault.TheVariants as opening
use Rattle.drive_stream.specs.declared.faults.FinishFault.{FinishFault}
use Rattle.drive_stream.specs.declared.faults.FinishFault.TheVariants as finishing

-- where a call of the output failed: before the data or while they came; once all had come; or once they had stopped
-- early
pub data Phase : Type 0 where
  Midway : Phase
  AtEnd : Phase
  AtStop : Phase

-- all data came and were taken; they stopped early; a call of the output failed; or the program refuses them at their
-- end
pub data Ending (F : Type 0) : Type 0 where
  All : Ending F
  Early : Ending F
  Failed : Phase → Ending F
  Refused : F → Ending F

-- the ending at a fault of the last call
abbrev pub ending_of : {F : Type 0} → FinishFault F → Ending F
ending_of (finishing.Refused refusal) = Refused refusal
ending_of finishing.Failed = Failed AtEnd

-- what a fault of the first call says: it is the program's own refusal, or want of memory
abbrev pub ExplainsOpen : {F : Type 0} → (F → Type 0) → OpenFault F → Type 0
ExplainsOpen refuses (opening.Refused refusal) = refuses refusal
ExplainsOpen refuses opening.Memory = ⊤
