-- How the search of a part that stopped is answered: its exit status, and the line of a refused checkpoint.
-- Source: this project's choice.
use Rattle.std.specs.Prelude.{ℕ, List, [], ◌∷◌, ◌++◌, Option, Some, None, codes}
use Rattle.std.specs.Fmt.{decimal}
use Rattle.warm_restart.specs.declared.checkpoint.CheckpointFault.{CheckpointFault}
use Rattle.warm_restart.specs.declared.checkpoint.CheckpointFault.TheVariants as fault
use Rattle.run_outcome.specs.declared.stop.Stop.TheVariants.{ReadFault}
use Rattle.run_outcome.specs.Texts.{status_of}
use Rattle.psr_part.specs.declared.stop.CheckpointRefusal.{CheckpointRefusal}
use Rattle.psr_part.specs.declared.stop.CheckpointRefusal.TheVariants.{Form, Place, Beyond}
use Rattle.psr_part.specs.declared.stop.PartStop.{PartStop}
use Rattle.psr_part.specs.declared.stop.PartStop.TheVariants.{Run, Refused}

-- the line of a refused checkpoint: its cause, and the cause's numbers
abbrev pub refusal_text : CheckpointRefusal → List ℕ
refusal_text Form = codes "checkpoint refused: Form\n"
refusal_text (Place place until) = codes "checkpoint refused: Place " ++ decimal place
    ++ codes " " ++ decimal until ++ codes "\n"
refusal_text (Beyond place spectra) = codes "checkpoint refused: Beyond " ++ decimal place
    ++ codes " " ++ decimal spectra ++ codes "\n"

-- the stop where no checkpoint was read
abbrev pub stop_of_checkpoint : CheckpointFault → PartStop
stop_of_checkpoint fault.Failed = Run ReadFault
stop_of_checkpoint fault.Form = Refused Form
stop_of_checkpoint (fault.Place place until) = Refused (Place place until)

-- the exit status: 13 where a checkpoint is refused, and else that of any run
abbrev pub status_of_part : PartStop → ℕ
status_of_part (Run stop) = status_of stop
status_of_part (Refused refusal) = 13

-- that of a search that came to a stop, or to none
abbrev pub end_status : Option PartStop → ℕ
end_status None = 0
end_status (Some stop) = status_of_part stop

-- there is no other status
abbrev pub statuses : List ℕ
statuses = 0 ∷ 2 ∷ 3 ∷ 4 ∷ 5 ∷ 6 ∷ 7 ∷ 8 ∷ 9 ∷ 10 ∷ 13 ∷ []
