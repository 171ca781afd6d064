-- How a levelling that stopped is answered.
-- Source: this project's choice.
use Rattle.std.specs.Prelude.{ℕ, List, ◌++◌, codes, Option, Some, None}
use Rattle.std.specs.Fmt.{decimal}
use Rattle.channel_mask.specs.declared.fault.MaskFault.{MaskFault}
use Rattle.channel_mask.specs.declared.fault.MaskFault.TheVariants.{BadMask, OutOfRange, AllMasked}
use Rattle.channel_mask.specs.declared.fault.MaskFault.TheVariants as mask
use Rattle.level_words.specs.Table.{option_text}
use Rattle.level_words.specs.declared.fault.LevelFault.{LevelFault}
use Rattle.level_words.specs.declared.fault.LevelFault.TheVariants as words
use Rattle.run_outcome.specs.declared.stop.Stop.{Stop}
use Rattle.run_outcome.specs.declared.stop.Stop.TheVariants.{Words, Memory, Header}
use Rattle.run_outcome.specs.Texts.{status_of, note_of}
use Rattle.dada_model.specs.declared.key.Key.TheVariants.{Tsamp}
use Rattle.obs_plan.specs.declared.fault.ObsFault.TheVariants as obs
use Rattle.disk_feeder.specs.declared.answers.HeaderCause.TheVariants.{Fields}
use Rattle.drive_stream.specs.declared.stop.StreamStop.{StreamStop}
use Rattle.drive_stream.specs.declared.stop.StreamStop.TheVariants as stream
use Rattle.psr_level.specs.declared.refusal.LevelRefusal.{LevelRefusal}
use Rattle.psr_level.specs.declared.refusal.LevelRefusal.TheVariants as refusal
use Rattle.psr_level.specs.declared.stop.LevelStop.{LevelStop}
use Rattle.psr_level.specs.declared.stop.LevelStop.TheVariants.{Run, Value, Mask, NoRoom}

-- the exit status
abbrev pub level_status : LevelStop → ℕ
level_status (Run stop) = status_of stop
level_status (Value opt) = 2
level_status (Mask fault) = 12
level_status (NoRoom need size) = 3

abbrev pub end_status : Option LevelStop → ℕ
end_status None = 0
end_status (Some stop) = level_status stop

-- the line to the notes
abbrev pub mask_note : MaskFault → List ℕ
mask_note (BadMask place) = codes "mask refused: BadMask " ++ decimal place ++ codes "\n"
mask_note (OutOfRange channel channels) = codes "mask refused: OutOfRange " ++ decimal channel
    ++ codes " " ++ decimal channels ++ codes "\n"
mask_note AllMasked = codes "mask refused: AllMasked\n"
mask_note mask.Memory = codes "no memory\n"

abbrev pub level_note : LevelStop → List ℕ
level_note (Run stop) = note_of stop
level_note (Value opt) = codes "option " ++ option_text opt ++ codes " refused\n"
level_note (Mask fault) = mask_note fault
level_note (NoRoom need size) = codes "header of file 0 refused: Overfull " ++ decimal need
    ++ codes " " ++ decimal size ++ codes "\n"

-- the stop of words that say no settings
abbrev pub stop_of_words : LevelFault → LevelStop
stop_of_words words.Refused = Run Words
stop_of_words (words.OutOfRange opt) = Value opt
stop_of_words words.Memory = Run Memory

-- the stop at a TSAMP that no search takes
abbrev pub long_time : Stop
long_time = Header 0 (Fields (obs.OutOfRange Tsamp))

-- the stop of the stream
abbrev pub stop_of_stream : StreamStop LevelRefusal → LevelStop
stop_of_stream (stream.Run stop) = Run stop
stop_of_stream (stream.Refused refusal.LongTime) = Run long_time
stop_of_stream (stream.Refused (refusal.BadMask fault)) = Mask fault
stop_of_stream (stream.Refused (refusal.NoRoom need size)) = NoRoom need size
