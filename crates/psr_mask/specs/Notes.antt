-- How a search without masked channels that stopped is answered.
-- Source: this project's choice.
use Rattle.std.specs.Prelude.{ℕ, List, ◌++◌, codes, Option, Some, None}
use Rattle.std.specs.Fmt.{decimal}
use Rattle.run_outcome.specs.Texts.{status_of}
use Rattle.drive_lone.specs.declared.stop.LoneStop.{LoneStop}
use Rattle.drive_lone.specs.declared.stop.LoneStop.TheVariants.{Run, Unscoped}
use Rattle.psr_mask.specs.declared.refusal.MaskRefusal.{MaskRefusal}
use Rattle.psr_mask.specs.declared.refusal.MaskRefusal.TheVariants.{BadMask, OutOfRange, AllMasked}

-- the status of a mask that is refused
abbrev pub mask_status : ℕ
mask_status = 12

-- the line to the notes
abbrev pub mask_note : MaskRefusal → List ℕ
mask_note (BadMask place) = codes "mask refused: BadMask " ++ decimal place ++ codes "\n"
mask_note (OutOfRange channel channels) = codes "mask refused: OutOfRange " ++ decimal channel
    ++ codes " " ++ decimal channels ++ codes "\n"
mask_note AllMasked = codes "mask refused: AllMasked\n"

-- the status of a search that came to a stop, or to none
abbrev pub end_status : Option (LoneStop MaskRefusal) → ℕ
end_status None = 0
end_status (Some (Run stop)) = status_of stop
end_status (Some (Unscoped refusal)) = mask_status
