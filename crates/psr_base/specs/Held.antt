-- What files that are held in memory tell.
-- Source: this project's choice.
use Rattle.std.specs.Prelude.{IsSome}
use Rattle.psr_base.specs.Told.{Told}
use Rattle.psr_base.specs.NamedFiles.{bytes_in, reading_of}
use Rattle.psr_base.specs.declared.held.HeldFiles.{HeldFiles}

-- all of them, what was read of those that were open, the open name, and the place in it
abbrev pub told_by : HeldFiles → Told
told_by held = record {
  bytes_under = bytes_in held.files.items;
  earlier = held.earlier.files;
  reading = reading_of held.files.items held.reading;
}

-- a file is open
abbrev pub IsReading : HeldFiles → Type 0
IsReading held = IsSome held.reading
