-- The table of options: their names, which numbers are values, and which one stands where no word gives one.
-- Source: this project's choice.
use Rattle.std.specs.Prelude.{ℕ, List, [], ◌∷◌, codes}
use Rattle.option_rows.specs.declared.row.Reader.TheVariants.{Whole}
use Rattle.option_rows.specs.declared.row.Limits.TheVariants.{Either}
use Rattle.option_rows.specs.declared.row.Row.{Row}
use Rattle.option_rows.specs.Rows.{row_between}
use Rattle.psr_make.specs.declared.opt.Opt.{Opt}
use Rattle.psr_make.specs.declared.opt.Opt.TheVariants.{Number, Nchan, Spectra, Delay, Period, Height, Nbit, Npol}

-- the options in the order in which their values are judged
abbrev pub all_options : List Opt
all_options = Number ∷ Nchan ∷ Spectra ∷ Delay ∷ Period ∷ Height ∷ Nbit ∷ Npol ∷ []

-- the name of an option, without its dashes
abbrev pub option_name : Opt → List ℕ
option_name Number = codes "number"
option_name Nchan = codes "nchan"
option_name Spectra = codes "spectra"
option_name Delay = codes "delay"
option_name Period = codes "period"
option_name Height = codes "height"
option_name Nbit = codes "nbit"
option_name Npol = codes "npol"

-- the least value, the greatest and the one without a word; delay and period are in spectra
abbrev pub option_row : Opt → Row
option_row Number = row_between Whole 0 9223372036854775807 0
option_row Nchan = row_between Whole 2 4096 64
option_row Spectra = row_between Whole 0 1048576 4096
option_row Delay = row_between Whole 0 8192 64
option_row Period = row_between Whole 1 1048576 256
option_row Height = row_between Whole 0 200 2
option_row Nbit = record { reader = Whole; limits = Either 8 16; default = 8 }
option_row Npol = row_between Whole 1 2 1
