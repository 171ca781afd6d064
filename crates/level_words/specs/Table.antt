-- The table of options: their names, how a value is read, which values there are, and which one stands if none is given.
-- Source: this project's choice.
use Rattle.std.specs.Prelude.{ℕ, List, [], ◌∷◌, ◌++◌, codes}
use Rattle.option_rows.specs.declared.row.Reader.TheVariants.{Whole, Decimals}
use Rattle.option_rows.specs.declared.row.Row.{Row}
use Rattle.option_rows.specs.Rows.{row_between}
use Rattle.level_words.specs.declared.opt.Opt.{Opt}
use Rattle.level_words.specs.declared.opt.Opt.TheVariants.{Spectra, Average, Mask, Clip, Mean, Deviation, Most, MaxBytes, File}
use Rattle.level_words.specs.declared.opt.Flag.{Flag}
use Rattle.level_words.specs.declared.opt.Flag.TheVariants.{Fast, ZeroDm, Signed, HighByteFirst}

-- the options that take a value
abbrev pub valued_options : List Opt
valued_options = Spectra ∷ Average ∷ Mask ∷ Clip ∷ Mean ∷ Deviation ∷ Most ∷ MaxBytes ∷ []

-- all in the order in which they are judged
abbrev pub all_options : List Opt
all_options =
    Spectra ∷ Average ∷ Mask ∷ Clip ∷ Mean ∷ Deviation ∷ Most ∷ MaxBytes ∷ File ∷ []

abbrev pub all_flags : List Flag
all_flags = Fast ∷ ZeroDm ∷ Signed ∷ HighByteFirst ∷ []

-- the name of an option, without its dashes
abbrev pub option_name : Opt → List ℕ
option_name Spectra = codes "spectra"
option_name Average = codes "average"
option_name Mask = codes "mask"
option_name Clip = codes "clip"
option_name Mean = codes "mean"
option_name Deviation = codes "deviation"
option_name Most = codes "most"
option_name MaxBytes = codes "max-bytes"
option_name File = codes "FILE"

abbrev pub flag_name : Flag → List ℕ
flag_name Fast = codes "fast"
flag_name ZeroDm = codes "zero-dm"
flag_name Signed = codes "signed"
flag_name HighByteFirst = codes "high-byte-first"

-- an option as a user writes it
abbrev pub option_text : Opt → List ℕ
option_text File = codes "FILE"
option_text opt = codes "--" ++ option_name opt

-- The least value, the greatest and the one without a word: stretches in spectra; clip, mean and deviation in
-- thousandths; sizes in bytes. Nothing is clipped without a word. What mean, deviation and greatest value are without a word follows from the data. A mask is a text,
-- which is judged with the first header, and FILE has no value: its row is how many names there may be.
abbrev pub option_row : Opt → Row
option_row Spectra = row_between Whole 2 1048576 16384
option_row Average = row_between Whole 1 64 1
option_row Mask = row_between Whole 0 0 0
option_row Clip = row_between (Decimals 3) 0 1000000000 0
option_row Mean = row_between (Decimals 3) 0 65535000 0
option_row Deviation = row_between (Decimals 3) 0 1000000 0
option_row Most = row_between Whole 1 65535 65535
option_row MaxBytes = row_between Whole 0 281474976710656 1099511627776
option_row File = row_between Whole 1 65535 1
