-- The table of options: their names, how a value is read, which values there are, and which one stands where no word
-- gives one.
-- Source: this project's choice.
use Rattle.std.specs.Prelude.{ℕ, Bool, true, false, List, [], ◌∷◌, codes}
use Rattle.option_rows.specs.declared.row.Reader.TheVariants.{Whole, Decimals}
use Rattle.option_rows.specs.declared.row.Limits.TheVariants.{BoxWidth}
use Rattle.option_rows.specs.declared.row.Row.{Row}
use Rattle.option_rows.specs.Rows.{row_between}
use Rattle.search_words.specs.declared.opt.Opt.{Opt}
use Rattle.search_words.specs.declared.opt.Opt.TheVariants.{MaxDelay, MinDelay, Snr, Mean, Sd, Widths, FoldMin, FoldMax, FoldRows, FoldStep, Buffers, Size, Chunk, Shards, Hands, Turns, FileSize, MaxBytes, MaxCandidates, File}
use Rattle.search_words.specs.declared.table.Program.{Program}
use Rattle.search_words.specs.declared.table.Program.TheVariants.{PsrSearch, PsrRecord}

-- the options in the order in which their values are judged
abbrev pub all_options : List Opt
all_options =
    MaxDelay ∷ MinDelay ∷ Snr ∷ Mean ∷ Sd ∷ Widths ∷ FoldMin ∷ FoldMax ∷ FoldRows ∷ FoldStep
    ∷ Buffers ∷ Size ∷ Chunk ∷ Shards ∷ Hands ∷ Turns
    ∷ FileSize ∷ MaxBytes ∷ MaxCandidates ∷ File ∷ []

-- the name of an option, without its dashes
abbrev pub option_name : Opt → List ℕ
option_name MaxDelay = codes "max-delay"
option_name MinDelay = codes "min-delay"
option_name Snr = codes "snr"
option_name Mean = codes "mean"
option_name Sd = codes "sd"
option_name Widths = codes "widths"
option_name FoldMin = codes "fold-min"
option_name FoldMax = codes "fold-max"
option_name FoldRows = codes "fold-rows"
option_name FoldStep = codes "fold-step"
option_name Buffers = codes "buffers"
option_name Size = codes "size"
option_name Chunk = codes "chunk"
option_name Shards = codes "shards"
option_name Hands = codes "hands"
option_name Turns = codes "turns"
option_name FileSize = codes "file-size"
option_name MaxBytes = codes "max-bytes"
option_name MaxCandidates = codes "max-candidates"
option_name File = codes "FILE"

-- The least value, the greatest and the one without a word: delays, widths, periods and chunk in spectra, the threshold
-- in hundredths, mean and deviation in thousandths, sizes in bytes. The mean and the deviation are required: no
-- search takes what stands in their rows. FILE has no value: its row is how many names there may be, and `files_fit`
-- judges them.
abbrev pub option_row : Opt → Row
option_row MaxDelay = row_between Whole 0 8192 256
option_row MinDelay = row_between Whole 0 8192 0
option_row Snr = row_between (Decimals 2) 1 100000 700
option_row Mean = row_between (Decimals 3) 0 200000000 0
option_row Sd = row_between (Decimals 3) 1 200000000 1000
option_row Widths = record { reader = Whole; limits = BoxWidth; default = 8 }
option_row FoldMin = row_between Whole 2 1048576 2
option_row FoldMax = row_between Whole 0 1048576 0
option_row FoldRows = row_between Whole 1 12 6
option_row FoldStep = row_between Whole 1 8192 64
option_row Buffers = row_between Whole 2 64 4
option_row Size = row_between Whole 1 16777216 524288
option_row Chunk = row_between Whole 1 65536 1024
option_row Shards = row_between Whole 1 7 1
option_row Hands = row_between Whole 1 9 1
option_row Turns = row_between Whole 1 1048576 64
option_row FileSize = row_between Whole 1 1099511627776 1073741824
option_row MaxBytes = row_between Whole 0 281474976710656 1099511627776
option_row MaxCandidates = row_between Whole 0 1048576 65536
option_row File = row_between Whole 1 65535 1

-- the options of recording, which both programs have
abbrev pub is_shared : Opt → Bool
is_shared Buffers = true
is_shared Size = true
is_shared Hands = true
is_shared Turns = true
is_shared FileSize = true
is_shared MaxBytes = true
is_shared _ = false

-- whether a program has an option that takes a value
abbrev pub offers : Program → Opt → Bool
offers program File = false
offers PsrSearch opt = true
offers PsrRecord opt = is_shared opt

-- whether a program has to be given it
abbrev pub demands : Program → Opt → Bool
demands PsrSearch Mean = true
demands PsrSearch Sd = true
demands program opt = false
