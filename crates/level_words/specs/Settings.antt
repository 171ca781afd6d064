-- The settings of the words, and why there are none.
-- Source: this project's choice.
use Rattle.std.specs.Prelude.{◌≡◌, ◌≤◌, false, List, [], ◌∷◌, string_bytes, Some, None}
use Rattle.std.specs.Option.{ForSome}
use Rattle.clap.specs.Walk.{Row as Found, Text}
use Rattle.clap.specs.declared.error.kind.ErrorKind.{ErrorKind}
use Rattle.clap.specs.declared.error.kind.ErrorKind.TheVariants.{OutOfMemory}
use Rattle.search_words.specs.Settings.{RunSeen, RunInRange, run_seen}
use Rattle.level_words.specs.declared.opt.Opt.TheVariants.{Spectra, Average, Clip, Mean, Deviation, Most, MaxBytes}
use Rattle.level_words.specs.declared.opt.Flag.TheVariants.{Fast, ZeroDm, Signed, HighByteFirst}
use Rattle.level_words.specs.declared.settings.LevelOptions.{LevelOptions}
use Rattle.level_words.specs.declared.settings.LevelSettings.{LevelSettings}
use Rattle.level_words.specs.declared.fault.LevelFault.{LevelFault}
use Rattle.level_words.specs.declared.fault.LevelFault.TheVariants.{Refused, OutOfRange, Memory}
use Rattle.level_words.specs.Command.{TakesWords, matches_on}
use Rattle.level_words.specs.Values.{option_number, given_number, is_given, mask_text, files_of, first_out_of_range}

-- the settings, with texts as their bytes
pub record LevelSeen : Type 0 where
  pub options : LevelOptions
  pub mask : Text
  pub run : RunSeen

abbrev pub level_seen : LevelSettings → LevelSeen
level_seen s = record { options = s.options; mask = string_bytes s.mask; run = run_seen s.run }

-- every setting lies in its range
pub record LevelInRange (s : LevelSeen) : Type 0 where
  pub least_spectra : 2 ≤ s.options.spectra
  pub most_spectra : s.options.spectra ≤ 1048576
  pub least_average : 1 ≤ s.options.average
  pub most_average : s.options.average ≤ 64
  pub clip : ForSome s.options.clip (λ n. n ≤ 1000000000)
  pub mean : ForSome s.options.mean (λ n. n ≤ 65535000)
  pub deviation : ForSome s.options.deviation (λ n. n ≤ 1000000)
  pub most : ForSome s.options.most (λ n. n ≤ 65535)
  pub run : RunInRange s.run

abbrev pub options_of : List Found → LevelOptions
options_of found = record {
  spectra = option_number found Spectra;
  average = option_number found Average;
  clip = given_number found Clip;
  zero_dm = is_given found ZeroDm;
  mean = given_number found Mean;
  deviation = given_number found Deviation;
  most = given_number found Most;
  is_fast = is_given found Fast;
  signed = is_given found Signed;
  high_byte_first = is_given found HighByteFirst;
}

-- one transfer, that is not recorded, in blocks of 65536 bytes
abbrev pub run_of : List Found → RunSeen
run_of found = record {
  search = tt;
  buffers = 2;
  size = 65536;
  hands = 1;
  turns = 1;
  recording = false;
  file_size = 1;
  max_bytes = option_number found MaxBytes;
  names = files_of found;
  starts = 0 ∷ [];
}

abbrev pub settings_of : List Found → LevelSeen
settings_of found =
    record { options = options_of found; mask = mask_text found; run = run_of found }

-- the words say the settings: clap takes them, each value is in its range, and these are the values
pub record SayLevel (words : List Text) (settings : LevelSeen) : Type 0 where
  pub taken : TakesWords words
  pub in_range : first_out_of_range (matches_on words) ≡ None
  pub values : settings ≡ settings_of (matches_on words)

-- the fault of a kind of clap's errors
abbrev pub fault_of_kind : ErrorKind → LevelFault
fault_of_kind OutOfMemory = Memory
fault_of_kind _ = Refused

-- what a fault of clap says of the words
abbrev pub ExplainsClap : List Text → LevelFault → Type 0
ExplainsClap words Refused = ¬ TakesWords words
ExplainsClap words (OutOfRange opt) = ⊥
ExplainsClap words Memory = Unit {0}

-- what a fault says of the words
abbrev pub ExplainsLevel : List Text → LevelFault → Type 0
ExplainsLevel words Refused = ¬ TakesWords words
ExplainsLevel words (OutOfRange opt) =
    TakesWords words × (first_out_of_range (matches_on words) ≡ Some opt)
ExplainsLevel words Memory = Unit {0}
