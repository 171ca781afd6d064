-- The settings of the words, and why there are none.
-- Source: this project's choice.
use Rattle.std.specs.Prelude.{◌≡◌, ◌≤◌, ℕ, length, Bool, true, false, List, map, string_bytes, Some, None, codes}
use Rattle.std.specs.Option.{option_map_or}
use Rattle.std.specs.Str.{bytes_eq}
use Rattle.clap.specs.Walk.{Row as Found, Text, first_of}
use Rattle.clap.specs.declared.error.kind.ErrorKind.{ErrorKind}
use Rattle.clap.specs.declared.error.kind.ErrorKind.TheVariants.{OutOfMemory}
use Rattle.search_model.specs.declared.search.Search.{Search}
use Rattle.search_model.specs.Search.{SettingsInRange}
use Rattle.search_words.specs.declared.opt.Opt.TheVariants.{MaxDelay, MinDelay, Snr, Mean, Sd, Widths, FoldMin, FoldMax, FoldRows, FoldStep, Buffers, Size, Chunk, Shards, Hands, Turns, FileSize, MaxBytes, MaxCandidates}
use Rattle.search_words.specs.declared.table.Program.{Program}
use Rattle.search_words.specs.declared.table.Program.TheVariants.{PsrSearch, PsrRecord}
use Rattle.search_words.specs.declared.settings.RunSettings.{RunSettings}
use Rattle.search_words.specs.declared.settings.Settings.{Settings}
use Rattle.search_words.specs.declared.fault.WordFault.{WordFault}
use Rattle.search_words.specs.declared.fault.WordFault.TheVariants.{Refused, OutOfRange, Memory}
use Rattle.search_words.specs.Command.{TakesWords, matches_on}
use Rattle.search_words.specs.Values.{option_number, files_of, first_out_of_range}
use Rattle.search_words.specs.Transfers.{AreTransferStarts, file_names, starts_in}

-- the settings, with the names as texts; what they have for a search is an S
pub record SettingsOf (S : Type 0) : Type 0 where
  pub search : S
  pub buffers : ℕ
  pub size : ℕ
  pub hands : ℕ
  pub turns : ℕ
  pub recording : Bool
  pub file_size : ℕ
  pub max_bytes : ℕ
  pub names : List Text
  -- how many names stand before each transfer
  pub starts : List ℕ

-- those of a search
abbrev pub SettingsSeen : Type 0
SettingsSeen = SettingsOf Search

-- and those of a run alone, whatever it is for
abbrev pub RunSeen : Type 0
RunSeen = SettingsOf (Unit {0})

-- the settings of a run, with this for a search
abbrev pub with_search : {S T : Type 0} → S → SettingsOf T → SettingsOf S
with_search search s = record {
  search = search;
  buffers = s.buffers;
  size = s.size;
  hands = s.hands;
  turns = s.turns;
  recording = s.recording;
  file_size = s.file_size;
  max_bytes = s.max_bytes;
  names = s.names;
  starts = s.starts;
}

-- every setting of a run lies in its range
pub record RunInRange (s : RunSeen) : Type 0 where
  pub least_buffers : 2 ≤ s.buffers
  pub most_buffers : s.buffers ≤ 64
  pub least_size : 1 ≤ s.size
  pub most_size : s.size ≤ 16777216
  pub least_hands : 1 ≤ s.hands
  pub most_hands : s.hands ≤ 9
  pub least_turns : 1 ≤ s.turns
  pub most_turns : s.turns ≤ 1048576
  pub least_file_size : 1 ≤ s.file_size
  pub most_file_size : s.file_size ≤ 1099511627776
  pub most_bytes : s.max_bytes ≤ 281474976710656
  pub most_names : length s.names ≤ 65535
  pub most_transfers : length s.starts ≤ 8
  pub transfers : AreTransferStarts s.starts (length s.names)

-- and so does every setting of a search
pub record AllInRange (s : SettingsSeen) : Type 0 where
  pub search : SettingsInRange s.search
  pub run : RunInRange (with_search tt s)

-- what the settings of a run are seen as
abbrev pub run_seen : RunSettings → RunSeen
run_seen s = record {
  search = tt;
  buffers = s.buffers;
  size = s.size;
  hands = s.hands;
  turns = s.turns;
  recording = s.recording;
  file_size = s.file_size;
  max_bytes = s.max_bytes;
  names = map string_bytes s.names.items;
  starts = s.starts.items;
}

-- and those of a search
abbrev pub settings_seen : Settings → SettingsSeen
settings_seen s = with_search s.search (run_seen s.run)

-- the words of psr_search say a search, and those of psr_record none
abbrev pub search_of : List Found → Search
search_of found = record {
  min_delay = option_number PsrSearch found MinDelay;
  max_delay = option_number PsrSearch found MaxDelay;
  widest = option_number PsrSearch found Widths;
  fold_min = option_number PsrSearch found FoldMin;
  fold_max = option_number PsrSearch found FoldMax;
  fold_rows = option_number PsrSearch found FoldRows;
  fold_step = option_number PsrSearch found FoldStep;
  chunk = option_number PsrSearch found Chunk;
  shards = option_number PsrSearch found Shards;
  max_candidates = option_number PsrSearch found MaxCandidates;
  mean = option_number PsrSearch found Mean;
  sd = option_number PsrSearch found Sd;
  snr = option_number PsrSearch found Snr;
}

abbrev pub no_search : List Found → Unit {0}
no_search found = tt

-- psr_search records where the flag was given, and psr_record always
abbrev pub is_recording : Program → List Found → Bool
is_recording PsrSearch found =
    option_map_or (λ text. bytes_eq text (codes "true")) (first_of (codes "record") found) false
is_recording PsrRecord found = true

-- what was found, with this for a search
abbrev pub settings_of : {S : Type 0} → (List Found → S) → Program → List Found → SettingsOf S
settings_of search program found = record {
  search = search found;
  buffers = option_number program found Buffers;
  size = option_number program found Size;
  hands = option_number program found Hands;
  turns = option_number program found Turns;
  recording = is_recording program found;
  file_size = option_number program found FileSize;
  max_bytes = option_number program found MaxBytes;
  names = file_names (files_of found);
  starts = starts_in (files_of found);
}

-- the words of the program say the settings: clap takes them, each value is in its range, and these are the values
pub record SaySettings {S : Type 0} (search : List Found → S)
    (program : Program) (words : List Text) (settings : SettingsOf S)
    : Type 0 where
  pub taken : TakesWords program words
  pub in_range : first_out_of_range program (matches_on program words) ≡ None
  pub values : settings ≡ settings_of search program (matches_on program words)

-- the fault of a kind of clap's errors
abbrev pub fault_of_kind : ErrorKind → WordFault
fault_of_kind OutOfMemory = Memory
fault_of_kind _ = Refused

-- what a fault says of the words
abbrev pub ExplainsWords : Program → List Text → WordFault → Type 0
ExplainsWords program words Refused = ¬ TakesWords program words
ExplainsWords program words (OutOfRange opt) =
    TakesWords program words × (first_out_of_range program (matches_on program words) ≡ Some opt)
ExplainsWords program words Memory = Unit {0}

-- the settings that the words of psr_search say, and those of psr_record; and what a fault says of them
abbrev pub SaySearch : List Text → SettingsSeen → Type 0
SaySearch = SaySettings search_of PsrSearch

abbrev pub SayRecord : List Text → RunSeen → Type 0
SayRecord = SaySettings no_search PsrRecord

abbrev pub ExplainsSearch : List Text → WordFault → Type 0
ExplainsSearch = ExplainsWords PsrSearch

abbrev pub ExplainsRecord : List Text → WordFault → Type 0
ExplainsRecord = ExplainsWords PsrRecord

-- every value of settings that words say lies in its range
pub record SaidIsInRange : Type 0 where
  pub search : (words : List Text) (s : SettingsSeen) → SaySearch words s → AllInRange s
  pub recording : (words : List Text) (s : RunSeen) → SayRecord words s → RunInRange s
