-- Where no option is out of its range, each value is in its row.
use Rattle.std.proofs.Common.{◌≡◌, ℕ, ◌<◌, ◌≤◌, true, List, length, get_or, refl, arith, lit<}
use Rattle.std.specs.Prelude.{None, is_some, nat_le}
use Rattle.std.proofs.lemmas.Bool.{and_parts, leb-true}
use Rattle.clap.specs.Walk.{Row as Found}
use Rattle.search_model.specs.Search.{SettingsInRange}
use Rattle.option_rows.specs.declared.row.Limits.TheVariants.{Between}
use Rattle.option_rows.specs.Rows.{limits_allow}
use Rattle.option_rows.specs.Laws.{ValuesAreAllowed, NoneFails}
use Rattle.search_words.specs.declared.opt.Opt.{Opt}
use Rattle.search_words.specs.declared.opt.Opt.TheVariants.{MaxDelay, MinDelay, Snr, Mean, Sd, Widths, FoldMin, FoldMax, FoldRows, FoldStep, Buffers, Size, Chunk, Shards, Hands, Turns, FileSize, MaxBytes, MaxCandidates, File}
use Rattle.search_words.specs.declared.table.Program.{Program}
use Rattle.search_words.specs.declared.table.Program.TheVariants.{PsrSearch}
use Rattle.search_words.specs.Table.{all_options, option_row}
use Rattle.search_words.specs.Values.{option_value, option_number, given_word, is_in_range, first_out_of_range, files_of}
use Rattle.search_words.specs.Transfers.{file_names, transfers_in}
use Rattle.search_words.proofs.Starts.{starts_counted, are_starts}
use Rattle.search_words.specs.Settings.{AllInRange, RunInRange, search_of, no_search, settings_of}

pub in_range_at : NoneFails Opt → (program : Program) (found : List Found) → first_out_of_range program found ≡ None →
    (i : ℕ) → i < 20 → is_in_range program found (get_or all_options i File) ≡ true
in_range_at passing program found none i within = passing (is_in_range program found) all_options none i File within

default_allowed : (opt : Opt) → limits_allow (option_row opt).limits (option_row opt).default ≡ true
default_allowed MaxDelay = refl
default_allowed MinDelay = refl
default_allowed Snr = refl
default_allowed Mean = refl
default_allowed Sd = refl
default_allowed Widths = refl
default_allowed FoldMin = refl
default_allowed FoldMax = refl
default_allowed FoldRows = refl
default_allowed FoldStep = refl
default_allowed Buffers = refl
default_allowed Size = refl
default_allowed Chunk = refl
default_allowed Shards = refl
default_allowed Hands = refl
default_allowed Turns = refl
default_allowed FileSize = refl
default_allowed MaxBytes = refl
default_allowed MaxCandidates = refl
default_allowed File = refl

-- a value is one that its limits allow
allowed : ValuesAreAllowed → (program : Program) (found : List Found) (opt : Opt) →
    is_some (option_value program found opt) ≡ true →
    limits_allow (option_row opt).limits (option_number program found opt) ≡ true
allowed law program found opt some = law (option_row opt) (given_word program found opt) (default_allowed opt) some

between_parts : (least most n : ℕ) → limits_allow (Between least most) n ≡ true → (least ≤ n) × (n ≤ most)
between_parts least most n e =
    let both = and_parts (nat_le least n) (nat_le n most) e in (leb-true least n both.0, leb-true n most both.1)

-- where each value is in its range, the search is
pub search_in_range : NoneFails Opt → ValuesAreAllowed → (found : List Found) → first_out_of_range PsrSearch found ≡ None →
    SettingsInRange (search_of found)
search_in_range passing law found none =
    let program = PsrSearch in
    let at = in_range_at passing program found none in
    let max_delay = between_parts 0 8192 _ (allowed law program found MaxDelay (at 0 (lit< tt))) in
    let min_delay = and_parts _ _ (at 1 (lit< tt)) in
    let snr = between_parts 1 100000 _ (allowed law program found Snr (at 2 (lit< tt))) in
    let mean = between_parts 0 200000000 _ (allowed law program found Mean (at 3 (lit< tt))) in
    let sd = between_parts 1 200000000 _ (allowed law program found Sd (at 4 (lit< tt))) in
    let fold_min = between_parts 2 1048576 _ (allowed law program found FoldMin (at 6 (lit< tt))) in
    let fold_max = between_parts 0 1048576 _ (allowed law program found FoldMax (at 7 (lit< tt))) in
    let fold_rows = between_parts 1 12 _ (allowed law program found FoldRows (at 8 (lit< tt))) in
    let fold_step = between_parts 1 8192 _ (allowed law program found FoldStep (at 9 (lit< tt))) in
    let chunk = between_parts 1 65536 _ (allowed law program found Chunk (at 12 (lit< tt))) in
    let shards = between_parts 1 7 _ (allowed law program found Shards (at 13 (lit< tt))) in
    let candidates = between_parts 0 1048576 _ (allowed law program found MaxCandidates (at 18 (lit< tt))) in
    record {
      delays = record {
        rise = leb-true _ _ min_delay.1;
        most = max_delay.1;
        widest = allowed law program found Widths (at 5 (lit< tt));
      };
      folds = record {
        least_min = fold_min.0;
        most_min = fold_min.1;
        most_max = fold_max.1;
        least_rows = fold_rows.0;
        most_rows = fold_rows.1;
        least_step = fold_step.0;
        most_step = fold_step.1;
      };
      parts = record {
        least_chunk = chunk.0;
        most_chunk = chunk.1;
        least_shards = shards.0;
        most_shards = shards.1;
        most_candidates = candidates.1;
      };
      noise = record {
        most_mean = mean.1;
        least_sd = sd.0;
        most_sd = sd.1;
        least_snr = snr.0;
        most_snr = snr.1;
      };
    }

-- and so is every setting of a run
pub run_in_range : NoneFails Opt → ValuesAreAllowed → (program : Program) (found : List Found) → first_out_of_range program found ≡ None →
    RunInRange (settings_of no_search program found)
run_in_range passing law program found none =
    let at = in_range_at passing program found none in
    let between = λ (opt : Opt) (least most : ℕ). between_parts least most (option_number program found opt) in
    let buffers = between Buffers 2 64 (allowed law program found Buffers (at 10 (lit< tt))) in
    let size = between Size 1 16777216 (allowed law program found Size (at 11 (lit< tt))) in
    let hands = between Hands 1 9 (allowed law program found Hands (at 14 (lit< tt))) in
    let turns = between Turns 1 1048576 (allowed law program found Turns (at 15 (lit< tt))) in
    let file_size = between FileSize 1 1099511627776 (allowed law program found FileSize (at 16 (lit< tt))) in
    let max_bytes = between MaxBytes 0 281474976710656 (allowed law program found MaxBytes (at 17 (lit< tt))) in
    let files = files_of found in
    let fit = and_parts (nat_le (length (file_names files)) 65535) _ (at 19 (lit< tt)) in
    let few = and_parts (nat_le (length (transfers_in files)) 8) _ fit.1 in
    let transfers : length (transfers_in files) ≤ 8 = leb-true (length (transfers_in files)) 8 few.0 in
    record {
      least_buffers = buffers.0;
      most_buffers = buffers.1;
      least_size = size.0;
      most_size = size.1;
      least_hands = hands.0;
      most_hands = hands.1;
      least_turns = turns.0;
      most_turns = turns.1;
      least_file_size = file_size.0;
      most_file_size = file_size.1;
      most_bytes = max_bytes.1;
      most_names = leb-true (length (file_names files)) 65535 fit.0;
      most_transfers = omega (arith, starts_counted 0 (transfers_in files));
      transfers = are_starts files few.1;
    }

-- of a search each is
pub all_in_range : NoneFails Opt → ValuesAreAllowed → (found : List Found) → first_out_of_range PsrSearch found ≡ None →
    AllInRange (settings_of search_of PsrSearch found)
all_in_range passing law found none = record {
  search = search_in_range passing law found none;
  run = run_in_range passing law PsrSearch found none;
}
