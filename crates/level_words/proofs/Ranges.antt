-- If no option is out of its range, each value is in its row.
use Rattle.std.proofs.Common.{◌≡◌, ℕ, ◌<◌, ◌≤◌, true, List, length, get_or, refl, arith, lit<, sym, subst}
use Rattle.std.specs.Prelude.{Option, Some, None, is_some, nat_le, unwrap_or, option_map, slice_index_or, [], ◌∷◌}
use Rattle.std.specs.Option.{ForSome}
use Rattle.std.proofs.lemmas.Bool.{and_parts, leb-true}
use Rattle.clap.specs.Walk.{Row as Found, Text, first_of, all_of}
use Rattle.option_rows.specs.declared.row.Limits.TheVariants.{Between}
use Rattle.option_rows.specs.Rows.{limits_allow}
use Rattle.option_rows.specs.Laws.{ValuesAreAllowed, NoneFails}
use Rattle.search_words.specs.Transfers.{AreTransferStarts}
use Rattle.level_words.specs.declared.opt.Opt.{Opt}
use Rattle.level_words.specs.declared.opt.Opt.TheVariants.{Spectra, Average, Mask, Clip, Mean, Deviation, Most, MaxBytes, File}
use Rattle.level_words.specs.Table.{all_options, option_row, option_name}
use Rattle.level_words.specs.Values.{option_value, option_number, is_in_range, first_out_of_range, files_of, are_few}
use Rattle.level_words.specs.Settings.{LevelInRange, settings_of}

in_range_at : NoneFails Opt → (found : List Found) → first_out_of_range found ≡ None →
    (i : ℕ) → i < 9 → is_in_range found (get_or all_options i File) ≡ true
in_range_at passing found none i within = passing (is_in_range found) all_options none i File within

default_allowed : (opt : Opt) → limits_allow (option_row opt).limits (option_row opt).default ≡ true
default_allowed Spectra = refl
default_allowed Average = refl
default_allowed Mask = refl
default_allowed Clip = refl
default_allowed Mean = refl
default_allowed Deviation = refl
default_allowed Most = refl
default_allowed MaxBytes = refl
default_allowed File = refl

-- a value is one that its limits allow
allowed : ValuesAreAllowed → (found : List Found) (opt : Opt) → is_some (option_value found opt) ≡ true →
    limits_allow (option_row opt).limits (option_number found opt) ≡ true
allowed law found opt some = law (option_row opt) (first_of (option_name opt) found) (default_allowed opt) some

between_parts : (least most n : ℕ) → limits_allow (Between least most) n ≡ true → (least ≤ n) × (n ≤ most)
between_parts least most n e =
    let both = and_parts (nat_le least n) (nat_le n most) e in (leb-true least n both.0, leb-true n most both.1)

-- a number that may be given
at_most : (word : Option Text) (n most : ℕ) → n ≤ most → ForSome (option_map (λ w. n) word) (λ k. k ≤ most)
at_most None n most below = λ x e. absurd cc
at_most (Some word) n most below = λ x e. let is : n ≡ x = cc in omega arith

few_names : (files : Option (List Text)) → are_few files ≡ true →
    (1 ≤ length (unwrap_or files [])) × (length (unwrap_or files []) ≤ 65535)
few_names None e = absurd cc
few_names (Some names) e =
    let both = and_parts (nat_le 1 (length names)) (nat_le (length names) 65535) e in
    (leb-true 1 (length names) both.0, leb-true (length names) 65535 both.1)

one_start : (count : ℕ) → 1 ≤ count → AreTransferStarts (0 ∷ []) count
one_start count some = record {
  some = lit< tt;
  first = refl;
  rise = λ i below. absurd (omega arith);
  within = λ i below. first_within i (omega arith);
}
  where
    first_within : (i : ℕ) → i ≡ 0 → slice_index_or (0 ∷ []) i count < count
    first_within i is = subst (λ (k : ℕ). slice_index_or (0 ∷ []) k count < count) (sym is) (omega arith)

pub level_in_range : NoneFails Opt → ValuesAreAllowed → (found : List Found) → first_out_of_range found ≡ None →
    LevelInRange (settings_of found)
level_in_range passing law found none =
    let at = in_range_at passing found none in
    let spectra = between_parts 2 1048576 (option_number found Spectra) (allowed law found Spectra (at 0 (lit< tt))) in
    let average = between_parts 1 64 (option_number found Average) (allowed law found Average (at 1 (lit< tt))) in
    let clip = between_parts 0 1000000000 (option_number found Clip) (allowed law found Clip (at 3 (lit< tt))) in
    let mean = between_parts 0 65535000 (option_number found Mean) (allowed law found Mean (at 4 (lit< tt))) in
    let deviation = between_parts 0 1000000 (option_number found Deviation)
    (allowed law found Deviation (at 5 (lit< tt))) in
    let most = between_parts 1 65535 (option_number found Most) (allowed law found Most (at 6 (lit< tt))) in
    let bytes = between_parts 0 281474976710656 (option_number found MaxBytes)
    (allowed law found MaxBytes (at 7 (lit< tt))) in
    let names = few_names (all_of (option_name File) found) (at 8 (lit< tt)) in
    record {
      least_spectra = spectra.0;
      most_spectra = spectra.1;
      least_average = average.0;
      most_average = average.1;
      clip = at_most (first_of (option_name Clip) found) (option_number found Clip) 1000000000 clip.1;
      mean = at_most (first_of (option_name Mean) found) (option_number found Mean) 65535000 mean.1;
      deviation = at_most (first_of (option_name Deviation) found) (option_number found Deviation) 1000000 deviation.1;
      most = at_most (first_of (option_name Most) found) (option_number found Most) 65535 most.1;
      run = record {
        least_buffers = omega arith;
        most_buffers = omega arith;
        least_size = omega arith;
        most_size = omega arith;
        least_hands = omega arith;
        most_hands = omega arith;
        least_turns = omega arith;
        most_turns = omega arith;
        least_file_size = omega arith;
        most_file_size = omega arith;
        most_bytes = bytes.1;
        most_names = names.1;
        most_transfers = omega arith;
        transfers = one_start (length (files_of found)) names.0;
      };
    }
