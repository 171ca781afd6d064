-- Where no option is out of its range, each value is in its row.
use Rattle.std.proofs.Common.{◌≡◌, ◌⊎◌, ℕ, ◌<◌, ◌≤◌, true, List, refl, arith, lit<}
use Rattle.std.specs.Prelude.{None, is_some, nat_le}
use Rattle.std.proofs.lemmas.Bool.{and_parts, leb-true}
use Rattle.std.proofs.lemmas.Bool.Decides.{nat_tests}
use Rattle.clap.specs.Walk.{Row as Found, first_of}
use Rattle.option_rows.specs.declared.row.Limits.TheVariants.{Between, Either}
use Rattle.option_rows.specs.Rows.{limits_allow}
use Rattle.option_rows.specs.Laws.{ValuesAreAllowed, NoneFails}
use Rattle.psr_make.specs.declared.opt.Opt.{Opt}
use Rattle.psr_make.specs.declared.opt.Opt.TheVariants.{Number, Nchan, Spectra, Delay, Period, Height, Nbit, Npol}
use Rattle.psr_make.specs.Table.{all_options, option_row, option_name}
use Rattle.psr_make.specs.Made.{SpecInRange}
use Rattle.psr_make.specs.Request.{option_value, option_number, first_out_of_range, spec_of}

default_allowed : (opt : Opt) → limits_allow (option_row opt).limits (option_row opt).default ≡ true
default_allowed Number = refl
default_allowed opt = refl

-- a value is one that its limits allow
allowed : ValuesAreAllowed → (found : List Found) (opt : Opt) → is_some (option_value found opt) ≡ true →
    limits_allow (option_row opt).limits (option_number found opt) ≡ true
allowed law found opt some = law (option_row opt) (first_of (option_name opt) found) (default_allowed opt) some

between_parts : (least most n : ℕ) → limits_allow (Between least most) n ≡ true → (least ≤ n) × (n ≤ most)
between_parts least most n e =
    let both = and_parts (nat_le least n) (nat_le n most) e in (leb-true least n both.0, leb-true n most both.1)

either_part : (a b n : ℕ) → limits_allow (Either a b) n ≡ true → (n ≡ a) ⊎ (n ≡ b)
either_part a b n e = grind (arith, nat_tests)

-- where each value is in its range, the observation is
pub spec_in_range : NoneFails Opt → ValuesAreAllowed → (found : List Found) → first_out_of_range found ≡ None →
    SpecInRange (spec_of found)
spec_in_range passing law found none =
    let at = λ (i : ℕ) (within : i < 8). passing (λ opt. is_some (option_value found opt)) all_options none i Number within in
    let number = between_parts 0 9223372036854775807 _ (allowed law found Number (at 0 (lit< tt))) in
    let channels = between_parts 2 4096 _ (allowed law found Nchan (at 1 (lit< tt))) in
    let spectra = between_parts 0 1048576 _ (allowed law found Spectra (at 2 (lit< tt))) in
    let delay = between_parts 0 8192 _ (allowed law found Delay (at 3 (lit< tt))) in
    let period = between_parts 1 1048576 _ (allowed law found Period (at 4 (lit< tt))) in
    let height = between_parts 0 200 _ (allowed law found Height (at 5 (lit< tt))) in
    let npol = between_parts 1 2 _ (allowed law found Npol (at 7 (lit< tt))) in
    record {
      number = number.1;
      few_channels = channels.0;
      many_channels = channels.1;
      spectra = spectra.1;
      delay = delay.1;
      some_period = period.0;
      period = period.1;
      height = height.1;
      bits = either_part 8 16 _ (allowed law found Nbit (at 6 (lit< tt)));
      polarisations = one_or_two (option_number found Npol) npol.0 npol.1;
    }
  where
    one_or_two : (n : ℕ) → 1 ≤ n → n ≤ 2 → (n ≡ 1) ⊎ (n ≡ 2)
    one_or_two n low high = grind arith
