use Rattle.std.proofs.Common.{◌≡◌, SFits, w64, rules, subst, sym, ℕ, Ok}
use Rattle.std.specs.Prelude.{ℤ, unsigned_abs}
use Rattle.std.specs.Int.{cast_signed, cast_unsigned}
use Rattle.dada_model.specs.Fields.{fields_of}
use Rattle.dada_model.specs.Observation.{number_of}
use Rattle.dada_model.specs.declared.key.Key.TheVariants.{Bw}
use Rattle.obs_plan.specs.Rows.{IsBand}
use Rattle.obs_plan.proofs.FoundNumbers.{held}
use Rattle.obs_plan.proofs.Refusals.{refused_outside}
use Rattle.obs_plan.proofs.Bands.{band_in_row, band_outside, large_is_no_band}
use Rattle.obs_plan.proofs.rows.band.Goals as goal
use Rattle.obs_plan.proofs.rows.band.Goals.{After-is_band}

pub number-requires : goal.number-requires
number-requires c = λ z e large.
    band_outside c.bands_in_row.ensures (fields_of c.args.header.now.text) c.args.channels c.args.centre_hz
    c.requires.channels c.requires.some c.requires.centre z e (large_is_no_band _ c.args.centre_hz large)

-- BW as it is held
abbrev bw : After-is_band → ℤ
bw c = cast_signed w64 (cast_unsigned w64 c.in_ok-width.width)

is : (c : After-is_band) → number_of (fields_of c.args.header.now.text) Bw ≡ Ok (bw c)
is c =
    let fits : SFits w64 c.in_ok-width.width = search rules in
    held (λ y. number_of (fields_of c.args.header.now.text) Bw ≡ Ok y) c.in_ok-width.width fits
    c.in_ok-width.ensures.number

pub returns-then-is_band-clause-taken : goal.returns-then-is_band-clause-taken
returns-then-is_band-clause-taken c =
    let here = (goal.at.returns-then-is_band-clause-taken c).After-is_band in
    let P : ℕ → Type 0 = λ n. IsBand n c.args.centre_hz in
    let band : IsBand (unsigned_abs (bw here)) c.args.centre_hz =
    subst P c.unsigned_abs.ensures.value (c.is_band.ensures.0 c.if-is_band.true) in
    record {
      is = is here;
      in_row = band_in_row c.bands_in_row.ensures (fields_of c.args.header.now.text) c.args.channels c.args.centre_hz
          c.requires.channels c.requires.some c.requires.centre (bw here) (is here) band;
    }

pub returns-else-is_band-clause-fault : goal.returns-else-is_band-clause-fault
returns-else-is_band-clause-fault c =
    let here = (goal.at.returns-else-is_band-clause-fault c).After-is_band in
    let P : ℕ → Type 0 = λ n. IsBand n c.args.centre_hz in
    let outside = band_outside c.bands_in_row.ensures (fields_of c.args.header.now.text) c.args.channels
    c.args.centre_hz c.requires.channels c.requires.some c.requires.centre (bw here) (is here)
    (λ band. let yes = c.is_band.ensures.1 (subst P (sym c.unsigned_abs.ensures.value) band) in absurd (cc)) in
    refused_outside (fields_of c.args.header.now.text) Bw c.outside.result c.outside.ensures (bw here) (is here) outside
