use Rattle.std.proofs.Common.{refl, ◌*◌, ◌/◌, ◌≤◌, inl, inr, max, length, ◌∙◌, ap, arith}
use Rattle.std.proofs.Math.Nat.{mul-le-mul}
use Rattle.band_level.specs.declared.format.Format.{Format}
use Rattle.band_level.specs.declared.plan.Plan.{Plan}
use Rattle.band_level.specs.Ranges.{FormatInRange, PlanInRange}
use Rattle.band_level.specs.Spectra.{written_bytes}
use Rattle.band_level.proofs.Giving.{starts}
use Rattle.band_level.proofs.Written.{zero_long, piece_most, piece_least}
use Rattle.band_level.proofs.leveller.Leveller.open.Goals as goal

-- no spectrum is longer than this
written_most : (f : Format) (p : Plan) → FormatInRange f → PlanInRange p → written_bytes f p ≤ 4096 * 2 * 2
written_most f p range plan =
    let width : p.bits / 8 ≤ 2 = elim plan.most [
      | inl e ↦ let bits = e.0 in omega arith
      | inr e ↦ let bits = e.0 in omega arith
    ] in
    let pols : f.polarisations ≤ 2 = elim range.polarisations [
      | inl e ↦ omega arith
      | inr e ↦ omega arith
    ] in
    mul-le-mul (mul-le-mul range.most_channels pols) width

pub overflow_mul-max : goal.overflow_mul-max
overflow_mul-max c =
    let written = written_bytes c.args.format c.args.plan in
    let most = written_most c.args.format c.args.plan c.requires.format c.requires.plan in
    record { fits = rw c.max.ensures (omega (arith, piece_most 262144 written, most)) }

pub invariant_of-result : goal.invariant_of-result
invariant_of-result c =
    let some = c.requires.plan.some_spectra in
    let written = written_bytes c.args.format c.args.plan in
    let least : written ≤ c.max.result * written = rw c.max.ensures (piece_least 262144 written) in
    let piece = zero_long c.in_ok-bytes.field-0.items _ c.in_ok-bytes.ensures in
    record {
      task = record {
        format = c.requires.format;
        plan = c.requires.plan;
        masked_long = ap length c.in_ok-marks.ensures ∙ c.requires.masked;
      };
      stretch = record {
        same = c.in_ok-open.ensures.format;
        room = c.in_ok-open.ensures.room;
        order = omega arith;
        inside = omega arith;
        few = omega arith;
      };
      scales = c.in_ok-open-2.ensures;
      rows = c.in_ok-open-3.ensures.rows;
      space = c.in_ok-open-4.ensures;
      piece = record {
        made_in = omega arith;
        room = omega (arith, least, piece);
      };
    }

pub returns-clause-nothing : goal.returns-clause-nothing
returns-clause-nothing c =
    let some = c.requires.plan.some_spectra in
    starts _ c.requires.format (omega arith) c.in_ok-open.ensures.nothing refl refl refl refl
    c.in_ok-open-3.ensures.nothing
