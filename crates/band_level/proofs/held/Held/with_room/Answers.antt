use Rattle.std.proofs.Common.{ℕ, refl, length, subst, sym, arith}
use Rattle.band_level.specs.Holding.{IsRoomFor, sums_of}
use Rattle.band_level.proofs.Puts.{narrow_for}
use Rattle.band_level.proofs.Written.{zero_long}
use Rattle.band_level.proofs.held.Held.with_room.Goals as goal

pub invariant_of-result : goal.invariant_of-result
invariant_of-result c =
    let limit = zero_long c.in_ok-bytes.field-0.items c.args.limit c.in_ok-bytes.ensures in
    let sums = c.in_ok-open.ensures.long in
    record {
      in_range = c.requires.format;
      spectrum_is = refl;
      room_is = refl;
      filled_in = omega arith;
      inside = omega arith;
      row_long = zero_long c.in_ok-words.field-0.items _ c.in_ok-words.ensures;
      small = λ k lt. absurd (omega arith);
      narrow = narrow_for c.args.format.bits c.in_ok-open.field-0.is_wide c.requires.format.bits
          c.in_ok-open.ensures.wide;
      kind = subst (λ (n : ℕ). IsRoomFor c.args.format c.args.spectra 0 n (length (sums_of c.in_ok-open.field-0)))
          (sym limit)
          (subst (λ (n : ℕ). IsRoomFor c.args.format c.args.spectra 0 c.args.limit n) (sym sums) c.requires.kind);
    }
