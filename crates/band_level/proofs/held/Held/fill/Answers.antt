use Rattle.std.proofs.Common.{◌≡◌, ℕ, ◌*◌, ◌<◌, length, ◌∙◌, sym, ap, subst, arith}
use Rattle.std.proofs.lemmas.List.{length-take-le}
use Rattle.band_level.specs.Values.{spectrum_bytes}
use Rattle.band_level.specs.Holding.{Holding, IsRoomFor, held_bytes, sums_of}
use Rattle.band_level.proofs.Written.{long_written}
use Rattle.band_level.proofs.Puts.{has_room}
use Rattle.band_level.proofs.held.Held.fill.Goals as goal

pub invariant_of-self : goal.invariant_of-self
invariant_of-self c =
    let f = c.self.inside in
    let inv = c.self.invariant in
    let filled = length-take-le f.filled f.bytes.items inv.filled_in in
    let short = subst (λ (o : Holding). held_bytes o.format o < o.room) (sym c.self.view_is) c.requires.room in
    let same : f.count * f.spectrum ≡ f.count * spectrum_bytes f.format = ap (λ n. f.count * n) inv.spectrum_is in
    let bytes = sym c.as_mut_slice.ensures.len ∙ ap length c.as_mut_slice.ensures.value in
    let long = long_written c.append.new.held f.bytes.items f.bytes.len (length f.bytes.items)
    (c.append.auto.held ∙ c.as_mut_slice.ensures.len) bytes in
    record {
      in_range = inv.in_range;
      spectrum_is = inv.spectrum_is;
      room_is = inv.room_is;
      filled_in = omega (arith, long, bytes);
      inside = has_room inv (omega arith) c.min-count.result (omega (arith, bytes));
      row_long = inv.row_long;
      small = inv.small;
      narrow = inv.narrow;
      kind = subst (λ (n : ℕ). IsRoomFor f.format f.spectra f.count n (length (sums_of f.sums))) (sym long) inv.kind;
    }
