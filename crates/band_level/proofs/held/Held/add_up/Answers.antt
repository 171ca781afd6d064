use Rattle.std.proofs.Common.{◌≡◌, inr, ◌+◌, ◌*◌, ◌<◌, ◌≤◌, length, slice_index, ◌∙◌, sym, ap, subst, arith}
use Rattle.std.proofs.Math.Nat.{mul-le-mul_right}
use Rattle.std.proofs.lemmas.List.{length-take-le}
use Rattle.band_level.specs.Values.{cells, spectrum_bytes, cell_value, most_value}
use Rattle.band_level.specs.Holding.{Holding, held_bytes, sums_of}
use Rattle.band_level.proofs.Written.{written, long_written}
use Rattle.band_level.proofs.Puts.{HasPlace, has_place, place_fits, adds_of, small_sums}
use Rattle.band_level.proofs.held.Held.add_up.Goals as goal
use Rattle.band_level.proofs.held.Held.add_up.Goals.{After-read_row}

full : (c : After-read_row) → c.self.inside.filled ≡ length c.self.inside.bytes.items
full c =
    let f = c.self.inside in
    let all = subst (λ (o : Holding). length o.bytes ≡ o.limit) (sym c.self.view_is) c.requires.full in
    omega (arith, length-take-le f.filled f.bytes.items c.self.invariant.filled_in)

place : (c : After-read_row) → HasPlace c.self.inside.format c.self.inside.spectra c.self.inside.count
    (length c.self.inside.bytes.items) (length (sums_of c.self.inside.sums))
place c =
    let f = c.self.inside in
    let inv = c.self.invariant in
    let short = subst (λ (o : Holding). held_bytes o.format o < o.room) (sym c.self.view_is) c.requires.room in
    let same : f.count * f.spectrum ≡ f.count * spectrum_bytes f.format = ap (λ n. f.count * n) inv.spectrum_is in
    has_place inv (omega (arith, length-take-le f.filled f.bytes.items inv.filled_in)) (full c)

row : (c : After-read_row) → c.self.inside.row.len ≡ cells c.self.inside.format
row c = sym c.as_mut_slice.ensures.len ∙ ap length c.as_mut_slice.ensures.value ∙ c.self.invariant.row_long

pub invariant_of-self : goal.invariant_of-self
invariant_of-self c =
    let f = c.self.inside in
    let inv = c.self.invariant in
    let here = (goal.at.invariant_of-self c).After-read_row in
    let there = place here in
    let read = c.read_row.auto.row ∙ c.as_mut_slice.ensures.len in
    let is_row = c.as_slice-2.ensures.value ∙ written c.read_row.new.row f.row.items f.row.len read in
    let part : (f.count + 1) * f.spectrum ≤ f.spectra * f.spectrum = mul-le-mul_right f.spectrum there.few in
    let at : f.count * c.len.result ≡ f.count * cells f.format = ap (λ n. f.count * n) (c.len.ensures ∙ row here) in
    let writes = c.write.ensures.writes in
    record {
      in_range = inv.in_range;
      spectrum_is = inv.spectrum_is;
      room_is = inv.room_is;
      filled_in = omega arith;
      inside = omega (arith, inv.room_is);
      row_long = long_written c.read_row.new.row f.row.items f.row.len (cells f.format) read (row here);
      small = small_sums f.format (f.count * c.len.result) f.count c.as_slice-2.result.now (sums_of f.sums)
          (sums_of c.write.new.self) at writes (ap length is_row ∙ read ∙ row here) inv.small
          (λ i. subst (λ xs. slice_index xs i ≤ most_value f.format) (sym is_row) (c.read_row.ensures.small i));
      narrow = λ narrow. inv.narrow (sym c.write.ensures.wide ∙ narrow);
      kind = inr (there.one, writes.long ∙ there.sums_long);
    }

pub returns-clause-adds : goal.returns-clause-adds
returns-clause-adds c =
    let f = c.self.inside in
    let here = (goal.at.returns-clause-adds c).After-read_row in
    let there = place here in
    let all = full here in
    let read = c.read_row.auto.row ∙ c.as_mut_slice.ensures.len in
    let is_row = c.as_slice-2.ensures.value ∙ written c.read_row.new.row f.row.items f.row.len read in
    let at : f.count * c.len.result ≡ f.count * cells f.format = ap (λ n. f.count * n) (c.len.ensures ∙ row here) in
    rw (← c.self.view_is)
    (adds_of f.format (f.count * c.len.result) f.count c.as_slice-2.result.now (sums_of f.sums)
    (sums_of c.write.new.self) at c.write.ensures.writes (ap length is_row ∙ read ∙ row here) f.room
    (length f.bytes.items) f.filled f.bytes.items
    (λ i lt. ap (λ xs. slice_index xs i) is_row ∙ c.read_row.ensures.values i lt
    ∙ ap (λ xs. cell_value f.format xs 0 i) c.as_slice.ensures.value)
    there.one (omega arith))

pub overflow_mul-self-inside : goal.overflow_mul-self-inside
overflow_mul-self-inside c =
    let f = c.self.inside in
    let here = (goal.at.overflow_mul-self-inside c).After-read_row in
    let at : f.count * c.len.result ≡ f.count * cells f.format = ap (λ n. f.count * n) (c.len.ensures ∙ row here) in
    let fits = place_fits c.self.invariant f.count (omega arith) in
    record { fits = omega arith }

pub write-requires-clause-room : goal.write-requires-clause-room
write-requires-clause-room c =
    let f = c.self.inside in
    let here = (goal.at.write-requires-clause-room c).After-read_row in
    let read = c.read_row.auto.row ∙ c.as_mut_slice.ensures.len in
    let is_row = c.as_slice-2.ensures.value ∙ written c.read_row.new.row f.row.items f.row.len read in
    let at : f.count * c.len.result ≡ f.count * cells f.format = ap (λ n. f.count * n) (c.len.ensures ∙ row here) in
    let long = ap length is_row ∙ read ∙ row here in
    let inside = (place here).inside in
    omega arith
