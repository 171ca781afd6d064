use Rattle.std.proofs.Common.{◌≡◌, ℕ, refl, ◌+◌, ◌*◌, ◌/◌, ◌≤◌, length, ◌∙◌, sym, ap, arith}
use Rattle.std.proofs.Math.Nat.{mul-le-mul_right, div-mul-le_self}
use Rattle.std.proofs.lemmas.Nat.{le-div}
use Rattle.band_level.specs.Levelling.{Levelling}
use Rattle.band_level.proofs.Puts.{has_fewer}
use Rattle.band_level.proofs.Values.{some_written}
use Rattle.band_level.proofs.Written.{written, long_written}
use Rattle.band_level.proofs.leveller.Leveller.make_piece.Goals as goal

-- as many pieces as fit
room_for : (count room wide : ℕ) → count ≤ room / wide → count * wide ≤ room
room_for count room wide few =
    let part : count * wide ≤ room / wide * wide = mul-le-mul_right wide few in
    omega (arith, div-mul-le_self room wide)

pub level_spectra-requires-clause-held : goal.level_spectra-requires-clause-held
level_spectra-requires-clause-held c =
    let f = c.self.inside in
    let s = c.self.invariant.stretch in
    let order = s.order in
    has_fewer f.task.format f.held (f.first + c.min-count.result) f.last (omega arith)
    record { same = s.same; inside = s.inside }

pub level_spectra-requires-clause-room : goal.level_spectra-requires-clause-room
level_spectra-requires-clause-room c =
    let room = room_for c.min-count.result c.len.result c.written_bytes-written.result (omega arith) in
    rw (← c.written_bytes-written.ensures) (omega (arith, c.len.ensures, c.as_mut_slice.ensures.len))

pub invariant_of-self : goal.invariant_of-self
invariant_of-self c =
    let f = c.self.inside in
    let inv = c.self.invariant in
    let s = inv.stretch in
    let order = s.order in
    let piece_long : f.piece.len ≡ length f.piece.items =
    sym c.as_mut_slice.ensures.len ∙ ap length c.as_mut_slice.ensures.value in
    let part = room_for c.min-count.result c.len.result c.written_bytes-written.result (omega arith) in
    let long = long_written c.level_spectra.new.out f.piece.items f.piece.len (length f.piece.items)
    (c.level_spectra.auto.out ∙ c.as_mut_slice.ensures.len) piece_long in
    record {
      task = inv.task;
      stretch = record { same = s.same; room = s.room; order = omega arith; inside = s.inside; few = s.few };
      scales = inv.scales;
      rows = c.level_spectra.ensures.rows;
      space = inv.space;
      piece = record {
        made_in = omega (arith, c.len.ensures, long, piece_long);
        room = let e = inv.piece.room in omega (arith, long);
      };
    }

pub returns : goal.returns
returns c =
    let f = c.self.inside in
    let inv = c.self.invariant in
    let piece_long : f.piece.len ≡ length f.piece.items =
    sym c.as_mut_slice.ensures.len ∙ ap length c.as_mut_slice.ensures.value in
    let out = written c.level_spectra.new.out f.piece.items f.piece.len
    (c.level_spectra.auto.out ∙ c.as_mut_slice.ensures.len) in
    let wide = c.written_bytes-written.ensures in
    let some = some_written f.task.format f.task.plan inv.task.format inv.task.plan in
    let room = inv.piece.room in
    let order = inv.stretch.order in
    let one : 1 ≤ c.len.result / c.written_bytes-written.result =
    le-div 1 c.len.result c.written_bytes-written.result (omega arith) (omega (arith, c.len.ensures)) in
    let first = ap (λ (o : Levelling). o.first) c.self.view_is in
    let last = ap (λ (o : Levelling). o.last) c.self.view_is in
    let next = c.requires in
    rw (← c.self.view_is) record {
      count = c.min-count.result;
      some = omega arith;
      few = omega arith;
      same = refl;
      levels = rw (out, wide) c.level_spectra.ensures.levels;
    }
