use Rattle.std.proofs.Common.{◌++◌, take, refl, sym, ap, subst, arith}
use Rattle.search_engine.specs.Engine.{EngineState, HasTakenChunks, HoldsNoFullChunk}
use Rattle.search_engine.proofs.Feeding.{piece_holds, begins_old}
use Rattle.search_engine.proofs.Slices.{bytes_are}
use Rattle.search_engine.proofs.Sizes.{room_left, sizes_kept}
use Rattle.search_engine.proofs.engine.Engine.take_piece.Goals as goal

pub invariant_of-self : goal.invariant_of-self
invariant_of-self c =
    let w = c.self.invariant.0 in
    let most = c.requires.few in
    let fed = ap (λ (e : EngineState). e.fed) c.self.view_is in
    let numbers = bytes_are c.args.bytes.now c.type_inv.bytes in (
      record {
        observation = w.observation;
        bytes = w.bytes ++ take c.push-count.result c.args.bytes.now;
        holds = piece_holds c.samples_of_bytes.ensures w.observation w.bytes c.args.bytes.now _ c.push-count.new.self
            c.push-count.result _ w.holds c.push-count.ensures.count c.push-count.ensures.alike
            (λ p. c.push-count.ensures.pieces w.bytes _ p) numbers (omega (arith, most, fed));
        room = w.room;
      },
      sizes_kept _ _ _ _ c.self.inside.unpacker c.push-count.new.self c.self.inside.sums.pulses.sought
          c.self.inside.sums.pulses.sought c.self.invariant.1 c.push-count.ensures.alike refl,
    )

pub returns-clause-some : goal.returns-clause-some
returns-clause-some c =
    let H : EngineState → Type 0 = λ e. HoldsNoFullChunk e in
    let part = subst H (sym c.self.view_is) c.requires.room in
    let room = room_left c.self.inside.unpacker c.self.invariant.0.holds.held.short part in
    let count = c.push-count.ensures.count in
    let given = c.requires.some in
    omega (arith, room, count, given)

pub returns-clause-taken : goal.returns-clause-taken
returns-clause-taken c = λ o before stands.
    let P : EngineState → Type 0 = λ e. HasTakenChunks o before e in
    let old = subst P (sym c.self.view_is) stands in
    let most = c.requires.few in
    let fed = ap (λ (e : EngineState). e.fed) c.self.view_is in
    let numbers = bytes_are c.args.bytes.now c.type_inv.bytes in
    record {
      holds = piece_holds c.samples_of_bytes.ensures o before c.args.bytes.now _ c.push-count.new.self
          c.push-count.result _ old.holds c.push-count.ensures.count c.push-count.ensures.alike
          (λ p. c.push-count.ensures.pieces before _ p) numbers (omega (arith, most, fed));
      chunks = old.chunks;
      book = λ f begins. old.book f (begins_old c.samples_of_bytes.ensures o before _ _
          c.self.inside.sums.carry.fed f old.holds (omega arith) begins);
    }
