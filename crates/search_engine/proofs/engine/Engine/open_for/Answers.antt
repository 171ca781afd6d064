use Rattle.std.proofs.Common.{sym, subst}
use Rattle.search_engine.specs.Scope.{Scope, FitsObservation, marks_of}
use Rattle.search_engine.proofs.Opening.{OpenedParts, opened_stands, opened_sound, opened_sizes}
use Rattle.search_engine.proofs.engine.Engine.open_for.Goals as goal

pub invariant_of-result : goal.invariant_of-result
invariant_of-result c =
    let o = c.args.observation.now in
    let s = c.args.search.now in
    let masked = marks_of c.scope.inside.masked in
    let parts : OpenedParts o s c.args.shard masked c.scope.inside.sought c.chunk_of-chunk.result
    c.in_ok-unpacker.unpacker c.in_ok-sums.sums c.in_ok-book.book = record {
      bounds = c.lies_in_range.ensures;
      band = c.edges_fall.ensures o c.lies_in_range.ensures;
      range = c.requires.range;
      shard = c.requires.shard;
      accepted = c.in_ok-check_plan.ensures.fits;
      marks = (subst (λ (x : Scope). FitsObservation o s x) (sym c.scope.view_is) c.requires.scope).marks;
      chunk_is = c.chunk_of-chunk.ensures.value;
      unpacker = c.in_ok-unpacker.ensures.opened;
      nothing = c.in_ok-unpacker.ensures.nothing;
      path_sums = c.in_ok-sums.ensures;
      empty = c.in_ok-book.ensures;
    } in (
      opened_sound o s c.args.shard masked c.scope.inside.sought c.chunk_of-chunk.result _ _ _ parts,
      opened_sizes o c.in_ok-unpacker.unpacker c.in_ok-sums.sums c.scope.inside.sought c.chunk_of-chunk.result
          c.spectrum_size-spectrum.result c.scope.inside.first c.scope.inside.until _ c.in_ok-unpacker.ensures.opened
          c.in_ok-sums.ensures.sought_is c.spectrum_size-spectrum.ensures.value c.scope.invariant.0
          c.scope.invariant.1 c.limit_in_bytes-stop.ensures,
    )

pub returns-clause-stands : goal.returns-clause-stands
returns-clause-stands c =
    let o = c.args.observation.now in
    let s = c.args.search.now in
    let masked = marks_of c.scope.inside.masked in
    let parts : OpenedParts o s c.args.shard masked c.scope.inside.sought c.chunk_of-chunk.result
    c.in_ok-unpacker.unpacker c.in_ok-sums.sums c.in_ok-book.book = record {
      bounds = c.lies_in_range.ensures;
      band = c.edges_fall.ensures o c.lies_in_range.ensures;
      range = c.requires.range;
      shard = c.requires.shard;
      accepted = c.in_ok-check_plan.ensures.fits;
      marks = (subst (λ (x : Scope). FitsObservation o s x) (sym c.scope.view_is) c.requires.scope).marks;
      chunk_is = c.chunk_of-chunk.ensures.value;
      unpacker = c.in_ok-unpacker.ensures.opened;
      nothing = c.in_ok-unpacker.ensures.nothing;
      path_sums = c.in_ok-sums.ensures;
      empty = c.in_ok-book.ensures;
    } in
    opened_stands o s c.args.shard (marks_of c.scope.inside.masked) c.scope.inside.sought c.chunk_of-chunk.result _ _ _ parts
