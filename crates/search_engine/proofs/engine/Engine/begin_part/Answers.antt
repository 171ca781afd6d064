use Rattle.std.proofs.Common.{sym, ◌∙◌, ap, subst, arith}
use Rattle.shard_search.specs.Sought.{sought_from}
use Rattle.search_engine.specs.Engine.{EngineState, StandsForPart, scope_of, searched_to}
use Rattle.search_engine.specs.Scope.{marks_of, scope_from}
use Rattle.search_engine.proofs.Feeding.{few_spectra}
use Rattle.search_engine.proofs.Beginnings.{Begins, begun_part, begun_sizes, begun_sound}
use Rattle.search_engine.proofs.Whole.{scope_at}
use Rattle.search_engine.proofs.engine.Engine.begin_part.Goals as goal

pub searched_to-place-requires : goal.searched_to-place-requires
searched_to-place-requires c =
    let w = c.self.invariant.0 in
    let few = few_spectra w.observation _ _ 0 w.holds (omega arith) in
    omega (arith, few)

abbrev before : goal.After-clear → EngineState
before c = record {
  search = c.self.inside.search;
  shard = c.self.inside.shard;
  masked = marks_of c.self.inside.masked;
  fed = c.self.inside.fed;
  has_ended = c.self.inside.has_ended;
  unpacker = c.self.inside.unpacker;
  sums = c.self.inside.sums;
  book = c.self.inside.book;
}

begins : (c : goal.After-clear) → Begins (before c) c.leave_out.new.self c.clear.new.self
begins c = record {
  sought = c.leave_out.ensures.sought
      ∙ ap (λ n. sought_from n c.self.inside.sums.pulses.sought) c.searched_to-place.ensures;
  search = c.leave_out.ensures.search;
  carry = c.leave_out.ensures.carry;
  stands = c.leave_out.ensures.stands;
  empty = c.clear.ensures;
}

pub invariant_of-self : goal.invariant_of-self
invariant_of-self c =
    let old = c.self.invariant in
    (begun_sound (before c) _ _ (begins c) old.0, begun_sizes (before c) _ _ (begins c) _ _ _ _ old.1)

pub returns-clause-scope : goal.returns-clause-scope
returns-clause-scope c =
    ap (scope_at (marks_of c.self.inside.masked)) (begins c).sought
    ∙ ap (λ (e : EngineState). scope_from (searched_to e) (scope_of e)) c.self.view_is

pub returns-clause-part : goal.returns-clause-part
returns-clause-part c = λ o bytes stands.
    let P : EngineState → Type 0 = λ e. StandsForPart o bytes e in
    begun_part (before c) _ _ (begins c) o bytes (subst P (sym c.self.view_is) stands)
