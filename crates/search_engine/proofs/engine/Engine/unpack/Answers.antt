use Rattle.std.proofs.Common.{◌≡◌, ◌∙◌, ℕ, ◌+◌, ◌-◌, ◌*◌, ◌<◌, ◌++◌, List, length, take, drop, sym, ap, subst, arith, length-drop, length-append, length-take-le}
use Rattle.std.proofs.lemmas.List.Elements.{All-append}
use Rattle.search_engine.specs.Engine.{EngineState, HasTakenChunks, StandsForPart, scope_of}
use Rattle.search_engine.specs.Scope.{Scope, bytes_in, limit_in_bytes, marks_of}
use Rattle.search_engine.proofs.Feeding.{more_taken, size_is}
use Rattle.search_engine.proofs.Slices.{bytes_are, pieces_are}
use Rattle.shard_search.specs.Sought.{Sought}
use Rattle.search_engine.proofs.engine.Engine.unpack.Goals as goal

pub returns-clause-part : goal.returns-clause-part
returns-clause-part c = λ o before stands.
    let i = c.self.inside in
    let j = c.self-2.inside in
    let P : EngineState → Type 0 = λ e. StandsForPart o before e in
    let old = subst P (sym c.self.view_is) stands in
    let sizes = c.self.invariant.1 in
    let bytes : List ℕ = c.args.bytes.now in
    let to = c.count_before-to.result in
    let from = c.count_before-from.result in
    let few = c.requires.few in
    let fed = ap (λ (e : EngineState). e.fed) c.self.view_is in
    let most = c.count_before-to.ensures.most in
    let less = c.count_before-from.ensures.most in
    let sought : Sought = i.sums.pulses.sought in
    let xs : List ℕ = bytes_in o sought before in
    let rest = length-drop from bytes in
    let long = length-take-le (to - from) (drop from bytes) (omega (arith, rest, most, less)) in
    let one = more_taken o xs _ from old.chunks (omega (arith, few, fed, most, less)) in
    let two = c.take_pieces.ensures.taken o xs one in
    let T : EngineState → Type 0 = λ e. HasTakenChunks o (xs ++ take (to - from) (drop from bytes)) e in
    let three = subst T (sym c.self-2.view_is) two in
    let then = c.take_pieces.ensures.fed in
    let now = ap (λ (e : EngineState). e.fed) c.self-2.view_is in
    let four = more_taken o (xs ++ take (to - from) (drop from bytes)) _ (length bytes - to) three
    (omega (arith, few, fed, most, less, long, then, now)) in
    let size = size_is o _ old.chunks.holds.searches in
    let same : j.sums.pulses.sought ≡ sought = ap (λ (e : EngineState). e.sums.pulses.sought) c.self-2.view_is
    ∙ ap (λ (s : Scope). s.sought) c.take_pieces.ensures.scope in
    let is = pieces_are o sought i.skipped to from i.fed i.stop before bytes
    (sizes.skipped_is ∙ ap (λ n. sought.first * n) size)
    (sizes.stop_is ∙ ap (λ n. limit_in_bytes n sought.until) size) old.count c.count_before-to.ensures.value
    c.count_before-from.ensures.value in
    let new : EngineState = record {
      search = j.search;
      shard = j.shard;
      masked = marks_of j.masked;
      fed = j.fed + (length bytes - to);
      has_ended = j.has_ended;
      unpacker = j.unpacker;
      sums = j.sums;
      book = j.book;
    } in
    let count = old.count in
    let both = length-append before bytes in
    record {
      numbers = All-append (λ byte. byte < 256) before bytes old.numbers (bytes_are bytes c.type_inv.bytes);
      count = omega (arith, count, both, most, less, long, then, now);
      chunks = subst (λ ys. HasTakenChunks o ys new)
          (sym (ap (λ (c : Sought). bytes_in o c (before ++ bytes)) same ∙ is)) four;
    }

pub returns-clause-stands : goal.returns-clause-stands
returns-clause-stands c = λ o before stands. record {
  part = returns-clause-part c o before stands.part;
  whole = ap scope_of c.self-2.view_is ∙ c.take_pieces.ensures.scope ∙ ap scope_of c.self.view_is ∙ stands.whole;
}
