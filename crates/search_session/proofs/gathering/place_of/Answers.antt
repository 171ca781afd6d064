use Rattle.std.proofs.Common.{◌≡◌, ◌==◌, ℕ, ◌<◌, true, false, length, Option, Some, None, slice_index_or, refl, sym, ◌∙◌, arith}
use Rattle.std.proofs.lemmas.Bool.Decides.{nat_tests}
use Rattle.std.proofs.lemmas.List.Elements.{at_read}
use Rattle.std.proofs.lemmas.Option.{slice_get_read, slice_get_within, get_or_from_slice_get}
use mathlib.Core.Logic.{dite}
use native.Mathlib.Decide.{ℕ_discrete}
use Rattle.session_readers.specs.declared.shard.ShardActor.{ShardActor}
use Rattle.session_readers.specs.Shards.{shard_number}
use Rattle.search_session.specs.Gathering.{is_numbered}
use Rattle.search_session.proofs.gathering.place_of.Goals as goal

eq_is : (a b : ℕ) → (a == b) ≡ true → a ≡ b
eq_is a b same = grind (arith, nat_tests)

is_eq : (a b : ℕ) → a ≡ b → (a == b) ≡ true
is_eq a b same = grind (arith, nat_tests)

numbered : (n : ℕ) (slot : Option ShardActor) → is_numbered n slot ≡ true →
    (x : ShardActor) × (slot ≡ Some x) × (shard_number x ≡ n)
numbered n None is = absurd cc
numbered n (Some x) is = (x, refl, eq_is (shard_number x) n is)

pub returns-then-has_number-clause-there : goal.returns-then-has_number-clause-there
returns-then-has_number-clause-there c =
    let slots = c.args.slots.now in
    let place = c.loop-place.place in
    let slot = c.index-slots-place.result in
    let near : place < length slots = omega arith in
    let h = numbered c.args.number slot (sym c.has_number.ensures ∙ c.if-has_number.true) in (
      h.0,
      rw h.1 at (slice_get_read slots (length slots) place slot refl near c.index-slots-place.is),
      h.2,
    )

pub loop-place-preserved : goal.loop-place-preserved
loop-place-preserved c = λ k d before.
    let slots = c.args.slots.now in
    let place = c.loop-place.place in
    let slot = c.index-slots-place.result in
    let near : place < length slots = omega arith in
    let here : is_numbered c.args.number slot ≡ false = sym c.has_number.ensures ∙ c.if-has_number.false in
    dite (ℕ_discrete k place)
    (λ same. rw same (at_read slots (λ s. is_numbered c.args.number s ≡ false) place slot near c.index-slots-place.is
    here d))
    (λ other. c.loop-place.invariant k d (omega arith))

pub unreachable-requires : goal.unreachable-requires
unreachable-requires c =
    let slots = c.args.slots.now in
    let r = c.requires in
    let near = slice_get_within slots r.place (Some r.shard) r.there in
    let at = get_or_from_slice_get slots r.place (Some r.shard) None r.there in
    let none : is_numbered c.args.number (slice_index_or slots r.place None) ≡ false =
    c.loop-place.invariant r.place None (omega arith) in
    let some : is_numbered c.args.number (Some r.shard) ≡ true = is_eq (shard_number r.shard) c.args.number r.is in
    let both = sym some ∙ rw at at none in
    absurd cc
