use Rattle.std.proofs.Common.{◌≡◌, All, length}
use Rattle.search_session.specs.Stages.{IsEmptyHand}
use Rattle.search_opening.proofs.space.open_hands.Given as goal

-- the hands that were made before
abbrev pub invariant-loop-hand : goal.invariant-loop-hand
invariant-loop-hand g l = record {
  count : length l.hands.items ≡ l._hand;
  empty : All IsEmptyHand l.hands.items;
}
