use Rattle.std.proofs.Common.{◌≡◌, true}
use Rattle.std.specs.Prelude.{IfSome}
use Rattle.std.specs.List.{AllWithin}
use Rattle.search_session.proofs.hand.shards_ended.Given as goal

abbrev pub invariant-loop-place : goal.invariant-loop-place
invariant-loop-place l = AllWithin (λ slot. IfSome slot (λ x. x.ended ≡ true)) l.slots 0 l.place
