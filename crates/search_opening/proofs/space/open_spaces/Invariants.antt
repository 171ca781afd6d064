use Rattle.std.proofs.Common.{◌≡◌, ◌≤◌, All, length}
use Rattle.std.specs.Prelude.{IsSomeAnd, vec_len}
use Rattle.search_opening.proofs.space.open_spaces.Given as goal

-- the spaces that were taken before
abbrev pub invariant-loop-space : goal.invariant-loop-space
invariant-loop-space l = record {
  count : length l.spaces.items ≡ l._space;
  room : All (λ slot. IsSomeAnd slot (λ space. 65537 ≤ vec_len space)) l.spaces.items;
}
