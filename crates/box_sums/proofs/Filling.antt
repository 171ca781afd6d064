-- A table that grows by zeros.
use Rattle.std.proofs.Common.{◌≡◌, ℕ, ◌+◌, ◌-◌, ◌*◌, ◌<◌, ◌≤◌, List, [], ◌∷◌, ◌++◌, length, slice_index, take, drop, replicate, ◌∙◌, sym, ap, subst, arith, length-append, length-drop, length-take}
use Rattle.std.proofs.lemmas.List.{append_assoc, append-nil, get_or-take, get_or_append_left, length-replicate}
use Rattle.box_sums.specs.Rows.{Keeps}
use Rattle.box_sums.specs.Tables.{AreUpTo, IsFilledUp}
use Rattle.box_sums.specs.Tails.{row_at}
use Rattle.box_sums.proofs.Parts.{append_small, part_at, same_values}
use Rattle.box_sums.proofs.Zeros.{zeros_are_small}

pub nothing_filled : (xs : List ℕ) → IsFilledUp xs xs
nothing_filled xs = record { rest = []; is = sym (append-nil xs); zeros = zeros_are_small 0 0 }

pub one_filled : (old mid new : List ℕ) → new ≡ mid ++ 0 ∷ [] → IsFilledUp old mid → IsFilledUp old new
one_filled old mid new is f = record {
  rest = f.rest ++ 0 ∷ [];
  is = is ∙ ap (λ xs. xs ++ 0 ∷ []) f.is ∙ append_assoc old f.rest (0 ∷ []);
  zeros = append_small 0 f.rest (0 ∷ []) f.zeros (zeros_are_small 0 1);
}

pub filled_small : (bound : ℕ) (old new : List ℕ) → IsFilledUp old new → AreUpTo bound old → AreUpTo bound new
filled_small bound old new f small =
    subst (AreUpTo bound) (sym f.is)
    (append_small bound old f.rest small (λ k. let zero = f.zeros k in omega (arith, zero)))

-- what a row keeps is there
pub kept_there : (table : List ℕ) (stride at reach n : ℕ) (xs : List ℕ) → Keeps (row_at table stride at) reach n xs →
    reach + n ≤ length table - at * stride
kept_there table stride at reach n xs kept =
    let some = kept.some in
    let all = length-append (replicate reach 0) xs in
    let zeros = length-replicate {A = ℕ} reach 0 in
    let last : length (drop (length xs - n) (replicate reach 0 ++ xs)) ≡ reach + n =
    rw length-drop (omega (arith, some, all, zeros)) in
    let same = ap length kept.last in
    let short : length (take (reach + n) (row_at table stride at)) ≤ length table - at * stride =
    simp (length-take, length-drop) (omega arith) in
    omega (arith, last, same, short)

-- and stays
pub filled_keeps : (old new : List ℕ) (stride at reach n : ℕ) (xs : List ℕ) → IsFilledUp old new →
    reach + n ≤ stride → Keeps (row_at old stride at) reach n xs → Keeps (row_at new stride at) reach n xs
filled_keeps old new stride at reach n xs f short kept =
    let m : ℕ = reach + n in
    let there = kept_there old stride at reach n xs kept in
    let more = ap length f.is ∙ length-append old f.rest in
    let before : length (take m (row_at old stride at)) ≡ m = simp (length-take, length-drop) (omega (arith, there, short)) in
    let after : length (take m (row_at new stride at)) ≡ m =
    simp (length-take, length-drop) (omega (arith, there, short, more)) in
    record {
      some = kept.some;
      last = same_values (take m (row_at new stride at)) (take m (row_at old stride at)) (after ∙ sym before)
          (λ k lt.
          let small : k < m = omega (arith, after, lt) in
          get_or-take m (row_at new stride at) k 0 small
          ∙ part_at (at * stride) stride new k (omega (arith, small, short))
          ∙ ap (λ ys. slice_index ys (at * stride + k)) f.is
          ∙ get_or_append_left old f.rest 0 (at * stride + k) (omega (arith, small, there))
          ∙ sym (part_at (at * stride) stride old k (omega (arith, small, short)))
          ∙ sym (get_or-take m (row_at old stride at) k 0 small))
          ∙ kept.last;
    }
