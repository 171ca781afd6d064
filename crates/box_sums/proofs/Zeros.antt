-- Rows of which none is fed.
use Rattle.std.proofs.Common.{◌≡◌, refl, ℕ, ◌+◌, ◌-◌, ◌*◌, ◌^◌, ◌<◌, ◌≤◌, inl, inr, List, [], length, slice_index, take, drop, replicate, ◌++◌, ◌∙◌, sym, ap, arith}
use Rattle.std.proofs.lemmas.Bool.{cases_lt}
use Rattle.std.proofs.lemmas.List.{length-replicate, get_or-replicate, get_or_past, get_or-take, append-nil}
use Rattle.dada_model.specs.Bounds.{most_delay}
use Rattle.search_model.specs.Search.{longest_chunk}
use Rattle.fdmt_rows.specs.Rows.{sum_from}
use Rattle.box_sums.specs.Tails.{RowTails, row_at}
use Rattle.box_sums.specs.Rows.{Keeps, IsWidth}
use Rattle.box_sums.specs.Tables.{AreMade, AreUpTo, TablesAreSound}
use Rattle.box_sums.proofs.Parts.{part_length, part_at, drop_small, same_values}
use Rattle.box_sums.proofs.Feeding.{sum_bound}

pub zero_at : (n k : ℕ) → slice_index (replicate n 0) k ≡ 0
zero_at n k = elim (cases_lt k n) [
  | inl h ↦ get_or-replicate n k 0 0 h
  | inr h ↦ let long : length {A = ℕ} (replicate n 0) ≡ n = length-replicate {A = ℕ} n 0 in get_or_past
      (replicate n 0) k 0 (omega (arith, long))
]

pub zeros_are_small : (bound n : ℕ) → AreUpTo bound (replicate n 0)
zeros_are_small bound n k = let zero = zero_at n k in omega (arith, zero)

pub zeros_keep : (n reach at : ℕ) → (at + 1) * reach ≤ n → Keeps (row_at (replicate n 0) reach at) reach 0 []
zeros_keep n reach at room =
    let long : length {A = ℕ} (replicate n 0) ≡ n = length-replicate {A = ℕ} n 0 in
    let row = row_at (replicate n 0) reach at in
    let row_long : length row ≡ reach = part_length (at * reach) reach (replicate n 0) (omega (arith, long)) in
    let front_long : length (take (reach + 0) row) ≡ reach + 0 = part_length 0 (reach + 0) row (omega arith) in
    let zeros : List ℕ = replicate reach 0 in
    let back : zeros ++ [] ≡ zeros = append-nil zeros in
    let back_long : length (zeros ++ []) ≡ reach = ap length back ∙ length-replicate {A = ℕ} reach 0 in
    record {
      some = omega arith;
      last = same_values (take (reach + 0) row) (zeros ++ []) (omega (arith, front_long, back_long))
          (λ k h.
          get_or-take (reach + 0) row k 0 (omega (arith, front_long))
          ∙ part_at (at * reach) reach (replicate n 0) k (omega (arith, front_long))
          ∙ zero_at n (at * reach + k)
          ∙ sym (ap (λ ys. slice_index ys k) back ∙ zero_at reach k));
    }

-- all boxes of zeros are zeros
no_sum : (rows i w : ℕ) → sum_from (replicate rows 0) i w ≡ 0
no_sum rows i w =
    let none = sum_bound 0 w (drop i (replicate rows 0)) (drop_small 0 i (replicate rows 0)
    (zeros_are_small 0 rows)) in
    omega (arith, none)

zeros_made : (n cells rows stride total made : ℕ)
    → AreMade (replicate rows 0) total (replicate cells 0) stride (replicate n 0) made
zeros_made n cells rows stride total made = record {
  sums = λ m i lt room. zero_at cells (m * stride + i) ∙ sym (no_sum rows i (2 ^ (m + 1)));
  bounds = λ m i some le room. let none = no_sum rows i (2 ^ m) in omega (arith, none);
}

-- what is opened
abbrev pub opened : ℕ → ℕ → ℕ → ℕ → ℕ → ℕ → List ℕ → List ℕ → List ℕ → RowTails
opened first last chunk widest bound reach tails line kept = record {
  first = first;
  last = last;
  chunk = chunk;
  widest = widest;
  bound = bound;
  reach = reach;
  tails = tails;
  newest = first;
  fed = 0;
  line = line;
  kept = kept;
}

-- a box of several values is not on the lowest level
pub some_level : (level w : ℕ) → 2 ^ level ≡ w → 2 ≤ w → 1 ≤ level
some_level level w power wide = elim (cases_lt level 1) [
  | inl h ↦
      let zero : level ≡ 0 = omega arith in
      let one : 2 ^ level ≡ 1 = ap (λ m. 2 ^ m) zero in
      absurd (omega (arith, power, one))
  | inr h ↦ h
]

pub zeros_sound : (first last chunk widest bound reach levels memory : ℕ)
    → (last - first + 1) * (reach + chunk) ≤ memory → first ≤ last → last ≤ most_delay → 1 ≤ chunk → chunk ≤ longest_chunk → IsWidth widest → bound * widest < 2 ^ 32
    → widest ≤ reach + 1 → reach ≤ 32 → (widest ≤ 1 → reach ≡ 0) → (1 < widest → 16 ≤ reach) → 2 ^ levels ≡ widest
    → TablesAreSound (opened first last chunk widest bound reach (replicate ((last - first + 1) * reach) 0)
    (replicate (reach + chunk) 0) [])
    (replicate (5 * (reach + chunk)) 0) (replicate 6 0) levels memory (reach + chunk)
zeros_sound first last chunk widest bound reach levels memory room order few some most width fits enough near alone
    lanes power =
    let stride : ℕ = reach + chunk in
    let rows : ℕ = last - first + 1 in
    record {
      order = order;
      few_rows = few;
      some = some;
      most = most;
      width = width;
      enough = enough;
      near = near;
      alone = alone;
      lanes = lanes;
      fits = fits;
      above = omega arith;
      below = order;
      short = omega arith;
      tails_room = length-replicate {A = ℕ} (rows * reach) 0;
      line_room = length-replicate {A = ℕ} stride 0;
      kept_room = room;
      boxes_room = length-replicate {A = ℕ} (5 * stride) 0;
      greatest_room = length-replicate {A = ℕ} 6 0;
      excess_fits = refl;
      small_tails = zeros_are_small bound (rows * reach);
      small_line = zeros_are_small bound stride;
      small_kept = zeros_are_small bound 0;
      some_made = λ wide. some_level levels widest power wide;
      narrow_made = omega (arith, power);
      are_made = zeros_made 6 (5 * stride) stride stride (reach + 0) levels;
    }
