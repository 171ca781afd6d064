use Rattle.std.proofs.Common.{◌≡◌, ℕ, ◌≤◌, ◌+◌, ◌-◌, ◌*◌, List, [], ◌∷◌, map, sum, true, slice_index, arith, refl, sym, ap, ◌∙◌}
use Rattle.std.specs.List.{range_with_len, flat_map}
use Rattle.std.proofs.lemmas.List.Sums.{sum_by-append, sum_by-cons}
use Rattle.std.proofs.lemmas.List.FromFn.{sum_by-map-range_with_len_more}
use Rattle.search_model.specs.Samples.{filterbank}
use Rattle.search_model.specs.Sums.{channel_cells}
use Rattle.band_paths.proofs.Bands.{delay_le}
use Rattle.band_paths.proofs.sums.path_sum.Goals as goal

-- what lists have together
sum_flat_map : (f : ℕ → List ℕ) (xs : List ℕ) → sum (flat_map f xs) ≡ sum (map (λ x. sum (f x)) xs)
sum_flat_map f [] = refl
sum_flat_map f (x ∷ xs) =
    sum_by-append (λ (y : ℕ). y) (f x) (flat_map f xs) ∙ ap (λ t. sum (f x) + t) (sum_flat_map f xs)
    ∙ sym (sum_by-cons (λ (y : ℕ). y) (sum (f x)) (map (λ y. sum (f y)) xs))

-- one channel more, from the delay e to the next, where each cell is at most m
one_more : (m c e next total here : ℕ) → e ≤ next → total ≤ m * (c + e) → here ≤ m * (next + 1 - e) →
    total + here ≤ m * (c + 1 + next)
one_more m c e next total here h before now =
    let step : c + 1 + next ≡ c + e + (next + 1 - e) = omega arith in
    rw step (omega arith)

pub overflow_add-total : goal.overflow_add-total
overflow_add-total c =
    let here = delay_le c.args.n c.args.delays.now c.requires.delays c.loop-c.c (c.args.n - c.loop-c.c) (omega arith) in
    let next = delay_le c.args.n c.args.delays.now c.requires.delays (c.loop-c.c + 1) (c.args.n - c.loop-c.c - 1)
    (omega arith) in
    let last = c.requires.delays.last in
    let before = c.loop-c.invariant.1 1048576 c.requires.small in
    let bound = c.channel_sum-total.ensures.bound 1048576 c.requires.small in
    omega arith

pub loop-c-preserved : goal.loop-c-preserved
loop-c-preserved c =
    let f = filterbank c.args.n true c.args.samples.now in
    let delays = c.args.delays.now in
    let k = c.loop-c.c in
    let more = sum_by-map-range_with_len_more (λ (x : ℕ). x)
    (λ i. sum (channel_cells f delays (slice_index delays c.args.n) c.args.u 0 i)) 0 k k (omega arith) in
    let before = c.loop-c.invariant.0 in
    let value = c.channel_sum-total.ensures.value in (
      omega arith,
      λ m all. one_more m k (slice_index delays k) (slice_index delays (k + 1)) _ _
          (c.requires.delays.rise k (omega arith))
          (c.loop-c.invariant.1 m all) (c.channel_sum-total.ensures.bound m all),
    )

pub returns : goal.returns
returns c =
    let f = filterbank c.args.n true c.args.samples.now in
    let d = slice_index c.args.delays.now c.args.n in
    let whole : c.loop-c.c ≡ c.args.n = omega arith in
    let all = rw whole at c.loop-c.invariant.0 in
    record {
      value = all ∙ sym (sum_flat_map (λ i. channel_cells f c.args.delays.now d c.args.u 0 i)
          (range_with_len 0 c.args.n));
      bound = rw whole at c.loop-c.invariant.1;
    }
