-- The greatest of the sums of two rows.
use Rattle.std.proofs.Common.{◌≡◌, ℕ, ◌+◌, ◌<◌, ◌≤◌, List, length, slice_index, max, ◌∙◌, sym, ap, arith}
use Rattle.std.proofs.lemmas.List.{get_or_default, same_lists}
use Rattle.std.proofs.lemmas.Simd.{get_or-zip2, length-zip2}
use Rattle.fdmt_rows.specs.Lanes.{AreLaneGreatest}
use Rattle.fdmt_rows.specs.Rows.{sums_of, wrapping_sum}
use Rattle.fdmt_rows.specs.Writes.{Writes}
use Rattle.fdmt_rows.proofs.GreatestValues.{lanes_more}

-- a sum of two rows of one length
pub sum_at : (a b : List ℕ) (k : ℕ) → length a ≡ length b → k < length a
    → slice_index (sums_of a b) k ≡ wrapping_sum (slice_index a k) (slice_index b k)
sum_at a b k same lt = get_or-zip2 wrapping_sum a b k 0 0 0 lt (omega arith)

-- the sums of a step more
pub sums_more : (a b lanes new : List ℕ) (done : ℕ) → length a ≡ length b → done + 16 ≤ length a
    → AreLaneGreatest (sums_of a b) lanes done → length new ≡ 16
    → ((j : ℕ) → j < 16 → slice_index new j
    ≡ max (slice_index lanes j) (wrapping_sum (slice_index a (done + j)) (slice_index b (done + j))))
    → AreLaneGreatest (sums_of a b) new (done + 16)
sums_more a b lanes new done same room so_far long is =
    lanes_more (sums_of a b) lanes new done so_far long
    (λ j lt. is j lt ∙ ap (λ y. max (slice_index lanes j) y) (sym (sum_at a b (done + j) same (omega arith))))

-- all sums are written
pub all_written : (old new a b : List ℕ) (end : ℕ) → length new ≡ length a → length a ≡ length b → length new ≤ end
    → Writes old new 0 end (λ k. wrapping_sum (slice_index a k) (slice_index b k)) → sums_of a b ≡ new
all_written old new a b end long same all writes =
    let sums : length (sums_of a b) ≡ length a = length-zip2 wrapping_sum a b same in
    same_lists (sums_of a b) new (sums ∙ sym long)
    (λ k d lt. get_or_default (sums_of a b) k d 0 lt ∙ sum_at a b k same (omega arith)
    ∙ sym (writes.written k (omega arith) (omega arith)) ∙ get_or_default new k 0 d (omega arith))
