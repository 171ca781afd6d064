-- How rows of sums are merged, place by place.
-- Source: Staelin, Proc. IEEE 57:724, 1969 (the addition of two rows, one shifted by half of the trial).
use Rattle.std.specs.Prelude.{ℕ, ◌+◌, ◌*◌, ◌/◌, ◌%◌, ◌≡◌, ◌<◌, List, slice_index}
use Rattle.fdmt_rows.specs.Rows.{wrapping_sum}

-- each of the first values of a row is the sum of one of `first` and one of `second`, which is
-- turned
abbrev pub AddsTurnedTo : ℕ → List ℕ → List ℕ → List ℕ → ℕ → ℕ → Type 0
AddsTurnedTo end out first second p turn = (q : ℕ) → q < end
    → slice_index out q ≡ wrapping_sum (slice_index first q) (slice_index second ((q + turn) % p))

-- each value of a row is such a sum
abbrev pub AddsTurned : List ℕ → List ℕ → List ℕ → ℕ → ℕ → Type 0
AddsTurned out first second p turn = AddsTurnedTo p out first second p turn

-- phase q of row i
abbrev pub at : List ℕ → ℕ → ℕ → ℕ → ℕ
at sums p i q = slice_index sums (i * p + q)

-- phase q of trial j, merged of two blocks, whose trials are the rows from `first` on and those from `second` on
abbrev pub merged_at : List ℕ → ℕ → ℕ → ℕ → ℕ → ℕ → ℕ
merged_at sums p first second j q =
    wrapping_sum (at sums p (first + j / 2) q) (at sums p (second + j / 2) ((q + (j + 1) / 2) % p))

-- the first trials of one block, merged of its halves of `rows` trials each
abbrev pub IsMerged : List ℕ → List ℕ → ℕ → ℕ → ℕ → Type 0
IsMerged merged halves p rows trials = (j q : ℕ) → j < trials → q < p
    → at merged p j q ≡ merged_at halves p 0 rows j q

-- the first blocks of twice `rows` trials, merged of twice as many of `rows` trials
abbrev pub AreMerged : List ℕ → List ℕ → ℕ → ℕ → ℕ → Type 0
AreMerged merged sums p rows blocks = (b j q : ℕ) → b < blocks → j < 2 * rows → q < p
    → at merged p (b * (2 * rows) + j) q
    ≡ merged_at sums p (b * (2 * rows)) (b * (2 * rows) + rows) j q
