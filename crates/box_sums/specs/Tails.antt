-- What is kept of the rows that are fed.
-- Source: this project's choice.
use Rattle.std.specs.Prelude.{ℕ, ◌+◌, ◌-◌, ◌*◌, ◌^◌, ◌≡◌, ◌≢◌, ◌<◌, ◌≤◌, ◌++◌, List, Option, length, take, drop}
use Rattle.std.specs.List.{All}
use Rattle.box_sums.specs.Excess.{plain_sums}
use Rattle.box_sums.specs.Rows.{Keeps}

-- What contracts see: the rows are those from `first` to `last`, a feed has at most `chunk` values of at most `bound`.
-- Boxes need up to `reach` values before a feed: `tails` has these for the next feed of each row, one row after
-- another. `line` has them and the feed of the row `newest` that was fed last, with `fed` values, and `kept` the lines
-- of the rows that were kept.
pub record RowTails : Type 0 where
  pub first : ℕ
  pub last : ℕ
  pub chunk : ℕ
  pub widest : ℕ
  pub bound : ℕ
  pub reach : ℕ
  pub tails : List ℕ
  pub newest : ℕ
  pub fed : ℕ
  pub line : List ℕ
  pub kept : List ℕ

-- row `at` of a table of rows of `stride` values
abbrev pub row_at : List ℕ → ℕ → ℕ → List ℕ
row_at table stride at = take stride (drop (at * stride) table)

-- xs are the values that were fed of row d
abbrev pub StandsForRow : RowTails → ℕ → List ℕ → Type 0
StandsForRow b d xs = Keeps (row_at b.tails b.reach (d - b.first)) b.reach 0 xs

-- row d was fed last, with the last n of the values xs
pub record IsNewest (b : RowTails) (d n : ℕ) (xs : List ℕ) : Type 0 where
  pub row : b.newest ≡ d
  pub count : b.fed ≡ n
  pub line : Keeps b.line b.reach n xs

-- row d was kept when it was fed with the last n of the values xs
pub record IsKept (b : RowTails) (d n : ℕ) (xs : List ℕ) : Type 0 where
  pub short : n ≤ b.chunk
  pub line : Keeps (row_at b.kept (b.reach + b.chunk) (d - b.first)) b.reach n xs

-- the values xs were fed of row d, the last n of them in its last feed, and it was kept then
pub record HasLastFeed (b : RowTails) (d n : ℕ) (xs : List ℕ) : Type 0 where
  pub fed : StandsForRow b d xs
  pub feed : IsKept b d n xs

-- d is one of the rows
pub record KeepsRow (b : RowTails) (d : ℕ) : Type 0 where
  pub above : b.first ≤ d
  pub below : d ≤ b.last

-- row d was fed with these values, behind those that were fed of it before
abbrev pub FeedsRow : RowTails → RowTails → ℕ → List ℕ → Type 0
FeedsRow b c d feed = (xs : List ℕ) → StandsForRow b d xs → StandsForRow c d (xs ++ feed)

-- each row but row d stands for what it stood for before
abbrev pub LeavesOthers : RowTails → RowTails → ℕ → Type 0
LeavesOthers b c d =
    (e : ℕ) (xs : List ℕ) → KeepsRow b e → e ≢ d → StandsForRow b e xs → StandsForRow c e xs

-- both are opened alike
pub record AreAlike (b c : RowTails) : Type 0 where
  pub first : b.first ≡ c.first
  pub last : b.last ≡ c.last
  pub chunk : b.chunk ≡ c.chunk
  pub widest : b.widest ≡ c.widest
  pub bound : b.bound ≡ c.bound

-- the sums of two rows can be fed to row d, if boxes are wider than one value, and be judged by
-- thresholds, each there or not, for the widths 1, 2, 4 and so on up to some width
pub record CanFeedHalves (b : RowTails) (d : ℕ) (upper lower : List ℕ)
    (leasts : List (Option ℕ)) : Type 0 where
  pub row : KeepsRow b d
  pub wide : 1 < b.widest
  pub same : length lower ≡ length upper
  pub short : length upper ≤ b.chunk
  pub small : All (λ x. x ≤ b.bound) (plain_sums upper lower)
  pub few : length leasts ≤ 6
  pub within : (level : ℕ) → level < length leasts → 2 ^ level ≤ b.widest

-- opened with these
pub record IsOpened (b : RowTails) (first last chunk widest bound : ℕ) : Type 0 where
  pub first_is : b.first ≡ first
  pub last_is : b.last ≡ last
  pub chunk_is : b.chunk ≡ chunk
  pub widest_is : b.widest ≡ widest
  pub bound_is : b.bound ≡ bound
