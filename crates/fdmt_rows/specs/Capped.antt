-- Sums in 16 bits, of which the greatest stands for itself and for all that are greater.
-- Source: this project's choice.
use Rattle.std.specs.Prelude.{ℕ, ◌+◌, ◌≡◌, ◌<◌, ◌≤◌, List, length, min, slice_index}

-- a number in 16 bits: the greatest one stands for itself and for all that are greater
abbrev pub capped : ℕ → ℕ
capped n = min n 65535

-- the sum of two numbers of 16 bits
abbrev pub capped_sum : ℕ → ℕ → ℕ
capped_sum x y = capped (x + y)

-- no lane is above a bound
abbrev pub LanesUpTo : List ℕ → ℕ → Type 0
LanesUpTo lanes bound = (lane : ℕ) → slice_index lanes lane ≤ bound

-- lanes were raised to some numbers: of what is a bound of these, and only of that, the lanes are now below
pub record AreRaised (old new : List ℕ) (UpTo : ℕ → Type 0) : Type 0 where
  pub long : length new ≡ 16
  pub before : (bound : ℕ) → LanesUpTo new bound → LanesUpTo old bound
  pub enough : (bound : ℕ) → LanesUpTo new bound → UpTo bound
  pub least : (bound : ℕ) → LanesUpTo old bound → UpTo bound → LanesUpTo new bound

-- the sums of the first values of two rows, the second from a place on, are no greater than a bound
abbrev pub SumsUpTo : List ℕ → List ℕ → ℕ → ℕ → ℕ → Type 0
SumsUpTo first second turn count bound =
    (k : ℕ) → k < count → capped_sum (slice_index first k) (slice_index second (k + turn)) ≤ bound

-- the sums of the first values of two rows are no greater than a bound
abbrev pub FirstSumsUpTo : List ℕ → List ℕ → ℕ → ℕ → Type 0
FirstSumsUpTo a b count bound =
    (k : ℕ) → k < count → capped_sum (slice_index a k) (slice_index b k) ≤ bound
