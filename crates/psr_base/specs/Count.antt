-- Counts of calls and of faults.
-- Source: this project's choice.
use Rattle.std.specs.Prelude.{ℕ, ◌+◌, ◌-◌, ◌^◌, ◌≤◌, min, List, Contains}

-- a count after one more, which stays at the greatest u64
abbrev pub next_count : ℕ → ℕ
next_count count = min (count + 1) (2 ^ 64 - 1)

-- a count rose, or stands at the greatest u64
abbrev pub Rose : ℕ → ℕ → Type 0
Rose old new = next_count old ≤ new

-- the calls of an object in memory: the numbers of those that are to fail, the number of the next one, and how many
-- failed
pub record CallCount : Type 0 where
  pub fail : List ℕ
  pub number : ℕ
  pub faults : ℕ

-- the next call is to fail
abbrev pub FailsNext : CallCount → Type 0
FailsNext calls = Contains calls.fail calls.number

-- after a call that did not fail
abbrev pub after_call : CallCount → CallCount
after_call calls = record calls { number = next_count calls.number }

-- after a call that failed
abbrev pub after_fault : CallCount → CallCount
after_fault calls = record calls {
  number = next_count calls.number;
  faults = next_count calls.faults;
}
