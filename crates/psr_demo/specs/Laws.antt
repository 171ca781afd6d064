-- A law of the definitions; a function of this crate carries it.
-- Source: this project's choice.
use Rattle.std.specs.Prelude.{ℕ, ◌≤◌, length}
use Rattle.psr_demo.specs.Demo.{demo_candidates, demo_text, demo_end}
use Rattle.psr_demo.specs.LastLine.{IsLastLine}

-- the END line is the last line of the text
abbrev pub EndsInItsEndLine : Type 0
EndsInItsEndLine = (number : ℕ) → length (demo_candidates number) ≤ 100000 →
    IsLastLine (demo_text number) (demo_end number)
