-- How many pulses there can be at most.
-- Source: this project's choice.
use Rattle.std.specs.Prelude.{ℕ, ◌*◌}

-- pulses that end at one spectrum: 6 widths of 8193 delays
abbrev pub most_pulses_at_end : ℕ
most_pulses_at_end = 6 * 8193
