-- The pulses: at which spectra they pass a channel.
-- Source: Zackay & Ofek, ApJ 835:11, 2017, section 2 (the delay of a pulse at each edge of the channels); the train is
-- this project's choice.
use Rattle.std.specs.Prelude.{ℕ, ◌+◌, ◌*◌, ◌<◌, ◌≤◌, Bool, ◌&&◌, nat_lt, nat_le}
use Rattle.std.specs.List.{list_any, range_with_len}
use Rattle.psr_make.specs.declared.spec.MakeSpec.{MakeSpec}

-- Pulse k begins k periods after the first spectrum, and there is one where it reaches the foot of the band within the
-- spectra. It passes a channel, which pulses enter and leave after these delays, at spectrum t.
abbrev pub passes : MakeSpec → ℕ → ℕ → ℕ → ℕ → Bool
passes s enters leaves t k =
    let start = k * s.period in
    nat_lt (s.delay + start) s.spectra && (nat_le (enters + start) t && nat_le t (leaves + start))

-- some pulse does; there are no more of them than spectra
unfoldable pub is_passed : MakeSpec → ℕ → ℕ → ℕ → Bool
is_passed s enters leaves t = list_any (passes s enters leaves t) (range_with_len 0 s.spectra)

-- the same, where pulses are at least a spectrum apart
abbrev pub IsPassed : MakeSpec → ℕ → ℕ → ℕ → Type 0
IsPassed s enters leaves t = (k : ℕ) × (s.delay + k * s.period < s.spectra)
    × (enters + k * s.period ≤ t) × (t ≤ leaves + k * s.period)
