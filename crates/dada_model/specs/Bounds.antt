-- The bounds of an accepted observation and of a band, in natural numbers.
-- Source: PSRDADA manual (the keywords); the ranges are this project's choice.
use Rattle.std.specs.Prelude.{◌≡◌, ℕ, ◌%◌, ◌+◌, ◌*◌, ◌^◌, ◌<◌, ◌≤◌}
use Rattle.dada_model.specs.Edges.{top_khz, most_centre_hz, most_channels}
use Rattle.dada_model.specs.Observation.{Observation}

-- the longest delay across a band that is searched or made, in spectra
abbrev pub most_delay : ℕ
most_delay = 8192

-- the bounds of an accepted observation
pub record ObservationInRange (o : Observation) : Type 0 where
  pub few_channels : 2 ≤ o.channels
  pub many_channels : o.channels ≤ most_channels
  pub whole_bytes : o.nbit % 8 ≡ 0
  pub few_bits : 8 ≤ o.nbit
  pub many_bits : o.nbit ≤ 16
  pub few_polarisations : 1 ≤ o.npol
  pub many_polarisations : o.npol ≤ 2
  pub short_sample : 1 ≤ o.sample_ns
  pub long_sample : o.sample_ns ≤ 2 ^ 30
  pub low_centre : 1000 ≤ o.centre_hz
  pub high_centre : o.centre_hz ≤ most_centre_hz
  pub foot : o.width_hz + 2000 ≤ 2 * o.centre_hz
  pub top : 2 * o.centre_hz + o.width_hz < 2000 * (top_khz + 1)
  pub wide : 1000 * o.channels ≤ o.width_hz
  pub early : o.obs_offset ≤ 10 ^ 15

-- `width_hz` is the absolute value of a BW in its row: not 0, where the observation's band has its foot at 1 kHz or
-- above and its top at the greatest edge or below, rounded down
pub record IsBandWidth (o : Observation) (width_hz : ℕ) : Type 0 where
  pub some : 0 < width_hz
  pub foot : o.width_hz + 2000 ≤ 2 * o.centre_hz
  pub top : 2 * o.centre_hz + o.width_hz < 2000 * (top_khz + 1)
