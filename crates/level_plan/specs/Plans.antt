-- How the data of an observation are levelled by the options of psr_level.
-- Source: this project's choice.
use Rattle.std.specs.Prelude.{ℕ, ◌≤◌, ◌*◌, ◌^◌, ◌==◌, Bool, List, map, min, unwrap_or, if◌then◌else◌}
use Rattle.std.specs.List.{range_with_len}
use Rattle.std.specs.Option.{ForSome}
use Rattle.dada_model.specs.Observation.{Observation}
use Rattle.channel_mask.specs.Texts.{names_channel}
use Rattle.band_level.specs.declared.format.Format.{Format}
use Rattle.band_level.specs.declared.plan.Plan.{Plan}
use Rattle.band_level.specs.Levelled.{Task}
use Rattle.level_words.specs.declared.settings.LevelOptions.{LevelOptions}

-- options that lie in their ranges
pub record OptionsInRange (s : LevelOptions) : Type 0 where
  pub least_spectra : 2 ≤ s.spectra
  pub most_spectra : s.spectra ≤ 1048576
  pub least_average : 1 ≤ s.average
  pub most_average : s.average ≤ 64
  pub clip : ForSome s.clip (λ n. n ≤ 1000000000)
  pub mean : ForSome s.mean (λ n. n ≤ 65535000)
  pub deviation : ForSome s.deviation (λ n. n ≤ 1000000)
  pub most : ForSome s.most (λ n. n ≤ 65535)

-- how many bits are written of a value
abbrev pub written_bits : LevelOptions → Observation → ℕ
written_bits s o = if s.is_fast then 8 else o.nbit

-- mean, deviation (in thousandths) and greatest value, if none is given
abbrev pub usual_mean : LevelOptions → Observation → ℕ
usual_mean s o = if s.is_fast then 14000 else (if o.nbit == 16 then 1000000 else 64000)

abbrev pub usual_deviation : LevelOptions → Observation → ℕ
usual_deviation s o = if s.is_fast then 2800 else (if o.nbit == 16 then 50000 else 8000)

abbrev pub usual_most : LevelOptions → Observation → ℕ
usual_most s o = if s.is_fast then 40 else (if o.nbit == 16 then 65535 else 255)

-- the greatest value of this number of bits
abbrev pub most_of : ℕ → ℕ
most_of bits = if bits == 16 then 65535 else 255

-- how the data are read
abbrev pub format_of : LevelOptions → Observation → Format
format_of s o = record {
  channels = o.channels;
  polarisations = o.npol;
  bits = o.nbit;
  signed = s.signed;
  high_byte_first = s.high_byte_first;
  average = s.average;
}

-- what they are levelled to
abbrev pub plan_of : LevelOptions → Observation → Plan
plan_of s o = record {
  spectra = s.spectra;
  mean = unwrap_or s.mean (usual_mean s o);
  deviation = unwrap_or s.deviation (usual_deviation s o);
  most = min (unwrap_or s.most (usual_most s o)) (most_of (written_bits s o));
  bits = written_bits s o;
  clip = s.clip;
  zero_dm = s.zero_dm;
}

-- the channels that a mask text names, in the order of the file
abbrev pub marks_of : List ℕ → Observation → List Bool
marks_of text o = map (λ i. names_channel text i) (range_with_len 0 o.channels)

-- what is levelled
abbrev pub task_of : LevelOptions → List ℕ → Observation → Task
task_of s text o =
    record { format = format_of s o; plan = plan_of s o; masked = marks_of text o }

-- a search takes spectra as long as the averaged ones are
abbrev pub FitsTime : LevelOptions → Observation → Type 0
FitsTime s o = o.sample_ns * s.average ≤ 2 ^ 30
