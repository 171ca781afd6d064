-- The ranges of what is levelled.
-- Source: this project's choice.
use Rattle.std.specs.Prelude.{◌≡◌, ◌≤◌, ◌⊎◌, length}
use Rattle.std.specs.Option.{ForSome}
use Rattle.band_level.specs.declared.format.Format.{Format}
use Rattle.band_level.specs.declared.plan.Plan.{Plan}
use Rattle.band_level.specs.Levelled.{Task}

pub record FormatInRange (f : Format) : Type 0 where
  pub some_channels : 1 ≤ f.channels
  pub most_channels : f.channels ≤ 4096
  pub polarisations : (f.polarisations ≡ 1) ⊎ (f.polarisations ≡ 2)
  pub bits : (f.bits ≡ 8) ⊎ (f.bits ≡ 16)
  pub some_average : 1 ≤ f.average
  pub most_average : f.average ≤ 64

-- means, deviations and clips are thousandths
pub record PlanInRange (p : Plan) : Type 0 where
  pub some_spectra : 2 ≤ p.spectra
  pub most_spectra : p.spectra ≤ 1048576
  pub mean : p.mean ≤ 65535000
  pub deviation : p.deviation ≤ 1000000
  pub clip : ForSome p.clip (λ z. z ≤ 1000000000)
  pub most : ((p.bits ≡ 8) × (p.most ≤ 255)) ⊎ ((p.bits ≡ 16) × (p.most ≤ 65535))

pub record TaskInRange (k : Task) : Type 0 where
  pub format : FormatInRange k.format
  pub plan : PlanInRange k.plan
  pub masked : length k.masked ≡ k.format.channels
