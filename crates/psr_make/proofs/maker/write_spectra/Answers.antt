use Rattle.std.proofs.Common.{◌+◌, ◌*◌, ◌/◌, ◌≡◌, ℕ, ap, subst, ◌∙◌, length}
use Rattle.psr_make.specs.Draws.{state_after}
use Rattle.psr_make.specs.Noise.{AreNoise}
use Rattle.psr_make.specs.Made.{value_bytes, spectrum_bytes, data_part}
use Rattle.psr_make.specs.Making.{values_before}
use Rattle.psr_make.proofs.DataBytes.{noise_low, data_is, whole_bytes, values_are}
use Rattle.psr_make.proofs.maker.write_spectra.Goals as goal

pub fill_noise-requires-clause-whole : goal.fill_noise-requires-clause-whole
fill_noise-requires-clause-whole c =
    let s = c.args.spec.now in
    rw (c.value_bytes.ensures, ← c.requires.whole) (whole_bytes s c.args.count c.requires.spec)

pub raise_train-requires-clause-low : goal.raise_train-requires-clause-low
raise_train-requires-clause-low c =
    let s = c.args.spec.now in
    noise_low s.number (values_before s c.args.first) c.value_bytes.result c.fill_noise.new.draws
    c.fill_noise.new.values (c.fill_noise.ensures s.number (values_before s c.args.first) c.requires.draws)

pub returns-clause-data : goal.returns-clause-data
returns-clause-data c =
    let s = c.args.spec.now in
    let first : ℕ = c.args.first in
    let are : AreNoise s.number (values_before s first) (value_bytes s) c.fill_noise.new.draws c.fill_noise.new.values =
    subst (λ (w : ℕ). AreNoise s.number (values_before s first) w c.fill_noise.new.draws c.fill_noise.new.values)
    c.value_bytes.ensures (c.fill_noise.ensures s.number (values_before s first) c.requires.draws) in
    data_is s first c.fill_noise.new.draws c.fill_noise.new.values c.raise_train.new.bytes c.requires.spec
    c.raise_train.auto.bytes are c.raise_train.ensures
    ∙ ap (data_part s (first * spectrum_bytes s)) c.fill_noise.auto.values

pub returns-clause-draws : goal.returns-clause-draws
returns-clause-draws c =
    let s = c.args.spec.now in
    let first : ℕ = c.args.first in
    let stands = (c.fill_noise.ensures s.number (values_before s first) c.requires.draws).stands in
    let count : values_before s first + length c.fill_noise.new.values / c.value_bytes.result
    ≡ values_before s (first + c.args.count) =
    rw (c.value_bytes.ensures, c.fill_noise.auto.values, ← c.requires.whole)
    (values_are s first c.args.count c.requires.spec) in
    stands ∙ ap (state_after s.number) count
