-- The data of the made file.
use Rattle.std.proofs.Common.{◌≡◌, ℕ, length}
use Rattle.std.proofs.lemmas.List.FromFn.{length-map-range_with_len}
use Rattle.psr_make.specs.Made.{made_data, data_part, data_byte}
use Rattle.psr_demo.specs.Demo.{demo_spec}

pub data_length : (number : ℕ) → length (made_data (demo_spec number)) ≡ 262144
unfolding data_part
data_length number = length-map-range_with_len (data_byte (demo_spec number)) 0 262144
