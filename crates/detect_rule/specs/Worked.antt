-- Worked values of the detection rule, computed.
use Rattle.std.specs.Prelude.{◌≡◌, true, false, refl}
use Rattle.search_model.specs.Detection.{is_detected}

-- at a mean of 20, a standard deviation of 1 and an snr of 5, a box of 4 cells is detected from 90 on
at_the_threshold : is_detected 20000 1000 500 90 4 ≡ true
at_the_threshold = refl

just_below : is_detected 20000 1000 500 89 4 ≡ false
just_below = refl
