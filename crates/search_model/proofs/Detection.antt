-- The test of the detection rule, and that it rises with the sum.
use Rattle.std.proofs.Common.{ℕ, ◌≤◌, ◌↔◌, IsTrue, arith}
use Rattle.std.proofs.lemmas.Bool.{and_parts, and_from, ltb-true, lt-ltb, leb-true, le-leb}
use Rattle.std.proofs.Math.Nat.{pow-le-pow_left}
use Rattle.search_model.specs.Detection.{IsDetected, is_detected, excess}

pub detection_test : (mean sd snr sum cells : ℕ) →
    IsTrue (is_detected mean sd snr sum cells) ↔ IsDetected mean sd snr sum cells
detection_test mean sd snr sum cells = (
  λ t. let both = and_parts _ _ t in record { above = ltb-true _ _ both.0; far = leb-true _ _ both.1 },
  λ is. and_from _ _ (lt-ltb _ _ is.above) (le-leb _ _ is.far),
)

pub detection_more : (mean sd snr sum more cells : ℕ) → sum ≤ more → IsDetected mean sd snr sum cells →
    IsDetected mean sd snr more cells
detection_more mean sd snr sum more cells h is =
    let above = is.above in
    let far = is.far in
    let wide = pow-le-pow_left {n = excess mean sum cells} {m = excess mean more cells} (omega arith) 2 in
    record { above = omega arith; far = omega arith }
