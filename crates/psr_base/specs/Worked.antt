-- Worked values of the definitions, computed.
use Rattle.std.specs.Prelude.{◌≡◌, pos, neg_ℤ, codes, refl}
use Rattle.std.specs.Fmt.{digits}
use Rattle.psr_base.specs.Fixed.{BeginsNumber, fixed_text}

minus_half : fixed_text 1 (neg_ℤ (pos 5)) ≡ codes "-0.5"
unfolding digits
minus_half = refl

megahertz : fixed_text 6 (neg_ℤ (pos 200000000)) ≡ codes "-200.000000"
unfolding digits
megahertz = refl

in_thousandths : fixed_text 3 (pos 24975) ≡ codes "24.975"
unfolding digits
in_thousandths = refl

whole : fixed_text 0 (pos 1400) ≡ codes "1400"
unfolding digits
whole = refl

sign_and_point : BeginsNumber (codes "-.")
sign_and_point = (codes "5", refl)
