-- Worked values of the definitions, computed.
use Rattle.std.specs.Prelude.{◌≡◌, true, false, [], ◌∷◌, map, refl}
use Rattle.psr_make.specs.Draws.{draw}
use Rattle.psr_make.specs.Pulses.{is_passed}
use Rattle.psr_make.specs.declared.spec.MakeSpec.{MakeSpec}

first_draw : draw 0 0 ≡ 0xe220a8397b1dcdaf
unfolding draw
first_draw = refl

second_draw : draw 0 1 ≡ 0x6e789e6aa1b965f4
unfolding draw
second_draw = refl

-- six spectra, in which pulses of two spectra follow one another every three: the pulse of spectrum 0 reaches the foot
-- at spectrum 2 and that of spectrum 3 at spectrum 5
abbrev six : MakeSpec
six = record {
  number = 0;
  channels = 2;
  spectra = 6;
  delay = 2;
  period = 3;
  height = 1;
  nbit = 8;
  npol = 1;
}

-- a channel that pulses leave after a spectrum, and the one below it
upper : map (is_passed six 0 1) (0 ∷ 1 ∷ 2 ∷ 3 ∷ 4 ∷ 5 ∷ [])
    ≡ true ∷ true ∷ false ∷ true ∷ true ∷ false ∷ []
unfolding is_passed
upper = refl

lower : map (is_passed six 1 2) (0 ∷ 1 ∷ 2 ∷ 3 ∷ 4 ∷ 5 ∷ [])
    ≡ false ∷ true ∷ true ∷ false ∷ true ∷ true ∷ []
unfolding is_passed
lower = refl
