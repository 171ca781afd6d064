-- Laws of the definitions; the functions of this crate carry them.
-- Source: PSRDADA manual (the keywords); the ranges are this project's choice.
use Rattle.std.specs.Prelude.{◌≡◌, ℕ, ◌+◌, ◌-◌, ◌*◌, ◌/◌, ◌^◌, ◌<◌, ◌≤◌, ◌⊎◌, ◌↔◌, Bool, true, false, if◌then◌else◌, List, [], ◌∷◌, ◌++◌, All, length, Some, Ok, ℤ, pos, neg_ℤ, unsigned_abs, codes}
use Rattle.std.specs.Char.{IsAsciiDigit}
use Rattle.std.specs.Str.Parse.{digits_value}
use Rattle.dada_model.specs.declared.key.Key.{Key}
use Rattle.dada_model.specs.declared.key.Key.TheVariants.{Bw}
use Rattle.dada_model.specs.Number.{number_value}
use Rattle.dada_model.specs.Fields.{Field}
use Rattle.dada_model.specs.Observation.{Observation, number_of, observation_in, is_in_row, observation_of, edge, edges, dispersion_span}
use Rattle.dada_model.specs.Bounds.{most_delay, ObservationInRange, IsBandWidth}
use Rattle.dada_model.specs.Edges.{AreEdges}

-- ---- observations

-- a header has a number for a key, and it lies in the key's row
pub record HasNumberInRow (fields : List Field) (key : Key) : Type 0 where
  pub number : ℤ
  pub is : number_of fields key ≡ Ok number
  pub in_row : is_in_row (observation_in fields) key number ≡ true

-- a header is accepted exactly where each key has a number in its row and each channel 1 kHz at least; its observation
-- is that of its numbers
abbrev pub AcceptedByRows : Type 0
AcceptedByRows = (fields : List Field) (o : Observation) →
    (observation_of fields ≡ Ok o)
    ↔ ((o ≡ observation_in fields) × ((key : Key) → HasNumberInRow fields key)
    × (1000 * o.channels ≤ o.width_hz))

-- an accepted observation lies within its bounds
abbrev pub AcceptedIsInRange : Type 0
AcceptedIsInRange =
    (fields : List Field) (o : Observation) → observation_of fields ≡ Ok o → ObservationInRange o

-- the row of BW in natural numbers
abbrev pub BandsInRow : Type 0
BandsInRow =
    (o : Observation) (z : ℤ) → 0 < o.channels →
    (is_in_row o Bw z ≡ true) ↔ IsBandWidth o (unsigned_abs z)

-- ---- edges

-- an observation within its bounds has such edges
abbrev pub EdgesFall : Type 0
EdgesFall = (o : Observation) → ObservationInRange o → AreEdges o.channels (edges o)

-- its edge k in natural numbers
abbrev pub EdgesAreQuotients : Type 0
EdgesAreQuotients = (o : Observation) (k : ℕ) → ObservationInRange o → k ≤ o.channels →
    edge o k
    ≡ (2 * o.centre_hz * o.channels + o.width_hz * o.channels - 2 * o.width_hz * k)
    / (2000 * o.channels)

-- no number in its dispersion measure reaches 2^122, up to the greatest delay
abbrev pub DispersionFits : Type 0
DispersionFits = (o : Observation) (d : ℕ) → ObservationInRange o → d ≤ most_delay →
    d * o.sample_ns * 241 * dispersion_span o < 2 ^ 122

-- ---- number texts

-- a minus; or a plus or nothing
abbrev pub IsSign : Bool → List ℕ → Type 0
IsSign true sign = sign ≡ codes "-"
IsSign false sign = (sign ≡ []) ⊎ (sign ≡ codes "+")

-- the text spells a number: a sign, the digits before the point and those after it; without digits after
-- it, there may be no point
pub record Spells (text : List ℕ) (negative : Bool) (whole fraction : List ℕ) : Type 0 where
  pub sign : List ℕ
  pub signed : IsSign negative sign
  pub digits : All IsAsciiDigit (whole ++ fraction)
  pub some : 0 < length (whole ++ fraction)
  pub spelled : (text ≡ sign ++ (whole ++ (46 ∷ fraction)))
      ⊎ ((text ≡ sign ++ whole) × (fraction ≡ []))

-- what it spells with k decimals: the digits as a whole number, scaled, and dropped towards zero
abbrev pub spelled_value : ℕ → Bool → List ℕ → List ℕ → ℤ
spelled_value k negative whole fraction =
    let magnitude = digits_value 10 (whole ++ fraction) * 10 ^ k / 10 ^ length fraction in
    if negative then neg_ℤ (pos magnitude) else pos magnitude

-- a text has a value exactly where it spells a number, and then that one
abbrev pub NumbersAreSpelled : Type 0
NumbersAreSpelled = (k : ℕ) (text : List ℕ) (z : ℤ) →
    (number_value k text ≡ Some z)
    ↔ ((negative : Bool) × (whole : List ℕ) × (fraction : List ℕ)
    × Spells text negative whole fraction
    × (z ≡ spelled_value k negative whole fraction))
