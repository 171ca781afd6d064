-- What the mask of an observation is, and why a text gives none.
-- Source: this project's choice; the order of channels in a file is that of the sign of its BW (PSRDADA manual).
use Rattle.std.specs.Prelude.{◌≡◌, ℕ, ◌-◌, ◌<◌, Bool, true, false, List, length, map, slice_index_or, Some, None, if◌then◌else◌}
use Rattle.std.specs.List.{range_with_len}
use Rattle.dada_model.specs.Observation.{Observation}
use Rattle.channel_mask.specs.declared.fault.MaskFault.{MaskFault}
use Rattle.channel_mask.specs.declared.fault.MaskFault.TheVariants.{BadMask, OutOfRange, AllMasked, Memory}
use Rattle.channel_mask.specs.Texts.{is_mask_text, names_channel, first_outside}
use Rattle.channel_mask.specs.Fronts.{StopsAt}

-- the place in the order of the file of channel c, which counts from the highest frequency
abbrev pub place_in_file : ℕ → Bool → ℕ → ℕ
place_in_file channels is_falling c = if is_falling then c else channels - 1 - c

abbrev pub file_channel : Observation → ℕ → ℕ
file_channel o c = place_in_file o.channels o.is_falling c

-- the marks that a text gives `channels` channels, one for each from the highest frequency on
abbrev pub marks_for : ℕ → Bool → List ℕ → List Bool
marks_for channels is_falling text =
    map (λ c. names_channel text (place_in_file channels is_falling c))
    (range_with_len 0 channels)

-- the mask of a text for an observation
abbrev pub mask_of : Observation → List ℕ → List Bool
mask_of o text = marks_for o.channels o.is_falling text

-- whether channel c is masked, counted from the highest frequency
abbrev pub is_masked : List Bool → ℕ → Bool
is_masked mask c = slice_index_or mask c false

-- the text masks channels of the observation, and leaves one
pub record IsMaskOf (o : Observation) (text : List ℕ) (mask : List Bool) : Type 0 where
  pub is_text : is_mask_text text ≡ true
  pub within : first_outside o.channels text ≡ None
  pub mask_is : mask ≡ mask_of o text
  pub channels : length mask ≡ o.channels
  pub leaves : (c : ℕ) × (c < o.channels) × (is_masked mask c ≡ false)

-- what a fault means for a text
abbrev pub ExplainsMask : Observation → List ℕ → MaskFault → Type 0
ExplainsMask o text (BadMask place) = (is_mask_text text ≡ false) × StopsAt text place
ExplainsMask o text (OutOfRange channel channels) = (is_mask_text text ≡ true)
    × (first_outside o.channels text ≡ Some channel) × (channels ≡ o.channels)
ExplainsMask o text AllMasked = (is_mask_text text ≡ true) × (first_outside o.channels text ≡ None)
    × ((c : ℕ) → c < o.channels → names_channel text c ≡ true)
ExplainsMask o text Memory = Unit {0}
