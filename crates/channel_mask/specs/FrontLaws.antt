-- Laws of the fronts of mask texts; a function of this crate carries them.
-- Source: this project's choice.
use Rattle.std.specs.Prelude.{◌≡◌, ℕ, false, List}
use Rattle.std.specs.Option.{option_map_or}
use Rattle.channel_mask.specs.declared.front.Front.TheVariants.{Start}
use Rattle.channel_mask.specs.Texts.{is_mask_text}
use Rattle.channel_mask.specs.Fronts.{StopsAt, with_bytes, is_whole, stop_of}

-- Read byte by byte, a text stops where it stops being the front of a mask text, and it is one where all of it is read
-- and ends whole.
pub record FrontsAreRead : Type 0 where
  pub stops : (text : List ℕ) → StopsAt text (stop_of text)
  pub whole : (text : List ℕ) →
      is_mask_text text ≡ option_map_or is_whole (with_bytes Start text) false
