-- A law of mask texts; a function of this crate carries it.
-- Source: this project's choice.
use Rattle.std.specs.Prelude.{◌≡◌, ◌⊎◌, ◌↔◌, ℕ, ◌<◌, true, List, ◌∷◌, ◌++◌, All, length, codes}
use Rattle.std.specs.List.{join_with_byte}
use Rattle.dada_model.specs.Number.{IsWholeNumber}
use Rattle.channel_mask.specs.Texts.{is_mask_text}

-- a number of 1 to 9 digits, or two with a hyphen between them
abbrev pub SpellsItem : List ℕ → Type 0
SpellsItem item =
    IsWholeNumber 9 item
    ⊎ ((first : List ℕ) × (second : List ℕ) × IsWholeNumber 9 first × IsWholeNumber 9 second
    × (item ≡ first ++ 45 ∷ second))

-- one item or more, with a comma between each two
pub record SpellsItems (text : List ℕ) : Type 0 where
  pub items : List (List ℕ)
  pub some : 0 < length items
  pub each : All SpellsItem items
  pub joined : text ≡ join_with_byte 44 items

-- a mask text is `none`, or such items
abbrev pub MasksAreSpelled : Type 0
MasksAreSpelled = (text : List ℕ) →
    (is_mask_text text ≡ true) ↔ ((text ≡ codes "none") ⊎ SpellsItems text)
