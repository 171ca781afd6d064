-- Worked values of the definitions, computed.
use Rattle.std.specs.Prelude.{◌≡◌, true, false, [], ◌∷◌, map, Some, None, codes, refl}
use Rattle.channel_mask.specs.Texts.{is_mask_text, names_channel, numbers_in, first_outside}
use Rattle.channel_mask.specs.Fronts.{stop_of}
use Rattle.channel_mask.specs.Masks.{place_in_file, marks_for}

-- where texts stop being the front of a mask text: another letter of `none`, or more than it
stops_in_none : map stop_of (codes "nope" ∷ codes "nonex" ∷ codes "none,1" ∷ codes "1,none" ∷ []) ≡ 2 ∷ 4 ∷ 4 ∷ 2 ∷ []
stops_in_none = refl

-- a third number, a tenth digit, no number at all, an item without a number
stops_in_numbers : map stop_of (codes "1-2-3" ∷ codes "1234567890" ∷ [] ∷ codes "1," ∷ codes "1,,2" ∷ codes "-1" ∷ [])
    ≡ 3 ∷ 9 ∷ 0 ∷ 2 ∷ 2 ∷ 0 ∷ []
stops_in_numbers = refl

are_masks : map is_mask_text (codes "none" ∷ codes "0" ∷ codes "1-0,000000007" ∷ codes "3,3" ∷ [])
    ≡ true ∷ true ∷ true ∷ true ∷ []
are_masks = refl

are_none : map is_mask_text (codes "non" ∷ [] ∷ codes "1," ∷ codes "1-" ∷ codes "1-2-3" ∷ codes "1234567890" ∷ [])
    ≡ false ∷ false ∷ false ∷ false ∷ false ∷ false ∷ []
are_none = refl

-- the numbers in the order of the text, and the first that is no channel
numbers : numbers_in (codes "9-1,000000007") ≡ 9 ∷ 1 ∷ 7 ∷ []
numbers = refl

outside : map (λ text. first_outside 5 text) (codes "9-1,7" ∷ codes "4,0-5" ∷ codes "4" ∷ codes "none" ∷ [])
    ≡ Some 9 ∷ Some 5 ∷ None ∷ None ∷ []
outside = refl

-- the channels that are named, in either order and more than once
named : map (names_channel (codes "3-1,6,2")) (0 ∷ 1 ∷ 2 ∷ 3 ∷ 4 ∷ 5 ∷ 6 ∷ 7 ∷ [])
    ≡ false ∷ true ∷ true ∷ true ∷ false ∷ false ∷ true ∷ false ∷ []
named = refl

nothing_named : map (names_channel (codes "none")) (0 ∷ 1 ∷ []) ≡ false ∷ false ∷ []
nothing_named = refl

-- where the channels of a falling band and of a rising one stand in the file, from the highest frequency down
falling : map (place_in_file 4 true) (0 ∷ 1 ∷ 2 ∷ 3 ∷ []) ≡ 0 ∷ 1 ∷ 2 ∷ 3 ∷ []
falling = refl

rising : map (place_in_file 4 false) (0 ∷ 1 ∷ 2 ∷ 3 ∷ []) ≡ 3 ∷ 2 ∷ 1 ∷ 0 ∷ []
rising = refl

-- the marks that the same text gives four channels of either band
marks_falling : marks_for 4 true (codes "0,2-3") ≡ true ∷ false ∷ true ∷ true ∷ []
marks_falling = refl

marks_rising : marks_for 4 false (codes "0,2-3") ≡ true ∷ true ∷ false ∷ true ∷ []
marks_rising = refl

marks_none : marks_for 4 true (codes "none") ≡ false ∷ false ∷ false ∷ false ∷ []
marks_none = refl
