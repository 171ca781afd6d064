-- The items of a mask text as ranges of channels.
-- Source: this project's choice.
use Rattle.std.specs.Prelude.{ℕ, ◌-◌, List, [], ◌∷◌, length, slice_index, nat_le, ◌&&◌, ◌||◌, Bool}
use Rattle.std.specs.List.{list_any}
use Rattle.channel_mask.specs.declared.ranges.ChannelRange.{ChannelRange}
use Rattle.channel_mask.specs.Masks.{place_in_file}
use Rattle.channel_mask.specs.Texts.{numbers_of}

-- from the first number of an item to the last, which may be the same
abbrev pub range_of : List ℕ → ChannelRange
range_of item = record {
  from = slice_index (numbers_of item) 0;
  to = slice_index (numbers_of item) (length (numbers_of item) - 1);
}

-- both numbers of a range
abbrev pub ends_of : ChannelRange → List ℕ
ends_of range = range.from ∷ range.to ∷ []

-- whether c lies between them, both included
abbrev pub has_channel : ChannelRange → ℕ → Bool
has_channel range c = (nat_le range.from c && nat_le c range.to)
    || (nat_le range.to c && nat_le c range.from)

-- whether ranges in the order of a file name the channel that is c-th from the highest frequency
abbrev pub mark_of : List ChannelRange → ℕ → Bool → ℕ → Bool
mark_of ranges channels is_falling c =
    list_any (λ range. has_channel range (place_in_file channels is_falling c)) ranges
