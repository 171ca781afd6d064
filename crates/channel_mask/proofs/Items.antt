-- The numbers of an item, and the range that they make.
use Rattle.std.proofs.Common.{◌≡◌, ℕ, ◌+◌, ◌-◌, ◌<◌, ◌≤◌, Bool, true, false, ◌&&◌, ◌||◌, not, cond, List, [], ◌∷◌, ◌++◌, length, take, drop, map, find, append_assoc, codes, suc, refl, sym, ap, subst, ◌∙◌, Option, Some, None, unwrap_or, arith}
use Rattle.std.specs.Prelude.{nat_le, nat_lt, slice_index}
use Rattle.std.specs.List.{flat_map, list_all, list_any, slice_split, onto_first, position, position_or_len, join_with_byte}
use Rattle.std.specs.Str.{bytes_eq}
use Rattle.std.specs.Str.Parse.{digits_value}
use Rattle.std.proofs.lemmas.Bool.{leb-true, leb-false, ltb-true, ltb-false, le-leb, and_parts}
use Rattle.std.proofs.lemmas.List.{length-map, length-drop, take_all}
use Rattle.std.proofs.lemmas.List.Splits.{length-slice_split, slice_split_first, join_with_byte-slice_split}
use Rattle.channel_mask.specs.declared.ranges.ChannelRange.{ChannelRange}
use Rattle.channel_mask.specs.Texts.{is_comma, is_hyphen, items_of, parts_of, is_number, is_item, is_mask_text, numbers_of, lies_among}
use Rattle.channel_mask.specs.Ranges.{range_of, ends_of, has_channel}

-- ---- an item at its hyphen

abbrev found : Bool → ℕ → Option ℕ
found b place = cond b (Some place) None

found_is : (b : Bool) (place at : ℕ) → found b place ≡ Some at → (b ≡ true) × (place ≡ at)
found_is true place at e = (refl, ap (λ o. unwrap_or o 0) e)
found_is false place at e = (cc)

not_found : (b : Bool) (place : ℕ) → found b place ≡ None → b ≡ false
not_found true place e = (cc)
not_found false place e = refl

no_cut : (p : ℕ → Bool) (xs : List ℕ) → length xs ≤ position_or_len p xs → slice_split p xs ≡ xs ∷ []
no_cut p [] none = refl
no_cut p (x ∷ xs) none = by (p x) (λ more. no_cut p xs more) none
  where
    by : (b : Bool) → (length xs ≤ position_or_len p xs → slice_split p xs ≡ xs ∷ []) →
        suc (length xs) ≤ cond (not b) (1 + position_or_len p xs) 0 →
        cond b ([] ∷ slice_split p xs) (onto_first x (slice_split p xs)) ≡ (x ∷ xs) ∷ []
    by true later none = absurd (omega arith)
    by false later none = ap (onto_first x) (later (omega arith))

-- a list is cut where a test passes first
pub cut_at : (p : ℕ → Bool) (xs : List ℕ) (at : ℕ) → position p xs ≡ Some at →
    (at < length xs) × (slice_split p xs ≡ take at xs ∷ slice_split p (drop (at + 1) xs))
cut_at p xs at there =
    let place = position_or_len p xs in
    let both = found_is (nat_lt place (length xs)) place at there in
    let within = ltb-true place (length xs) both.0 in
    subst (λ n. (n < length xs) × (slice_split p xs ≡ take n xs ∷ slice_split p (drop (n + 1) xs))) both.1
    (within, slice_split_first p xs 0 within)

-- and is one part where none does
pub uncut : (p : ℕ → Bool) (xs : List ℕ) → position p xs ≡ None → slice_split p xs ≡ xs ∷ []
uncut p xs none =
    let place = position_or_len p xs in
    no_cut p xs (ltb-false place (length xs) (not_found (nat_lt place (length xs)) place none))

-- what is behind a place, to the end
pub to_end : (text : List ℕ) (n : ℕ) → take (length text - n) (drop n text) ≡ drop n text
to_end text n =
    let count = length-drop n text in
    take_all (length text - n) (drop n text) (omega arith)

alone : (parts : List (List ℕ)) (text : List ℕ) → 0 < length parts → length parts ≤ 1 →
    join_with_byte 45 parts ≡ text → parts ≡ text ∷ []
alone [] text some few e = absurd (omega arith)
alone (part ∷ []) text some few e = ap (λ t. t ∷ []) e
alone (part ∷ next ∷ more) text some few e = absurd (omega arith)

-- an item that is cut at its hyphen has two parts
pub two_parts : (item first second : List ℕ) → is_item item ≡ true →
    parts_of item ≡ first ∷ parts_of second → parts_of item ≡ first ∷ second ∷ []
two_parts item first second is cut =
    let few = leb-true (length (parts_of item)) 2 (and_parts _ _ is).0 in
    let count = ap length cut in
    let some = length-slice_split is_hyphen second in
    cut ∙ ap (λ parts. first ∷ parts)
    (alone (parts_of second) second (omega arith) (omega arith) (join_with_byte-slice_split 45 second))

-- its numbers are numbers
pub first_is_number : (item first : List ℕ) (more : List (List ℕ)) → is_item item ≡ true →
    parts_of item ≡ first ∷ more → is_number first ≡ true
first_is_number item first more is parts =
    (and_parts _ _ (sym (ap (list_all is_number) parts) ∙ (and_parts _ _ is).1)).0

pub second_is_number : (item first second : List ℕ) → is_item item ≡ true →
    parts_of item ≡ first ∷ second ∷ [] → is_number second ≡ true
second_is_number item first second is parts =
    (and_parts _ _ (and_parts _ _ (sym (ap (list_all is_number) parts) ∙ (and_parts _ _ is).1)).1).0

-- ---- the range of an item

abbrev range_from : List ℕ → ChannelRange
range_from numbers = record { from = slice_index numbers 0; to = slice_index numbers (length numbers - 1) }

pub range_of_one : (item first : List ℕ) → parts_of item ≡ first ∷ [] →
    range_of item ≡ record { from = digits_value 10 first; to = digits_value 10 first }
range_of_one item first parts = ap (λ ps. range_from (map (λ part. digits_value 10 part) ps)) parts

pub range_of_two : (item first second : List ℕ) → parts_of item ≡ first ∷ second ∷ [] →
    range_of item ≡ record { from = digits_value 10 first; to = digits_value 10 second }
range_of_two item first second parts = ap (λ ps. range_from (map (λ part. digits_value 10 part) ps)) parts

-- one number or two
numbers_some : (item : List ℕ) → 0 < length (numbers_of item)
numbers_some item =
    let count = length-slice_split is_hyphen item in
    let same = length-map (parts_of item) (λ part. digits_value 10 part) in
    omega arith

numbers_few : (item : List ℕ) → is_item item ≡ true → length (numbers_of item) ≤ 2
numbers_few item is =
    let few = leb-true (length (parts_of item)) 2 (and_parts _ _ is).0 in
    let same = length-map (parts_of item) (λ part. digits_value 10 part) in
    omega arith

-- ---- the first number that passes a test

find_ends : (p : ℕ → Bool) (numbers : List ℕ) (xs ys : List ℕ) → 0 < length numbers → length numbers ≤ 2 →
    find p xs ≡ find p ys → find p (ends_of (range_from numbers) ++ xs) ≡ find p (numbers ++ ys)
find_ends p [] xs ys some few e = absurd (omega arith)
find_ends p (a ∷ []) xs ys some few e = by (p a)
  where
    by : (b : Bool) → cond b (Some a) (cond b (Some a) (find p xs)) ≡ cond b (Some a) (find p ys)
    by true = refl
    by false = e
find_ends p (a ∷ b ∷ []) xs ys some few e =
    ap (λ o. cond (p a) (Some a) (cond (p b) (Some b) o)) e
find_ends p (a ∷ b ∷ c ∷ more) xs ys some few e = absurd (omega arith)

pub first_of_ranges : (p : ℕ → Bool) (items : List (List ℕ)) → list_all is_item items ≡ true →
    find p (flat_map ends_of (map range_of items)) ≡ find p (flat_map numbers_of items)
first_of_ranges p [] are = refl
first_of_ranges p (item ∷ items) are =
    let both = and_parts (is_item item) (list_all is_item items) are in
    find_ends p (numbers_of item) (flat_map ends_of (map range_of items)) (flat_map numbers_of items)
    (numbers_some item) (numbers_few item both.0) (first_of_ranges p items both.1)

-- ---- the channels that are named

one_number : (x y : Bool) → ((x && y) || (x && y)) ≡ ((x || false) && (y || false))
one_number true true = refl
one_number true false = refl
one_number false y = refl

two_numbers : (x y u w : Bool) → (x ≡ false → u ≡ true) → (y ≡ false → w ≡ true) →
    ((x && w) || (y && u)) ≡ ((x || (y || false)) && (u || (w || false)))
two_numbers true true true true nx ny = refl
two_numbers true true true false nx ny = refl
two_numbers true true false true nx ny = refl
two_numbers true true false false nx ny = refl
two_numbers true false true w nx ny = let e = ny refl in rw e refl
two_numbers true false false w nx ny = let e = ny refl in rw e refl
two_numbers false true u true nx ny = let e = nx refl in rw e refl
two_numbers false true u false nx ny = let e = nx refl in rw e refl
two_numbers false false u w nx ny = refl

above : (a c : ℕ) → nat_le a c ≡ false → nat_le c a ≡ true
above a c e = let less = leb-false a c e in le-leb c a (omega arith)

lies_in_range : (numbers : List ℕ) (c : ℕ) → 0 < length numbers → length numbers ≤ 2 →
    has_channel (range_from numbers) c ≡ lies_among numbers c
lies_in_range [] c some few = absurd (omega arith)
lies_in_range (a ∷ []) c some few = one_number (nat_le a c) (nat_le c a)
lies_in_range (a ∷ b ∷ []) c some few =
    two_numbers (nat_le a c) (nat_le b c) (nat_le c a) (nat_le c b) (above a c) (above b c)
lies_in_range (a ∷ b ∷ d ∷ more) c some few = absurd (omega arith)

pub named_by_ranges : (c : ℕ) (items : List (List ℕ)) → list_all is_item items ≡ true →
    list_any (λ range. has_channel range c) (map range_of items)
    ≡ list_any (λ item. lies_among (numbers_of item) c) items
named_by_ranges c [] are = refl
named_by_ranges c (item ∷ items) are =
    let both = and_parts (is_item item) (list_all is_item items) are in
    ap (λ b. b || list_any (λ range. has_channel range c) (map range_of items))
    (lies_in_range (numbers_of item) c (numbers_some item) (numbers_few item both.0))
    ∙ ap (λ b. lies_among (numbers_of item) c || b) (named_by_ranges c items both.1)

-- ---- the items of a text that is not `none`

pub items_there : (text : List ℕ) → bytes_eq text (codes "none") ≡ false → items_of text ≡ slice_split is_comma text
items_there text other = ap (λ b. cond b [] (slice_split is_comma text)) other

-- the ranges so far, and those of what is left
pub record Reads (text rest : List ℕ) (ranges : List ChannelRange) : Type 0 where
  pub items : list_all is_item (slice_split is_comma rest) ≡ true
  pub joined : map range_of (slice_split is_comma text) ≡ ranges ++ map range_of (slice_split is_comma rest)

module _ (text rest : List ℕ) (ranges : List ChannelRange) (so_far : Reads text rest ranges) where
  pub reads_item : (item behind : List ℕ) →
      slice_split is_comma rest ≡ item ∷ slice_split is_comma behind → is_item item ≡ true
  reads_item item behind cut = (and_parts _ _ (sym (ap (list_all is_item) cut) ∙ so_far.items)).0

  pub reads_more : (item behind : List ℕ) → slice_split is_comma rest ≡ item ∷ slice_split is_comma behind →
      Reads text behind (ranges ++ range_of item ∷ [])
  reads_more item behind cut = record {
    items = (and_parts _ _ (sym (ap (list_all is_item) cut) ∙ so_far.items)).1;
    joined = so_far.joined ∙ ap (λ items. ranges ++ map range_of items) cut
        ∙ sym (append_assoc ranges (range_of item ∷ []) (map range_of (slice_split is_comma behind)));
  }

  pub reads_last : slice_split is_comma rest ≡ rest ∷ [] → is_item rest ≡ true
  reads_last uncut = (and_parts _ _ (sym (ap (list_all is_item) uncut) ∙ so_far.items)).0

  pub reads_all : slice_split is_comma rest ≡ rest ∷ [] → bytes_eq text (codes "none") ≡ false →
      ranges ++ range_of rest ∷ [] ≡ map range_of (items_of text)
  reads_all uncut other =
      ap (λ items. ranges ++ map range_of items) (sym uncut) ∙ sym so_far.joined
      ∙ ap (map range_of) (sym (items_there text other))

-- at first nothing is read
pub reads_none : (text : List ℕ) → is_mask_text text ≡ true → bytes_eq text (codes "none") ≡ false → Reads text text []
reads_none text is other = record {
  items = subst (λ items. list_all is_item items ≡ true) (items_there text other) is;
  joined = refl;
}
