-- The marks of the channels that a text names.
use Rattle.std.proofs.Common.{◌≡◌, ℕ, ◌+◌, ◌<◌, Bool, true, false, List, [], ◌∷◌, ◌++◌, length, map, find, zero, suc, refl, sym, ap, ◌∙◌, None, arith}
use Rattle.std.specs.Prelude.{nat_le, slice_index_or}
use Rattle.std.specs.List.{flat_map, list_all, range_with_len}
use Rattle.std.proofs.lemmas.List.{length-map}
use Rattle.std.proofs.lemmas.List.FromFn.{length-range_with_len, map-range_with_len_more, get_or-map-range_with_len}
use Rattle.dada_model.specs.Observation.{Observation}
use Rattle.channel_mask.specs.declared.ranges.ChannelRange.{ChannelRange}
use Rattle.channel_mask.specs.Texts.{items_of, is_mask_text, names_channel, first_outside}
use Rattle.channel_mask.specs.Ranges.{range_of, ends_of, mark_of}
use Rattle.channel_mask.specs.MaskLaws.{MasksAreNotRefused}
use Rattle.channel_mask.specs.declared.fault.MaskFault.TheVariants.{BadMask, OutOfRange, AllMasked, Memory}
use Rattle.channel_mask.specs.Masks.{place_in_file, file_channel, is_masked, mask_of, IsMaskOf}
use Rattle.channel_mask.proofs.Items.{first_of_ranges, named_by_ranges}

-- the channel of a file is found again by the same count
pub file_channel_twice : (o : Observation) (c : ℕ) → c < o.channels → file_channel o (file_channel o c) ≡ c
file_channel_twice o c small = by o.is_falling
  where
    by : (f : Bool) → place_in_file o.channels f (place_in_file o.channels f c) ≡ c
    by true = refl
    by false = omega arith

file_channel_fits : (o : Observation) (c : ℕ) → c < o.channels → file_channel o c < o.channels
file_channel_fits o c small = by o.is_falling
  where
    by : (f : Bool) → place_in_file o.channels f c < o.channels
    by true = small
    by false = omega arith

-- ---- marks of all or of some

all_marked : (marks : List Bool) → list_all (λ mark. mark) marks ≡ true →
    (c : ℕ) → c < length marks → slice_index_or marks c false ≡ true
all_marked [] all c within = absurd (omega arith)
all_marked (true ∷ marks) all zero within = refl
all_marked (true ∷ marks) all (suc c) within = all_marked marks all c (omega arith)
all_marked (false ∷ marks) all c within = (cc)

one_left : (marks : List Bool) → list_all (λ mark. mark) marks ≡ false →
    (c : ℕ) × (c < length marks) × (slice_index_or marks c false ≡ false)
one_left [] some = (cc)
one_left (true ∷ marks) some =
    let later = one_left marks some in
    let within = later.1 in
    (suc later.0, omega arith, later.2)
one_left (false ∷ marks) some = (0, omega arith, refl)

-- one channel more
pub one_mark_more : (ranges : List ChannelRange) (n : ℕ) (f : Bool) (c : ℕ) (marks more : List Bool) (mark : Bool) →
    marks ≡ map (mark_of ranges n f) (range_with_len 0 c) → more ≡ marks ++ mark ∷ [] → mark ≡ mark_of ranges n f c →
    more ≡ map (mark_of ranges n f) (range_with_len 0 (c + 1))
one_mark_more ranges n f c marks more mark so_far pushed is =
    pushed ∙ ap (λ m. marks ++ m ∷ []) is
    ∙ ap (λ ms. ms ++ mark_of ranges n f c ∷ []) so_far
    ∙ sym (map-range_with_len_more (mark_of ranges n f) 0 c c (omega arith))

-- two tests that answer alike make the same marks
map_alike : (f g : ℕ → Bool) → ((c : ℕ) → f c ≡ g c) → (xs : List ℕ) → map f xs ≡ map g xs
map_alike f g same [] = refl
map_alike f g same (x ∷ xs) =
    ap (λ b. b ∷ map f xs) (same x) ∙ ap (λ bs. g x ∷ bs) (map_alike f g same xs)

-- ---- of an observation

pub outside_is : (n : ℕ) (text : List ℕ) (ranges : List ChannelRange) → is_mask_text text ≡ true →
    ranges ≡ map range_of (items_of text) →
    find (λ k. nat_le n k) (flat_map ends_of ranges) ≡ first_outside n text
outside_is n text ranges is e =
    ap (λ rs. find (λ k. nat_le n k) (flat_map ends_of rs)) e ∙ first_of_ranges (λ k. nat_le n k) (items_of text) is

-- the marks are those of the ranges of a text
pub record AreMarksOf (o : Observation) (text : List ℕ) (marks : List Bool) : Type 0 where
  pub is_text : is_mask_text text ≡ true
  pub within : first_outside o.channels text ≡ None
  pub marks_are : marks ≡ map (mark_of (map range_of (items_of text)) o.channels o.is_falling)
      (range_with_len 0 o.channels)

pub same_marks : (o : Observation) (text : List ℕ) (ranges : List ChannelRange) (n : ℕ) (f : Bool) (marks : List Bool) →
    marks ≡ map (mark_of ranges n f) (range_with_len 0 n) → ranges ≡ map range_of (items_of text) → n ≡ o.channels →
    f ≡ o.is_falling →
    marks ≡ map (mark_of (map range_of (items_of text)) o.channels o.is_falling) (range_with_len 0 o.channels)
same_marks o text ranges n f marks are e count falls =
    let rs = map range_of (items_of text) in
    are ∙ ap (λ r. map (mark_of r n f) (range_with_len 0 n)) e
    ∙ ap (λ k. map (mark_of rs k f) (range_with_len 0 k)) count
    ∙ ap (λ b. map (mark_of rs o.channels b) (range_with_len 0 o.channels)) falls

module _ (o : Observation) (text : List ℕ) (marks : List Bool) (are : AreMarksOf o text marks) where
  abbrev mark_at : ℕ → Bool
  mark_at c = mark_of (map range_of (items_of text)) o.channels o.is_falling c

  count : length marks ≡ o.channels
  count =
      ap length are.marks_are ∙ length-map (range_with_len 0 o.channels) mark_at
      ∙ length-range_with_len 0 o.channels

  -- what a mark says does not ask whether there is such a channel
  marks_say : marks ≡ mask_of o text
  marks_say =
      are.marks_are
      ∙ map_alike mark_at (λ c. names_channel text (file_channel o c))
      (λ c. named_by_ranges (file_channel o c) (items_of text) are.is_text) (range_with_len 0 o.channels)

  named_at : (c : ℕ) → c < o.channels → is_masked marks c ≡ names_channel text (file_channel o c)
  named_at c small =
      ap (λ ms. is_masked ms c) marks_say
      ∙ get_or-map-range_with_len (λ x. names_channel text (file_channel o x)) 0 o.channels c c false small (omega arith)

  pub mask_is : list_all (λ mark. mark) marks ≡ false → IsMaskOf o text marks
  mask_is some =
      let left = one_left marks some in
      let within = left.1 in
      record {
        is_text = are.is_text;
        within = are.within;
        mask_is = marks_say;
        channels = count;
        leaves = (left.0, omega (arith, count), left.2);
      }

  pub all_named : list_all (λ mark. mark) marks ≡ true → (c : ℕ) → c < o.channels → names_channel text c ≡ true
  all_named all c small =
      let d = file_channel o c in
      let fits = file_channel_fits o c small in
      ap (names_channel text) (sym (file_channel_twice o c small)) ∙ sym (named_at d fits)
      ∙ all_marked marks all d (omega (arith, count, fits))

-- ---- a mask is not refused

marked_at : (o : Observation) (text : List ℕ) (c : ℕ) → c < o.channels →
    is_masked (mask_of o text) c ≡ names_channel text (file_channel o c)
marked_at o text c small =
    get_or-map-range_with_len (λ x. names_channel text (file_channel o x)) 0 o.channels c c false small (omega arith)

pub not_refused : MasksAreNotRefused
not_refused o text mask (BadMask place) is why = let text_is = is.is_text in let not = why.0 in absurd cc
not_refused o text mask (OutOfRange channel channels) is why =
    let within = is.within in let not = why.1 in absurd cc
not_refused o text mask AllMasked is why =
    let left = is.leaves in
    let kept : is_masked (mask_of o text) left.0 ≡ false =
    ap (λ ms. is_masked ms left.0) (sym is.mask_is) ∙ left.2 in
    let named : names_channel text (file_channel o left.0) ≡ true =
    why.2 (file_channel o left.0) (file_channel_fits o left.0 left.1) in
    absurd (apart (sym kept ∙ marked_at o text left.0 left.1 ∙ named))
  where
    apart : false ≡ true → ⊥
    apart e = cc
not_refused o text mask Memory is why = refl
