-- What a mask text is made of.
use Rattle.std.proofs.Common.{◌≡◌, ℕ, ◌<◌, ◌≤◌, ◌⊎◌, inl, inr, ⊎_elim, Bool, true, false, ◌&&◌, cond, List, [], ◌∷◌, length, codes, refl, sym, ap, subst, ◌∙◌, lit<, arith}
use Rattle.std.specs.Prelude.{All, nat_le, nat_lt, ◌==◌}
use Rattle.std.specs.Char.{IsAsciiDigit, is_ascii_digit}
use Rattle.std.specs.List.{list_all, slice_split, join_with_byte}
use Rattle.std.specs.Str.{all_ascii_digits, bytes_eq}
use Rattle.std.proofs.lemmas.Bool.{and_parts, and_from, leb-true, ltb-true, lt-ltb, le-leb, ne_eqb}
use Rattle.std.proofs.lemmas.List.Elements.{All-append, All-cons, All-head, All-tail}
use Rattle.std.proofs.lemmas.List.Splits.{length-slice_split, slice_split_at, slice_split_none, join_with_byte-slice_split}
use Rattle.std.proofs.lemmas.Slice.Eq.{bytes_eq-Decides}
use Rattle.dada_model.specs.Number.{IsWholeNumber}
use Rattle.channel_mask.specs.Texts.{is_comma, is_hyphen, parts_of, is_number, is_item, is_mask_text}
use Rattle.channel_mask.specs.TextLaws.{SpellsItem, SpellsItems, MasksAreSpelled}

-- ---- numbers

all_none : {X : Type 0} (P : X → Type 0) → All P []
all_none P k d within = absurd (omega arith)

digits_there : (text : List ℕ) → all_ascii_digits text ≡ true → All IsAsciiDigit text
digits_there [] are = all_none IsAsciiDigit
digits_there (digit ∷ more) are =
    let both = and_parts (is_ascii_digit digit) (all_ascii_digits more) are in
    let range = and_parts (nat_le 48 digit) (nat_le digit 57) both.0 in
    All-cons IsAsciiDigit digit more (leb-true 48 digit range.0, leb-true digit 57 range.1) (digits_there more both.1)

digits_are : (text : List ℕ) → All IsAsciiDigit text → all_ascii_digits text ≡ true
digits_are [] are = refl
digits_are (digit ∷ more) are =
    let first = All-head IsAsciiDigit digit more are in
    and_from _ _ (and_from _ _ (le-leb 48 digit first.0) (le-leb digit 57 first.1))
    (digits_are more (All-tail IsAsciiDigit digit more are))

number_there : (text : List ℕ) → is_number text ≡ true → IsWholeNumber 9 text
number_there text is =
    let both = and_parts (nat_lt 0 (length text)) _ is in
    let few = and_parts (nat_le (length text) 9) (all_ascii_digits text) both.1 in
    (ltb-true 0 (length text) both.0, leb-true (length text) 9 few.0, digits_there text few.1)

number_is : (text : List ℕ) → IsWholeNumber 9 text → is_number text ≡ true
number_is text is =
    and_from _ _ (lt-ltb 0 (length text) is.0) (and_from _ _ (le-leb (length text) 9 is.1) (digits_are text is.2))

-- no comma and no hyphen is a digit
apart : (byte : ℕ) (text : List ℕ) → byte < 48 → All IsAsciiDigit text → All (λ x. (x == byte) ≡ false) text
apart byte text below digits k d within =
    let digit = digits k d within in
    let low = digit.0 in
    ne_eqb _ byte (λ e. omega arith)

-- ---- items

item_there : (item : List ℕ) → is_item item ≡ true → SpellsItem item
item_there item is =
    let both = and_parts (nat_le (length (parts_of item)) 2) (list_all is_number (parts_of item)) is in
    by_parts (parts_of item) (let count = length-slice_split is_hyphen item in omega arith)
    (leb-true (length (parts_of item)) 2 both.0) both.1 (join_with_byte-slice_split 45 item)
  where
    by_parts : (parts : List (List ℕ)) → 0 < length parts → length parts ≤ 2 → list_all is_number parts ≡ true →
        join_with_byte 45 parts ≡ item → SpellsItem item
    by_parts [] some few are e = absurd (omega arith)
    by_parts (first ∷ []) some few are e =
        inl (subst (λ text. IsWholeNumber 9 text) e (number_there first (and_parts _ _ are).0))
    by_parts (first ∷ second ∷ []) some few are e =
        let both = and_parts (is_number first) (list_all is_number (second ∷ [])) are in
        inr (first, second, number_there first both.0, number_there second (and_parts _ _ both.1).0, sym e)
    by_parts (first ∷ second ∷ third ∷ more) some few are e = absurd (omega arith)

item_is : (item : List ℕ) → SpellsItem item → is_item item ≡ true
item_is item (inl number) =
    ap (λ parts. nat_le (length parts) 2 && list_all is_number parts)
    (slice_split_none is_hyphen item (apart 45 item (lit< tt) number.2))
    ∙ and_from _ _ (number_is item number) refl
item_is item (inr (first, second, a, b, e)) =
    let cut = ap parts_of e ∙ slice_split_at is_hyphen first 45 second (apart 45 first (lit< tt) a.2) refl
    ∙ ap (λ parts. first ∷ parts) (slice_split_none is_hyphen second (apart 45 second (lit< tt) b.2)) in
    ap (λ parts. nat_le (length parts) 2 && list_all is_number parts) cut
    ∙ and_from _ _ (number_is first a) (and_from _ _ (number_is second b) refl)

no_comma : (item : List ℕ) → SpellsItem item → All (λ x. is_comma x ≡ false) item
no_comma item (inl number) = apart 44 item (lit< tt) number.2
no_comma item (inr (first, second, a, b, e)) =
    subst (λ text. All (λ x. is_comma x ≡ false) text) (sym e)
    (All-append (λ x. is_comma x ≡ false) first (45 ∷ second) (apart 44 first (lit< tt) a.2)
    (All-cons (λ x. is_comma x ≡ false) 45 second refl (apart 44 second (lit< tt) b.2)))

-- ---- texts

items_there : (items : List (List ℕ)) → list_all is_item items ≡ true → All SpellsItem items
items_there [] are = all_none SpellsItem
items_there (item ∷ items) are =
    let both = and_parts (is_item item) (list_all is_item items) are in
    All-cons SpellsItem item items (item_there item both.0) (items_there items both.1)

items_are : (items : List (List ℕ)) → All SpellsItem items → list_all is_item items ≡ true
items_are [] are = refl
items_are (item ∷ items) are =
    and_from _ _ (item_is item (All-head SpellsItem item items are))
    (items_are items (All-tail SpellsItem item items are))

split_again : (items : List (List ℕ)) → 0 < length items → All SpellsItem items →
    slice_split is_comma (join_with_byte 44 items) ≡ items
split_again [] some are = absurd (omega arith)
split_again (item ∷ []) some are = slice_split_none is_comma item (no_comma item (All-head SpellsItem item [] are))
split_again (item ∷ next ∷ more) some are =
    slice_split_at is_comma item 44 (join_with_byte 44 (next ∷ more))
    (no_comma item (All-head SpellsItem item (next ∷ more) are)) refl
    ∙ ap (λ items. item ∷ items) (split_again (next ∷ more) (omega arith) (All-tail SpellsItem item (next ∷ more) are))

spelled_there : (text : List ℕ) (none : Bool) → bytes_eq text (codes "none") ≡ none →
    list_all is_item (cond none [] (slice_split is_comma text)) ≡ true → (text ≡ codes "none") ⊎ SpellsItems text
spelled_there text true none is = inl ((bytes_eq-Decides text (codes "none")).0 none)
spelled_there text false none is = inr (record {
  items = slice_split is_comma text;
  some = let count = length-slice_split is_comma text in omega arith;
  each = items_there (slice_split is_comma text) is;
  joined = sym (join_with_byte-slice_split 44 text);
})

spelled_is : (text : List ℕ) (none : Bool) → SpellsItems text →
    list_all is_item (cond none [] (slice_split is_comma text)) ≡ true
spelled_is text true spelled = refl
spelled_is text false spelled =
    ap (list_all is_item)
    (ap (slice_split is_comma) spelled.joined ∙ split_again spelled.items spelled.some spelled.each)
    ∙ items_are spelled.items spelled.each

pub spelled : MasksAreSpelled
spelled text = (
  λ is. spelled_there text (bytes_eq text (codes "none")) refl is,
  λ said. ⊎_elim (λ e. ap is_mask_text e) (λ items. spelled_is text (bytes_eq text (codes "none")) items) said,
)
