-- A line that is a field, in its parts.
use Rattle.std.proofs.Common.{◌≡◌, ℕ, zero, suc, ◌+◌, ◌-◌, ◌<◌, ◌≤◌, ◌⊎◌, inl, inr, true, false, not, eqb, List, [], ◌∷◌, ◌++◌, length, get_or, take, drop, refl, sym, ap, ◌∙◌, arith, append_assoc, Option, Some, None}
use Rattle.std.specs.Prelude.{All}
use Rattle.std.specs.List.{prefix_len, position_or_len}
use Rattle.std.proofs.lemmas.Bool.Decides.{nat_tests}
use Rattle.std.proofs.lemmas.Bool.{cases_lt, both_ways}
use Rattle.std.proofs.lemmas.List.{append-nil, take-append-drop, length-take, length-take-le, length-drop, length-append, length-replicate, take_at, drop_at, get_or-take}
use Rattle.std.proofs.lemmas.List.Elements.{All-head, All-tail, All-append, All-from_get_or, All-take, All-drop, All-weaker, All-replicate}
use Rattle.std.proofs.lemmas.List.Sums.{prefix_len-le-length, fails_before_first, passes_at_first}
use Rattle.dada_model.specs.Fields.{is_white, without_comment, words_of, Field, field_of_words, field_of_line}
use Rattle.dada_model.specs.Change.{IsWordByte, IsWord, spaces, word_start, word_end, value_start, value_end, has_keyword, has_key, with_value_between, with_value, blanked_line}
use Rattle.dada_model.proofs.Words.{AreWhite, AreGraphic, EndsWord, words_of-white, words_of-all_white, words_of-word, AreWhite-front, AreGraphic-front, EndsWord-after, words_of-none, words_of-first}

-- ---- bytes before the comment

abbrev pub AreCommentless : List ℕ → Type 0
AreCommentless bytes = All (λ byte. eqb byte 35 ≡ false) bytes

-- what may follow a value: nothing, white space or a comment
abbrev pub EndsValue : List ℕ → Type 0
EndsValue [] = Unit {0}
EndsValue (byte ∷ more) = (is_white byte ≡ true) ⊎ (byte ≡ 35)

-- a comment, or nothing
abbrev pub IsComment : List ℕ → Type 0
IsComment [] = Unit {0}
IsComment (byte ∷ more) = byte ≡ 35

not_sharp : (byte : ℕ) → is_white byte ≡ true → eqb byte 35 ≡ false
unfolding is_white
not_sharp byte h = grind (arith, nat_tests)

commentless_white : (white : List ℕ) → AreWhite white → AreCommentless white
commentless_white white h = All-weaker (λ byte. is_white byte ≡ true) (λ byte. eqb byte 35 ≡ false) not_sharp white h

without_comment-cons : (x : ℕ) (xs : List ℕ) → eqb x 35 ≡ false → without_comment (x ∷ xs) ≡ x ∷ without_comment xs
unfolding without_comment
without_comment-cons x xs e =
    let one : 1 + position_or_len (λ byte. eqb byte 35) xs ≡ suc (position_or_len (λ byte. eqb byte 35) xs) =
    omega arith in
    rw (e, one) refl

pub without_comment-append : (front rest : List ℕ) → AreCommentless front →
    without_comment (front ++ rest) ≡ front ++ without_comment rest
without_comment-append [] rest h = refl
without_comment-append (x ∷ front) rest h =
    without_comment-cons x (front ++ rest) (All-head (λ byte. eqb byte 35 ≡ false) x front h)
    ∙ ap (λ (t : List ℕ). x ∷ t) (without_comment-append front rest (All-tail (λ byte. eqb byte 35 ≡ false) x front h))

sharp : (x : ℕ) → x ≡ 35 → eqb x 35 ≡ true
sharp x e = grind (arith, nat_tests)

pub without_comment-comment : (comment : List ℕ) → IsComment comment → without_comment comment ≡ []
unfolding without_comment
without_comment-comment [] h = refl
without_comment-comment (x ∷ more) h = rw (sharp x h) refl

AreCommentless-front : (line : List ℕ) → AreCommentless (without_comment line)
unfolding without_comment
AreCommentless-front line =
    let n = position_or_len (λ byte. eqb byte 35) line in
    All-from_get_or (λ byte. eqb byte 35 ≡ false) (take n line) 0
    (λ i h. let short = length-take n line in let low : i < n =
    omega arith in rw (get_or-take n line i 0 low) (fails_before_first (λ byte. eqb byte 35) line i 0 low))

is_sharp : (x : ℕ) → eqb x 35 ≡ true → x ≡ 35
is_sharp x e = grind (arith, nat_tests)

comment_at : (line : List ℕ) (n : ℕ) → (n < length line → eqb (get_or line n 0) 35 ≡ true) → IsComment (drop n line)
comment_at [] zero h = tt
comment_at [] (suc n) h = tt
comment_at (x ∷ line) zero h = is_sharp x (h (omega arith))
comment_at (x ∷ line) (suc n) h = comment_at line n (λ low. h (omega arith))

-- the comment of a line
abbrev pub comment_of : List ℕ → List ℕ
comment_of line = drop (length (without_comment line)) line

pub length-without_comment : (line : List ℕ) → length (without_comment line) ≤ length line
unfolding without_comment
length-without_comment line = let n = length-take (position_or_len (λ byte. eqb byte 35) line) line in omega arith

pub IsComment-of : (line : List ℕ) → IsComment (comment_of line)
unfolding without_comment
IsComment-of line =
    let n = position_or_len (λ byte. eqb byte 35) line in
    let most : n ≤ length line = prefix_len-le-length (λ x. not (eqb x 35)) line in
    let count : length (take n line) ≡ n = length-take-le n line most in
    rw count (comment_at line n (λ low. passes_at_first (λ byte. eqb byte 35) line 0 low))

pub line_parts : (line : List ℕ) → line ≡ without_comment line ++ comment_of line
unfolding without_comment
line_parts line =
    let n = position_or_len (λ byte. eqb byte 35) line in
    let most : n ≤ length line = prefix_len-le-length (λ x. not (eqb x 35)) line in
    let count : length (take n line) ≡ n = length-take-le n line most in
    rw count (sym (take-append-drop n line))

-- ---- the parts of a field

abbrev pub AreBare : List ℕ → Type 0
AreBare bytes = AreGraphic bytes × AreCommentless bytes

-- white space, the keyword, white space, the value and what follows
pub record IsFieldLine (line keyword value : List ℕ) : Type 0 where
  pub lead : List ℕ
  pub gap : List ℕ
  pub after : List ℕ
  pub line_is : line ≡ lead ++ (keyword ++ (gap ++ (value ++ after)))
  pub lead_white : AreWhite lead
  pub gap_white : AreWhite gap
  pub gap_some : 0 < length gap
  pub keyword_some : 0 < length keyword
  pub keyword_bare : AreBare keyword
  pub value_some : 0 < length value
  pub value_bare : AreBare value
  pub ends : EndsValue after

EndsWord-white : (white rest : List ℕ) → 0 < length white → AreWhite white → EndsWord (white ++ rest)
EndsWord-white [] rest some h = absurd (omega arith)
EndsWord-white (x ∷ white) rest some h = All-head (λ byte. is_white byte ≡ true) x white h

EndsWord-ends : (after : List ℕ) → EndsValue after → EndsWord (without_comment after)
EndsWord-ends [] h = rw (without_comment-comment [] tt) tt
EndsWord-ends (x ∷ more) (inl white) = rw (without_comment-cons x more (not_sharp x white)) white
EndsWord-ends (x ∷ more) (inr comment) = rw (without_comment-comment (x ∷ more) comment) tt

-- the front of a field up to its value
words_of-front : (lead keyword gap rest : List ℕ) → AreWhite lead → AreWhite gap → 0 < length gap →
    0 < length keyword → AreGraphic keyword →
    words_of (lead ++ (keyword ++ (gap ++ rest))) ≡ keyword ∷ words_of rest
words_of-front lead keyword gap rest white gap_white gap_some some graphic =
    words_of-white lead (keyword ++ (gap ++ rest)) white
    ∙ words_of-word keyword (gap ++ rest) some graphic (EndsWord-white gap rest gap_some gap_white)
    ∙ ap (λ (ws : List (List ℕ)). keyword ∷ ws) (words_of-white gap rest gap_white)

without_comment-front : (lead keyword gap rest : List ℕ) → AreWhite lead → AreWhite gap → AreCommentless keyword →
    without_comment (lead ++ (keyword ++ (gap ++ rest))) ≡ lead ++ (keyword ++ (gap ++ without_comment rest))
without_comment-front lead keyword gap rest white gap_white bare =
    without_comment-append lead (keyword ++ (gap ++ rest)) (commentless_white lead white)
    ∙ ap (λ t. lead ++ t) (without_comment-append keyword (gap ++ rest) bare
    ∙ ap (λ t. keyword ++ t) (without_comment-append gap rest (commentless_white gap gap_white)))

-- the bytes before the comment
pub bare_of : (line keyword value : List ℕ) (h : IsFieldLine line keyword value) →
    without_comment line ≡ h.lead ++ (keyword ++ (h.gap ++ (value ++ without_comment h.after)))
bare_of line keyword value h =
    ap without_comment h.line_is
    ∙ without_comment-front h.lead keyword h.gap (value ++ h.after) h.lead_white h.gap_white h.keyword_bare.1
    ∙ ap (λ t. h.lead ++ (keyword ++ (h.gap ++ t))) (without_comment-append value h.after h.value_bare.1)

pub field_from_parts : (line keyword value : List ℕ) → IsFieldLine line keyword value →
    field_of_line line ≡ Some (record { keyword = keyword; value = value })
field_from_parts line keyword value h =
    let words : words_of (without_comment line) ≡ keyword ∷ value ∷ words_of (without_comment h.after) =
    ap words_of (bare_of line keyword value h)
    ∙ words_of-front h.lead keyword h.gap
    (value ++ without_comment h.after) h.lead_white h.gap_white h.gap_some h.keyword_some h.keyword_bare.0
    ∙ ap (λ (ws : List (List ℕ)). keyword ∷ ws) (words_of-word value
    (without_comment h.after) h.value_some h.value_bare.0 (EndsWord-ends h.after h.ends)) in
    ap field_of_words words

-- ---- a field has such parts

-- what stands before the first word, the word and what follows
pub record HasWord (bytes : List ℕ) (words : List (List ℕ)) : Type 0 where
  pub lead : List ℕ
  pub word : List ℕ
  pub rest : List ℕ
  pub bytes_are : bytes ≡ lead ++ (word ++ rest)
  pub lead_white : AreWhite lead
  pub some : 0 < length word
  pub graphic : AreGraphic word
  pub ends : EndsWord rest
  pub words_are : words ≡ word ∷ words_of rest

no_words : {A : Type 0} (first : List ℕ) (words : List (List ℕ)) → [] ≡ first ∷ words → A
no_words first words e = (cc)

has_word : (bytes first : List ℕ) (words : List (List ℕ)) → words_of bytes ≡ first ∷ words →
    HasWord bytes (first ∷ words)
has_word bytes first words e =
    let a = prefix_len is_white bytes in
    let part = drop a bytes in
    let n = position_or_len is_white part in
    let most : a ≤ length bytes = prefix_len-le-length is_white bytes in
    elim (cases_lt a (length bytes)) as (λ _. HasWord bytes (first ∷ words)) [
      | inl low ↦ let split = words_of-first bytes low in
          let most_word : n ≤ length part = prefix_len-le-length (λ x. not (is_white x)) part in
          record {
            lead = take a bytes;
            word = take n part;
            rest = drop n part;
            bytes_are = sym (take-append-drop a bytes) ∙ ap (λ t. take a bytes ++ t) (sym (take-append-drop n part));
            lead_white = AreWhite-front bytes;
            some = rw (length-take-le n part most_word) split.0;
            graphic = AreGraphic-front part;
            ends = EndsWord-after part;
            words_are = sym e ∙ split.1;
          }
      | inr high ↦ no_words first words (sym (words_of-none bytes (omega arith)) ∙ e)
    ]

field_parts : (words : List (List ℕ)) (field : Field) → field_of_words words ≡ Some field →
    (more : List (List ℕ)) × (words ≡ field.keyword ∷ field.value ∷ more)
field_parts [] field e = (cc)
field_parts (first ∷ []) field e = (cc)
field_parts (first ∷ second ∷ more) field e =
    let same : record { keyword = first; value = second } ≡ field = (cc) in
    (more, ap (λ (f : Field). f.keyword ∷ f.value ∷ more) same)

white_first : (lead word rest : List ℕ) (whole : List ℕ) → whole ≡ lead ++ (word ++ rest) → EndsWord whole →
    0 < length word → AreGraphic word → 0 < length lead
white_first [] [] rest whole e ends some graphic = absurd (omega arith)
white_first [] (x ∷ word) rest whole e ends some graphic =
    let first : is_white x ≡ true = rw e at ends in
    absurd (both_ways (is_white x) (All-head (λ byte. is_white byte ≡ false) x word graphic) first)
white_first (x ∷ lead) word rest whole e ends some graphic = omega arith

ends_with_comment : (rest comment : List ℕ) → EndsWord rest → IsComment comment → EndsValue (rest ++ comment)
ends_with_comment [] [] h k = tt
ends_with_comment [] (x ∷ comment) h k = inr k
ends_with_comment (x ∷ rest) comment h k = inl h

bare_part : (line word front back : List ℕ) → without_comment line ≡ front ++ (word ++ back) → AreGraphic word →
    AreBare word
bare_part line word front back e graphic =
    let bare = AreCommentless-front line in
    let whole : AreCommentless (front ++ (word ++ back)) = rw e at bare in
    let later : AreCommentless (word ++ back) = rw (drop_at front (word ++ back) (length front) refl) at (All-drop
    (λ byte. eqb byte 35 ≡ false) (length front) (front ++ (word ++ back)) whole) in
    let own : AreCommentless word = rw (take_at word back (length word) refl) at (All-take
    (λ byte. eqb byte 35 ≡ false) (length word) (word ++ back) later) in
    (graphic, own)

pub parts_of_field : (line : List ℕ) (field : Field) → field_of_line line ≡ Some field →
    IsFieldLine line field.keyword field.value
parts_of_field line field e =
    let bare = without_comment line in
    let words = field_parts (words_of bare) field e in
    let first = has_word bare field.keyword (field.value ∷ words.0) words.1 in
    let tails : words_of first.rest ≡ field.value ∷ words.0 = (cc (first.words_are)) in
    let keyword_is : first.word ≡ field.keyword = (cc (first.words_are)) in
    let second = has_word first.rest field.value words.0 tails in
    let value_is : second.word ≡ field.value = (cc (second.words_are)) in
    let gap_some = white_first second.lead second.word second.rest first.rest second.bytes_are first.ends second.some
    second.graphic in
    let bare_is : bare ≡ first.lead ++ (field.keyword ++ (second.lead ++ (field.value ++ second.rest))) =
    first.bytes_are ∙ ap (λ w. first.lead ++ (w ++ first.rest)) keyword_is
    ∙ ap (λ r. first.lead ++ (field.keyword ++ r)) (second.bytes_are
    ∙ ap (λ w. second.lead ++ (w ++ second.rest)) value_is) in
    let later : bare ≡ (first.lead ++ (field.keyword ++ second.lead)) ++ (field.value ++ second.rest) =
    bare_is ∙ sym (append_assoc first.lead (field.keyword ++ second.lead) (field.value ++ second.rest)
    ∙ ap (λ t. first.lead ++ t) (append_assoc field.keyword second.lead (field.value ++ second.rest))) in
    record {
      lead = first.lead;
      gap = second.lead;
      after = second.rest ++ comment_of line;
      line_is = line_parts line ∙ ap (λ t. t ++ comment_of line) bare_is
          ∙ append_assoc first.lead (field.keyword ++ (second.lead ++ (field.value ++ second.rest))) (comment_of line)
          ∙ ap (λ t. first.lead ++ t) (append_assoc field.keyword (second.lead ++ (field.value ++ second.rest))
          (comment_of line)
          ∙ ap (λ t. field.keyword ++ t) (append_assoc second.lead (field.value ++ second.rest) (comment_of line)
          ∙ ap (λ t. second.lead ++ t) (append_assoc field.value second.rest (comment_of line))));
      lead_white = first.lead_white;
      gap_white = second.lead_white;
      gap_some = gap_some;
      keyword_some = rw (← keyword_is) first.some;
      keyword_bare = bare_part line field.keyword first.lead (second.lead ++ (field.value ++ second.rest)) bare_is
          (rw (← keyword_is) first.graphic);
      value_some = rw (← value_is) second.some;
      value_bare = bare_part line field.value (first.lead ++ (field.keyword ++ second.lead)) second.rest later (rw
          (← value_is) second.graphic);
      ends = ends_with_comment second.rest (comment_of line) second.ends (IsComment-of line);
    }

-- ---- the front of a line

-- where a front of a line is a field, the line is one with the same keyword
some_word : (x : ℕ) (more : List ℕ) → is_white x ≡ false → (word : List ℕ) × (words : List (List ℕ)) × (words_of
    (x ∷ more) ≡ word ∷ words)
some_word x more h =
    let none : prefix_len is_white (x ∷ more) ≡ 0 = rw h refl in
    let split = words_of-first (x ∷ more) (omega arith) in
    (_, _, split.1)

field_with_value : (lead keyword gap : List ℕ) (x : ℕ) (rest : List ℕ) → AreWhite lead → AreWhite gap →
    0 < length gap → 0 < length keyword → AreBare keyword →
    is_white x ≡ false → eqb x 35 ≡ false → (value : List ℕ) × (field_of_line (lead ++ (keyword ++ (gap ++
    (x ∷ rest)))) ≡ Some (record { keyword = keyword; value = value }))
field_with_value lead keyword gap x rest lead_white gap_white gap_some some bare graphic commentless =
    let word = some_word x (without_comment rest) graphic in
    let words : words_of (without_comment (lead ++ (keyword ++ (gap ++ (x ∷ rest))))) ≡ keyword ∷ word.0 ∷ word.1 =
    ap words_of (without_comment-front lead keyword gap (x ∷ rest) lead_white gap_white bare.1
    ∙ ap (λ t. lead ++ (keyword ++ (gap ++ t))) (without_comment-cons x rest commentless))
    ∙ words_of-front lead keyword gap (x ∷ without_comment rest) lead_white gap_white gap_some some bare.0
    ∙ ap (λ (ws : List (List ℕ)). keyword ∷ ws) word.2 in
    (word.0, ap field_of_words words)

longer : (lead keyword gap value after more : List ℕ) → (lead ++ (keyword ++ (gap ++
    (value ++ after)))) ++ more ≡ lead ++ (keyword ++ (gap ++ (value ++ (after ++ more))))
longer lead keyword gap value after more =
    append_assoc lead (keyword ++ (gap ++ (value ++ after))) more
    ∙ ap (λ t. lead ++ t) (append_assoc keyword (gap ++ (value ++ after)) more
    ∙ ap (λ t. keyword ++ t) (append_assoc gap (value ++ after) more
    ∙ ap (λ t. gap ++ t) (append_assoc value after more)))

has_value : (lead keyword gap value rest : List ℕ) → AreWhite lead → AreWhite gap → 0 < length gap →
    0 < length keyword → AreBare keyword → 0 < length value → AreBare value →
    (found : List ℕ) × (field_of_line (lead ++ (keyword ++ (gap ++ (value ++ rest)))) ≡ Some (record {
      keyword =
          keyword;
      value = found;
    }))
has_value lead keyword gap [] rest lead_white gap_white gap_some some bare value_some value_bare = absurd (omega arith)
has_value lead keyword gap (x ∷ value) rest lead_white gap_white gap_some some bare value_some value_bare =
    field_with_value lead keyword gap x (value ++ rest) lead_white gap_white gap_some some bare
    (All-head (λ byte. is_white byte ≡ false) x value value_bare.0) (All-head
    (λ byte. eqb byte 35 ≡ false) x value value_bare.1)

keyword_kept : (line : List ℕ) (n : ℕ) (field : Field) → field_of_line (take n line) ≡ Some field →
    (value : List ℕ) × (field_of_line line ≡ Some (record { keyword = field.keyword; value = value }))
keyword_kept line n field e =
    let h = parts_of_field (take n line) field e in
    let whole : line ≡ h.lead ++ (field.keyword ++ (h.gap ++ (field.value ++ (h.after ++ drop n line)))) =
    sym (take-append-drop n line) ∙ ap (λ t. t ++ drop n line) h.line_is
    ∙ longer h.lead field.keyword h.gap field.value h.after (drop n line) in
    let found = has_value h.lead field.keyword h.gap field.value
    (h.after ++ drop n line) h.lead_white h.gap_white h.gap_some h.keyword_some h.keyword_bare h.value_some
    h.value_bare in
    (found.0, ap field_of_line whole ∙ found.1)

-- a front of a line has a key only where the line has it
other_in_front : (key line : List ℕ) (n : ℕ) (found : Option Field) → field_of_line (take n line) ≡ found →
    has_key key line ≡ false → has_keyword key found ≡ false
unfolding has_key
other_in_front key line n None e other = refl
other_in_front key line n (Some field) e other =
    let kept = keyword_kept line n field e in
    rw (sym (ap (has_keyword key) kept.1)) other

pub front_has_no_key : (key line : List ℕ) (n : ℕ) → has_key key line ≡ false → has_key key (take n line) ≡ false
unfolding has_key
front_has_no_key key line n other = other_in_front key line n (field_of_line (take n line)) refl other

-- ---- where the value stands

prefix_white : (white rest : List ℕ) → AreWhite white → (0 < length rest → is_white (get_or rest 0 0) ≡ false) →
    prefix_len is_white (white ++ rest) ≡ length white
prefix_white [] [] h stops = refl
prefix_white [] (x ∷ rest) h stops = rw (stops (omega arith)) refl
prefix_white (x ∷ white) rest h stops =
    let more = prefix_white white rest (All-tail (λ byte. is_white byte ≡ true) x white h) stops in
    let one : 1 + length white ≡ suc (length white) = omega arith in
    rw (All-head (λ byte. is_white byte ≡ true) x white h, more) one

prefix_graphic : (word rest : List ℕ) → AreGraphic word → EndsWord rest →
    position_or_len is_white (word ++ rest) ≡ length word
prefix_graphic [] [] h ends = refl
prefix_graphic [] (x ∷ rest) h ends = rw ends refl
prefix_graphic (x ∷ word) rest h ends =
    let more = prefix_graphic word rest (All-tail (λ byte. is_white byte ≡ false) x word h) ends in
    let one : 1 + length word ≡ suc (length word) = omega arith in
    rw (All-head (λ byte. is_white byte ≡ false) x word h, more) one

graphic_at : (word rest : List ℕ) → 0 < length word → AreGraphic word → 0 < length (word ++ rest) →
    is_white (get_or (word ++ rest) 0 0) ≡ false
graphic_at [] rest some h low = absurd (omega arith)
graphic_at (x ∷ word) rest some h low = All-head (λ byte. is_white byte ≡ false) x word h

start_after : (front white word rest : List ℕ) → AreWhite white → 0 < length word → AreGraphic word →
    word_start (length front) (front ++ (white ++ (word ++ rest))) ≡ length front + length white
unfolding word_start
start_after front white word rest h some graphic =
    ap (λ t. length front + prefix_len is_white t) (drop_at front (white ++ (word ++ rest)) (length front) refl)
    ∙ ap (λ n. length front + n) (prefix_white white (word ++ rest) h (graphic_at word rest some graphic))

end_after : (front word rest : List ℕ) → AreGraphic word → EndsWord rest →
    word_end (length front) (front ++ (word ++ rest)) ≡ length front + length word
unfolding word_end
end_after front word rest graphic ends =
    ap (λ t. length front + position_or_len is_white t) (drop_at front (word ++ rest) (length front) refl)
    ∙ ap (λ n. length front + n) (prefix_graphic word rest graphic ends)

-- the front of a field up to its value
abbrev pub front_of : {line keyword value : List ℕ} → IsFieldLine line keyword value → List ℕ
front_of {line} {keyword} {value} h = h.lead ++ (keyword ++ h.gap)

pub regrouped : (lead keyword gap rest : List ℕ) → lead ++ (keyword ++ (gap ++ rest)) ≡ (lead ++
    (keyword ++ gap)) ++ rest
regrouped lead keyword gap rest = sym (append_assoc lead (keyword ++ gap) rest
    ∙ ap (λ t. lead ++ t) (append_assoc keyword gap rest))

pub value_starts : (line keyword value : List ℕ) (h : IsFieldLine line keyword value) →
    value_start (without_comment line) ≡ length (front_of h)
unfolding value_start
value_starts line keyword value h =
    let tail = without_comment h.after in
    let bare : without_comment line ≡ h.lead ++ (keyword ++ (h.gap ++ (value ++ tail))) =
    bare_of line keyword value h in
    let zero_plus : 0 + length h.lead ≡ length h.lead = omega arith in
    let first : word_start 0 (h.lead ++ (keyword ++ (h.gap ++ (value ++ tail)))) ≡ length h.lead =
    start_after [] h.lead keyword (h.gap ++ (value ++ tail)) h.lead_white h.keyword_some h.keyword_bare.0 ∙ zero_plus in
    let first_end : word_end (length h.lead) (h.lead ++ (keyword ++ (h.gap ++ (value ++ tail)))) ≡ length
    (h.lead ++ keyword) =
    end_after h.lead keyword (h.gap ++ (value ++ tail)) h.keyword_bare.0 (EndsWord-white h.gap
    (value ++ tail) h.gap_some h.gap_white) ∙ sym (length-append h.lead keyword) in
    let second : word_start (length (h.lead ++ keyword)) (h.lead ++ (keyword ++ (h.gap ++
    (value ++ tail)))) ≡ length (h.lead ++ keyword) + length h.gap =
    ap (word_start (length (h.lead ++ keyword))) (sym (append_assoc h.lead keyword (h.gap ++ (value ++ tail))))
    ∙ start_after (h.lead ++ keyword) h.gap value tail h.gap_white h.value_some h.value_bare.0 in
    let count : length (h.lead ++ keyword) + length h.gap ≡ length (front_of h) =
    sym (length-append (h.lead ++ keyword) h.gap) ∙ ap length (append_assoc h.lead keyword h.gap) in
    rw (bare, first, first_end, second) count

pub value_ends : (line keyword value : List ℕ) (h : IsFieldLine line keyword value) →
    value_end (without_comment line) ≡ length (front_of h) + length value
unfolding value_end
value_ends line keyword value h =
    let tail = without_comment h.after in
    let bare : without_comment line ≡ (h.lead ++ (keyword ++ h.gap)) ++ (value ++ tail) =
    bare_of line keyword value h ∙ regrouped h.lead keyword h.gap (value ++ tail) in
    ap (λ n. word_end n (without_comment line)) (value_starts line keyword value h)
    ∙ ap (word_end (length (front_of h))) bare
    ∙ end_after (front_of h) value tail h.value_bare.0 (EndsWord-ends h.after h.ends)

-- ---- another value

pub with_value_is : (line keyword value new : List ℕ) (h : IsFieldLine line keyword value) →
    with_value new line ≡ h.lead ++ (keyword ++ (h.gap ++ (new ++ (spaces (length value - length new) ++ h.after))))
unfolding with_value
with_value_is line keyword value new h =
    let front = front_of h in
    let line_is : line ≡ front ++ (value ++ h.after) = h.line_is ∙ regrouped h.lead keyword h.gap (value ++ h.after) in
    let start = value_starts line keyword value h in
    let end = value_ends line keyword value h in
    let first : take (length front) line ≡ front = ap (take (length front)) line_is
    ∙ take_at front (value ++ h.after) (length front) refl in
    let count : length (front ++ value) ≡ length front + length value = length-append front value in
    let last : drop (length front + length value) line ≡ h.after =
    ap (drop (length front + length value)) (line_is ∙ sym (append_assoc front value h.after))
    ∙ drop_at (front ++ value) h.after (length front + length value) count in
    let width : length front + length value - length front - length new ≡ length value - length new = omega arith in
    ap (λ s. with_value_between s (value_end (without_comment line)) new line) start
    ∙ ap (λ e. with_value_between (length front) e new line) end
    ∙ ap (λ t. t ++ (new ++ (spaces (length front + length value - length front - length new) ++ drop
    (length front + length value) line))) first
    ∙ ap (λ t. front ++ (new ++ (spaces (length front + length value - length front - length new) ++ t))) last
    ∙ ap (λ n. front ++ (new ++ (spaces n ++ h.after))) width
    ∙ sym (regrouped h.lead keyword h.gap (new ++ (spaces (length value - length new) ++ h.after)))

word_graphic : (byte : ℕ) → IsWordByte byte → is_white byte ≡ false
unfolding is_white
word_graphic byte h = grind (arith, nat_tests)

word_commentless : (byte : ℕ) → IsWordByte byte → eqb byte 35 ≡ false
word_commentless byte h = grind (arith, nat_tests)

pub bare_word : (word : List ℕ) → IsWord word → AreBare word
bare_word word h = (
  All-weaker IsWordByte (λ byte. is_white byte ≡ false) word_graphic word h.bytes,
  All-weaker IsWordByte
      (λ byte. eqb byte 35 ≡ false) word_commentless word h.bytes,
)

pub space_white : is_white 32 ≡ true
unfolding is_white
space_white = refl

pub AreWhite-spaces : (n : ℕ) → AreWhite (spaces n)
AreWhite-spaces n = All-replicate (λ byte. is_white byte ≡ true) n 32 space_white

pub ends_spaces : (n : ℕ) (after : List ℕ) → EndsValue after → EndsValue (spaces n ++ after)
ends_spaces zero after h = h
ends_spaces (suc n) after h = inl space_white

unfoldable pub field_with_new : (line keyword value new : List ℕ) → IsFieldLine line keyword value → IsWord new →
    IsFieldLine (with_value new line) keyword new
field_with_new line keyword value new h word = record {
  lead = h.lead;
  gap = h.gap;
  after = spaces (length value - length new) ++ h.after;
  line_is = with_value_is line keyword value new h;
  lead_white = h.lead_white;
  gap_white = h.gap_white;
  gap_some = h.gap_some;
  keyword_some = h.keyword_some;
  keyword_bare = h.keyword_bare;
  value_some = word.some;
  value_bare = bare_word new word;
  ends = ends_spaces (length value - length new) h.after h.ends;
}

pub length-with_value : (line keyword value new : List ℕ) → IsFieldLine line keyword value →
    length new ≤ length value → length (with_value new line) ≡ length line
length-with_value line keyword value new h fits =
    let pad : length (spaces (length value - length new)) ≡ length value - length new = length-replicate {A =
    ℕ} (length value - length new) 32 in
    let new_rest = length-append new (spaces (length value - length new) ++ h.after) in
    let pad_rest = length-append (spaces (length value - length new)) h.after in
    let old_rest = length-append value h.after in
    let same : length (new ++ (spaces (length value - length new) ++ h.after)) ≡ length (value ++ h.after) =
    omega arith in
    let grow = λ (t : List ℕ). length-append (front_of h) t in
    ap length (with_value_is line keyword value new h ∙ regrouped h.lead keyword h.gap (new ++ (spaces
    (length value - length new) ++ h.after)))
    ∙ grow (new ++ (spaces (length value - length new) ++ h.after))
    ∙ ap (λ n. length (front_of h) + n) same
    ∙ sym (ap length (h.line_is ∙ regrouped h.lead keyword h.gap (value ++ h.after)) ∙ grow (value ++ h.after))

-- ---- a blank line

pub blank_has_no_key : (key line : List ℕ) → has_key key (blanked_line line) ≡ false
unfolding has_key blanked_line
blank_has_no_key key line =
    let n = length (without_comment line) in
    let white = AreWhite-spaces n in
    let bare : without_comment (spaces n ++ comment_of line) ≡ spaces n =
    without_comment-append (spaces n) (comment_of line) (commentless_white (spaces n) white)
    ∙ ap (λ t. spaces n ++ t) (without_comment-comment (comment_of line) (IsComment-of line)) ∙ append-nil (spaces n) in
    ap (λ t. has_keyword key (field_of_words (words_of t))) bare
    ∙ ap (λ ws. has_keyword key (field_of_words ws)) (words_of-all_white (spaces n) white)

pub length-blanked_line : (line : List ℕ) → length (blanked_line line) ≡ length line
unfolding blanked_line
length-blanked_line line =
    let n = length (without_comment line) in
    let pad : length (spaces n) ≡ n = length-replicate {A = ℕ} n 32 in
    let whole = length-append (spaces n) (comment_of line) in
    let rest = length-drop n line in
    let most = length-without_comment line in
    whole ∙ ap (λ k. k + length (comment_of line)) pad ∙ omega arith

-- ---- what holds of each byte stays

pub All-with_value : (P : ℕ → Type 0) (value line : List ℕ) → P 32 → All P value → All P line →
    All P (with_value value line)
unfolding with_value
All-with_value P value line space v h =
    let s = value_start (without_comment line) in
    let e = value_end (without_comment line) in
    All-append P (take s line) (value ++ (spaces (e - s - length value) ++ drop e line)) (All-take P s line h)
    (All-append P value (spaces (e - s - length value) ++ drop e line) v
    (All-append P (spaces (e - s - length value)) (drop e line) (All-replicate P (e - s - length value) 32 space)
    (All-drop P e line h)))

pub All-blanked_line : (P : ℕ → Type 0) (line : List ℕ) → P 32 → All P line → All P (blanked_line line)
unfolding blanked_line
All-blanked_line P line space h =
    All-append P (spaces (length (without_comment line))) (comment_of line) (All-replicate P (length
    (without_comment line)) 32 space) (All-drop P (length (without_comment line)) line h)
