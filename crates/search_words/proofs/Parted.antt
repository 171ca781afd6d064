-- Going over the FILE words.
use Rattle.std.proofs.Common.{◌≡◌, ℕ, ◌+◌, ◌<◌, ◌≤◌, suc, Bool, true, false, ◌&&◌, ◌||◌, not, List, [], ◌∷◌, ◌++◌, length, drop, filter, count_by, get_or, cond, refl, sym, ap, ◌∙◌, append_assoc, length-append, arith, add-one, add-zero}
use Rattle.std.specs.Borrow.{Bor}
use Rattle.std.specs.List.{list_all}
use Rattle.std.proofs.Math.Seq.{drop-cons}
use Rattle.std.proofs.lemmas.Bool.{lt-ltb, le-leb, lt-leb}
use Rattle.std.proofs.lemmas.List.Sums.{length-filter}
use Rattle.clap.specs.Walk.{texts}
use Rattle.search_words.specs.Transfers.{is_plus, file_names, transfers_in, with_first, starts_after, starts_in, has_names, files_fit}

-- the word at place i, and those after it
pub texts_step : (files : List (Bor (List ℕ))) (i : ℕ) (d : Bor (List ℕ)) → i < length files →
    texts (drop i files) ≡ (get_or files i d).now ∷ texts (drop (i + 1) files)
texts_step files i d within = rw add-one (ap texts (drop-cons files i d within))

kept_at : (b : Bool) (word : Bor (List ℕ)) (files : List (Bor (List ℕ))) →
    length (file_names (texts files)) ≡ length (filter (λ word. not (is_plus word.now)) files) →
    length (cond b (word.now ∷ file_names (texts files)) (file_names (texts files)))
    ≡ length (cond b (word ∷ filter (λ word. not (is_plus word.now)) files)
    (filter (λ word. not (is_plus word.now)) files))
kept_at true word files e = ap suc e
kept_at false word files e = e

kept : (files : List (Bor (List ℕ))) →
    length (file_names (texts files)) ≡ length (filter (λ word. not (is_plus word.now)) files)
kept [] = refl
kept (word ∷ files) = kept_at (not (is_plus word.now)) word files (kept files)

-- how many names there are
pub names_counted : (files : List (Bor (List ℕ))) →
    length (file_names (texts files)) ≡ count_by (λ word. not (is_plus word.now)) files
names_counted files = kept files ∙ length-filter (λ (word : Bor (List ℕ)). not (is_plus word.now)) files

same_length : (word : List ℕ) (lists : List (List (List ℕ))) → length (with_first word lists) ≡ length lists
same_length word [] = refl
same_length word (names ∷ more) = refl

parted_at : (b : Bool) (word : Bor (List ℕ)) (files : List (Bor (List ℕ))) →
    length (transfers_in (texts files)) ≡ length (filter (λ word. is_plus word.now) files) + 1 →
    length (cond b ([] ∷ transfers_in (texts files)) (with_first word.now (transfers_in (texts files))))
    ≡ length (cond b (word ∷ filter (λ word. is_plus word.now) files) (filter (λ word. is_plus word.now) files)) + 1
parted_at true word files e = omega (arith, e)
parted_at false word files e = same_length word.now (transfers_in (texts files)) ∙ e

parted : (files : List (Bor (List ℕ))) →
    length (transfers_in (texts files)) ≡ length (filter (λ word. is_plus word.now) files) + 1
parted [] = refl
parted (word ∷ files) = parted_at (is_plus word.now) word files (parted files)

-- how many transfers there are
pub transfers_counted : (files : List (Bor (List ℕ))) →
    length (transfers_in (texts files)) ≡ count_by (λ word. is_plus word.now) files + 1
transfers_counted files =
    parted files ∙ ap (λ n. n + 1) (length-filter (λ (word : Bor (List ℕ)). is_plus word.now) files)

-- whether each transfer has a name, where the first has one already or not
abbrev pub all_from : Bool → List (List (List ℕ)) → Bool
all_from has_name [] = true
all_from has_name (names ∷ more) = (has_name || has_names names) && list_all has_names more

grown : (b : Bool) (word : List ℕ) (lists : List (List (List ℕ))) →
    all_from b (with_first word lists) ≡ all_from true lists
grown b word [] = refl
grown true word (names ∷ more) = refl
grown false word (names ∷ more) = ap (λ v. v && list_all has_names more) (lt-ltb 0 (suc (length names)) (omega arith))

-- where the transfers after the first start, after n names
abbrev pub later_starts : ℕ → List (List (List ℕ)) → List ℕ
later_starts n [] = []
later_starts n (names ∷ more) = starts_after (n + length names) more

begin_first : (n : ℕ) (word : List ℕ) (lists : List (List (List ℕ))) →
    starts_after n lists ≡ n ∷ later_starts n lists →
    starts_after n (with_first word lists) ≡ n ∷ later_starts n (with_first word lists)
begin_first n word [] e = e
begin_first n word (names ∷ more) e = refl

begin_at : (n : ℕ) (b : Bool) (word : List ℕ) (files : List (List ℕ)) →
    starts_after n (transfers_in files) ≡ n ∷ later_starts n (transfers_in files) →
    starts_after n (cond b ([] ∷ transfers_in files) (with_first word (transfers_in files)))
    ≡ n ∷ later_starts n (cond b ([] ∷ transfers_in files) (with_first word (transfers_in files)))
begin_at n true word files e = refl
begin_at n false word files e = begin_first n word (transfers_in files) e

pub starts_begin : (n : ℕ) (files : List (List ℕ)) →
    starts_after n (transfers_in files) ≡ n ∷ later_starts n (transfers_in files)
starts_begin n [] = refl
starts_begin n (word ∷ files) = begin_at n (is_plus word) word files (starts_begin n files)

later_grown : (n : ℕ) (word : List ℕ) (lists : List (List (List ℕ))) →
    later_starts n (with_first word lists) ≡ later_starts (n + 1) lists
later_grown n word [] = refl
later_grown n word (names ∷ more) =
    let same : n + suc (length names) ≡ n + 1 + length names = omega arith in
    ap (λ m. starts_after m more) same

-- a name comes
pub later_name : (n : ℕ) (word : List ℕ) (files : List (List ℕ)) → is_plus word ≡ false →
    later_starts n (transfers_in (word ∷ files)) ≡ later_starts (n + 1) (transfers_in files)
later_name n word files e =
    ap (λ v. later_starts n (cond v ([] ∷ transfers_in files) (with_first word (transfers_in files)))) e
    ∙ later_grown n word (transfers_in files)

-- a transfer ends
pub later_plus : (n : ℕ) (word : List ℕ) (files : List (List ℕ)) → is_plus word ≡ true →
    later_starts n (transfers_in (word ∷ files)) ≡ n ∷ later_starts n (transfers_in files)
later_plus n word files e =
    ap (λ v. later_starts n (cond v ([] ∷ transfers_in files) (with_first word (transfers_in files)))) e
    ∙ ap (λ m. starts_after m (transfers_in files)) (add-zero n) ∙ starts_begin n files

pub name_kept : (word : List ℕ) (files : List (List ℕ)) → is_plus word ≡ false →
    file_names (word ∷ files) ≡ word ∷ file_names files
name_kept word files e = ap (λ v. cond (not v) (word ∷ file_names files) (file_names files)) e

pub plus_dropped : (word : List ℕ) (files : List (List ℕ)) → is_plus word ≡ true →
    file_names (word ∷ files) ≡ file_names files
plus_dropped word files e = ap (λ v. cond (not v) (word ∷ file_names files) (file_names files)) e

-- too many names, too many transfers, and neither
pub many_names : (files : List (Bor (List ℕ))) (n : ℕ) → n ≡ count_by (λ word. not (is_plus word.now)) files →
    65535 < n → false ≡ files_fit (texts files)
many_names files n e more =
    let counted : length (file_names (texts files)) ≡ n = names_counted files ∙ sym e in
    rw (counted, lt-leb n 65535 more) refl

pub many_transfers : (files : List (Bor (List ℕ))) (n m : ℕ) → n ≡ count_by (λ word. not (is_plus word.now)) files →
    n ≤ 65535 → m ≡ count_by (λ word. is_plus word.now) files → 8 ≤ m → false ≡ files_fit (texts files)
many_transfers files n m e few f more =
    let names : length (file_names (texts files)) ≡ n = names_counted files ∙ sym e in
    let transfers : length (transfers_in (texts files)) ≡ m + 1 = transfers_counted files ∙ ap (λ k. k + 1) (sym f) in
    rw (names, le-leb n 65535 few, transfers, lt-leb (m + 1) 8 (omega arith)) refl

pub few_of_both : (files : List (Bor (List ℕ))) (n m : ℕ) → n ≡ count_by (λ word. not (is_plus word.now)) files →
    n ≤ 65535 → m ≡ count_by (λ word. is_plus word.now) files → m < 8 →
    list_all has_names (transfers_in (texts files)) ≡ files_fit (texts files)
few_of_both files n m e few f less =
    let names : length (file_names (texts files)) ≡ n = names_counted files ∙ sym e in
    let transfers : length (transfers_in (texts files)) ≡ m + 1 = transfers_counted files ∙ ap (λ k. k + 1) (sym f) in
    rw (names, le-leb n 65535 few, transfers, le-leb (m + 1) 8 (omega arith)) refl

-- what is there of the names and the starts, and what is to come of the words from place i on, are the whole
pub record Parts (files : List (Bor (List ℕ))) (i : ℕ) (names : List (List ℕ)) (starts : List ℕ) : Type 0 where
  pub all_names : names ++ file_names (texts (drop i files)) ≡ file_names (texts files)
  pub all_starts : starts ++ later_starts (length names) (transfers_in (texts (drop i files))) ≡ starts_in (texts files)

-- a transfer ends
pub parts_at_plus : (files : List (Bor (List ℕ))) (i n : ℕ) (d : Bor (List ℕ)) (names : List (List ℕ))
    (starts after : List ℕ) → i < length files → is_plus (get_or files i d).now ≡ true → n ≡ length names →
    after ≡ starts ++ n ∷ [] → Parts files i names starts → Parts files (i + 1) names after
parts_at_plus files i n d names starts after within plus count grown so_far =
    let word = (get_or files i d).now in
    let rest = texts (drop (i + 1) files) in
    let step = texts_step files i d within in
    record {
      all_names = ap (λ ws. names ++ ws) (sym (ap file_names step ∙ plus_dropped word rest plus)) ∙ so_far.all_names;
      all_starts =
          ap (λ ns. ns ++ later_starts (length names) (transfers_in rest)) (grown ∙ ap (λ m. starts ++ m ∷ []) count)
          ∙ append_assoc starts (length names ∷ []) (later_starts (length names) (transfers_in rest))
          ∙ ap (λ ns. starts ++ ns)
          (sym (ap (λ ws. later_starts (length names) (transfers_in ws)) step
          ∙ later_plus (length names) word rest plus))
          ∙ so_far.all_starts;
    }

-- a name comes
pub parts_at_name : (files : List (Bor (List ℕ))) (i : ℕ) (d : Bor (List ℕ)) (names after : List (List ℕ))
    (starts : List ℕ) → i < length files → is_plus (get_or files i d).now ≡ false →
    after ≡ names ++ (get_or files i d).now ∷ [] → Parts files i names starts → Parts files (i + 1) after starts
parts_at_name files i d names after starts within plain grown so_far =
    let word = (get_or files i d).now in
    let rest = texts (drop (i + 1) files) in
    let step = texts_step files i d within in
    let longer : length after ≡ length names + 1 = ap length grown ∙ length-append names (word ∷ []) in
    record {
      all_names =
          ap (λ ws. ws ++ file_names rest) grown ∙ append_assoc names (word ∷ []) (file_names rest)
          ∙ ap (λ ws. names ++ ws) (sym (ap file_names step ∙ name_kept word rest plain)) ∙ so_far.all_names;
      all_starts =
          ap (λ n. starts ++ later_starts n (transfers_in rest)) longer
          ∙ ap (λ ns. starts ++ ns)
          (sym (ap (λ ws. later_starts (length names) (transfers_in ws)) step
          ∙ later_name (length names) word rest plain))
          ∙ so_far.all_starts;
    }
