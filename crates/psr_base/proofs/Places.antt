-- Places in a list of files, found by name.
use Rattle.std.specs.Prelude.{◌==◌, ◌||◌}
use Rattle.std.proofs.Common.{◌≡◌, ◌≢◌, ℕ, suc, ◌+◌, ◌-◌, ◌<◌, Bool, true, false, cond, List, [], ◌∷◌, ◌++◌, length, take, drop, min, unwrap_or, get_or, set, map, Option, Some, None, string_bytes, ap, sym, subst, refl, ◌∙◌, arith, get_or-set_other, get_or-set_same, length-drop, append-nil}
use Rattle.std.specs.Option.{option_map, option_map_or}
use Rattle.std.specs.List.{position_from}
use Rattle.std.specs.Str.{bytes_eq}
use Rattle.std.proofs.lemmas.List.{map-set, map-append, get_or-map, length-map}
use Rattle.std.proofs.Math.ListN.{get_or-append}
use Rattle.std.proofs.Math.Seq.{map-set_same, get_or-append_seam}
use Rattle.std.proofs.lemmas.Bool.{false_from_ne_true}
use Rattle.std.proofs.lemmas.Slice.Eq.{bytes_eq-Decides}
use Rattle.psr_base.specs.NamedFiles.{is_named, names_of, bodies_of, place_in, name_at, bytes_at, bytes_in, reading_of}
use Rattle.psr_base.specs.Told.{Told, Reading, history, left_to_read, opened, closed, read_by, GivesNext}
use Rattle.psr_base.specs.declared.held.MemFile.{MemFile}
use Rattle.psr_base.specs.declared.held.OpenFile.{OpenFile}

-- what is found passes the test
pub record FoundAt {X : Type 0} (t : X → Bool) (k : ℕ) (xs : List X) (i : ℕ) : Type 0 where
  pub place : ℕ
  pub is : i ≡ k + place
  pub within : place < length xs
  pub passes : (d : X) → t (get_or xs place d) ≡ true

FoundAt-head : {X : Type 0} (t : X → Bool) (k : ℕ) (x : X) (xs : List X) (i : ℕ) (b : Bool) (rest : Option ℕ) →
    t x ≡ b → (rest ≡ Some i → FoundAt t (k + 1) xs i) → cond b (Some k) rest ≡ Some i → FoundAt t k (x ∷ xs) i
FoundAt-head t k x xs i true rest e later h = let same : k ≡ i = cc in
    record { place = 0; is = omega arith; within = omega arith; passes = λ d. e }
FoundAt-head t k x xs i false rest e later h =
    let found = later h in
    record {
      place = suc found.place;
      is = omega (arith, found.is);
      within = omega (arith, found.within);
      passes =
          found.passes;
    }

pub FoundAt-position_from : {X : Type 0} (t : X → Bool) (k : ℕ) (xs : List X) (i : ℕ) →
    position_from t k xs ≡ Some i → FoundAt t k xs i
FoundAt-position_from t k [] i h = absurd cc
FoundAt-position_from t k (x ∷ xs) i h =
    FoundAt-head t k x xs i (t x) (position_from t (k + 1) xs) refl (FoundAt-position_from t (k + 1) xs i) h

-- a test of a part of each element finds what the test of the parts finds
pub position_from-map : {X Y : Type 0} (u : Y → Bool) (f : X → Y) (k : ℕ) (xs : List X) →
    position_from u k (map f xs) ≡ position_from (λ x. u (f x)) k xs
position_from-map u f k [] = refl
position_from-map u f k (x ∷ xs) = ap (cond (u (f x)) (Some k)) (position_from-map u f (k + 1) xs)

cond-found : (b : Bool) (k i : ℕ) (rest longer : Option ℕ) → (rest ≡ Some i → longer ≡ Some i) →
    cond b (Some k) rest ≡ Some i → cond b (Some k) longer ≡ Some i
cond-found true k i rest longer later h = h
cond-found false k i rest longer later h = later h

cond-missed : (b : Bool) (k : ℕ) (rest longer end : Option ℕ) → (rest ≡ None → longer ≡ end) →
    cond b (Some k) rest ≡ None → cond b (Some k) longer ≡ end
cond-missed true k rest longer end later h = absurd cc
cond-missed false k rest longer end later h = later h

-- what is found in a list is found in a longer one
pub position_from-append_found : {X : Type 0} (t : X → Bool) (k : ℕ) (xs ys : List X) (i : ℕ) →
    position_from t k xs ≡ Some i → position_from t k (xs ++ ys) ≡ Some i
position_from-append_found t k [] ys i h = absurd cc
position_from-append_found t k (x ∷ xs) ys i h =
    cond-found (t x) k i _ _ (position_from-append_found t (k + 1) xs ys i) h

-- what is missing in a list is looked for behind it
pub position_from-append_missed : {X : Type 0} (t : X → Bool) (k : ℕ) (xs ys : List X) → position_from t k xs ≡ None →
    position_from t k (xs ++ ys) ≡ position_from t (k + length xs) ys
position_from-append_missed t k [] ys h = ap (λ (n : ℕ). position_from t n ys) (omega arith)
position_from-append_missed t k (x ∷ xs) ys h =
    cond-missed (t x) k _ _ _ (λ missed. position_from-append_missed t (k + 1) xs ys missed
    ∙ ap (λ (n : ℕ). position_from t n ys) (omega arith)) h

-- the name decides the place
place_in-names : (files : List MemFile) (name : List ℕ) →
    place_in files name ≡ position_from (λ (other : List ℕ). bytes_eq other name) 0 (names_of files)
place_in-names files name =
    sym (position_from-map (λ (other : List ℕ). bytes_eq other name)
    (λ (file : MemFile). string_bytes file.name) 0 files)

-- the file at a place that was found has the name
pub name_at-place_in : (files : List MemFile) (name : List ℕ) (i : ℕ) → place_in files name ≡ Some i →
    name_at files i ≡ name
name_at-place_in files name i h =
    let found = FoundAt-position_from (λ (other : List ℕ). bytes_eq other name) 0 (names_of files) i
    (sym (place_in-names files name) ∙ h) in
    ap (name_at files) (omega (arith, found.is))
    ∙ (bytes_eq-Decides (name_at files found.place) name).0 (found.passes [])

pub place_in-within : (files : List MemFile) (name : List ℕ) (i : ℕ) → place_in files name ≡ Some i → i < length files
place_in-within files name i h = let found = FoundAt-position_from (is_named name) 0 files i h in
    omega (arith, found.is, found.within)

-- a place that was found by some name is the first with its own name
pub place_in-own : (files : List MemFile) (name : List ℕ) (i : ℕ) → place_in files name ≡ Some i →
    place_in files (name_at files i) ≡ Some i
place_in-own files name i h = ap (place_in files) (name_at-place_in files name i h) ∙ h

-- the bytes at a place that was found are those under the name
pub bytes_in-place_in : (files : List MemFile) (name : List ℕ) (i : ℕ) → place_in files name ≡ Some i →
    bytes_in files name ≡ Some (bytes_at files i)
bytes_in-place_in files name i h = ap (option_map (bytes_at files)) h

-- what the files of a list are at its places
pub bytes_at-get_or : (files : List MemFile) (i : ℕ) (d : MemFile) → i < length files →
    bytes_at files i ≡ (get_or files i d).bytes.items
bytes_at-get_or files i d within = get_or-map (λ (file : MemFile). file.bytes.items) files i d [] within

pub name_at-get_or : (files : List MemFile) (i : ℕ) (d : MemFile) → i < length files →
    name_at files i ≡ string_bytes (get_or files i d).name
name_at-get_or files i d within = get_or-map (λ (file : MemFile). string_bytes file.name) files i d [] within

-- the names stay where a file is replaced by one of its name
pub names_of-replaced : (files : List MemFile) (i : ℕ) (file d : MemFile) →
    string_bytes file.name ≡ string_bytes (get_or files i d).name → names_of (set files i file) ≡ names_of files
names_of-replaced files i file d same = map-set_same (λ (f : MemFile). string_bytes f.name) files i file d same

pub place_in-replaced : (files : List MemFile) (i : ℕ) (file d : MemFile) (name : List ℕ) →
    string_bytes file.name ≡ string_bytes (get_or files i d).name →
    place_in (set files i file) name ≡ place_in files name
place_in-replaced files i file d name same = place_in-names (set files i file) name
    ∙ ap (position_from (λ (other : List ℕ). bytes_eq other name) 0) (names_of-replaced files i file d same)
    ∙ sym (place_in-names files name)

-- the bytes of the file that was replaced
pub bytes_in-replaced : (files : List MemFile) (i : ℕ) (file d : MemFile) (name : List ℕ) →
    string_bytes file.name ≡ string_bytes (get_or files i d).name → place_in files name ≡ Some i →
    bytes_in (set files i file) name ≡ Some file.bytes.items
bytes_in-replaced files i file d name same found =
    let lt : i < length (bodies_of files) =
    omega (arith, place_in-within files name i found, length-map files (λ (f : MemFile). f.bytes.items)) in
    bytes_in-place_in (set files i file) name i (place_in-replaced files i file d name same ∙ found)
    ∙ ap Some (ap (λ (bodies : List (List ℕ)). get_or bodies i [])
    (map-set (λ (f : MemFile). f.bytes.items) files i file)
    ∙ get_or-set_same (bodies_of files) i file.bytes.items [] lt)

-- the bytes of the other files
pub bytes_in-replaced_other : (files : List MemFile) (i : ℕ) (file d : MemFile) (name other : List ℕ) →
    string_bytes file.name ≡ string_bytes (get_or files i d).name → place_in files name ≡ Some i → other ≢ name →
    bytes_in (set files i file) other ≡ bytes_in files other
bytes_in-replaced_other files i file d name other same found differs =
    ap (option_map (bytes_at (set files i file))) (place_in-replaced files i file d other same)
    ∙ by_place (place_in files other) refl
  where
    apart : (j : ℕ) → place_in files other ≡ Some j → j ≢ i
    apart j found' e = differs (sym (name_at-place_in files other j found') ∙ ap (name_at files) e
        ∙ name_at-place_in files name i found)

    at : (j : ℕ) → j ≢ i → bytes_at (set files i file) j ≡ bytes_at files j
    at j ne = ap (λ (bodies : List (List ℕ)). get_or bodies j [])
        (map-set (λ (f : MemFile). f.bytes.items) files i file)
        ∙ get_or-set_other (bodies_of files) i j file.bytes.items [] ne

    by_place : (o : Option ℕ) → place_in files other ≡ o →
        option_map (bytes_at (set files i file)) o ≡ option_map (bytes_at files) o
    by_place None e = refl
    by_place (Some j) e = ap Some (at j (apart j e))

-- a file that is added stands under its name, where no other does
pub bytes_in-added : (files : List MemFile) (file : MemFile) (name : List ℕ) → string_bytes file.name ≡ name →
    place_in files name ≡ None → bytes_in (files ++ file ∷ []) name ≡ Some file.bytes.items
bytes_in-added files file name named missing =
    let passes : is_named name file ≡ true = (bytes_eq-Decides (string_bytes file.name) name).1 named in
    let place : place_in (files ++ file ∷ []) name ≡ Some (0 + length files) =
    position_from-append_missed (is_named name) 0 files (file ∷ []) missing
    ∙ ap (λ (b : Bool). cond b (Some (0 + length files)) None) passes in
    let last : 0 + length files ≡ length (bodies_of files) =
    omega (arith, length-map files (λ (f : MemFile). f.bytes.items)) in
    bytes_in-place_in (files ++ file ∷ []) name (0 + length files) place
    ∙ ap Some (ap (λ (bodies : List (List ℕ)). get_or bodies (0 + length files) [])
    (map-append (λ (f : MemFile). f.bytes.items) files (file ∷ []))
    ∙ ap (λ (i : ℕ). get_or (bodies_of files ++ file.bytes.items ∷ []) i []) last
    ∙ get_or-append_seam (bodies_of files) file.bytes.items [] [])

-- the bytes at a place that was there stay
bytes_at-added : (files : List MemFile) (file : MemFile) (i : ℕ) → i < length files →
    bytes_at (files ++ file ∷ []) i ≡ bytes_at files i
bytes_at-added files file i within =
    let lt : i < length (bodies_of files) = omega (arith, length-map files (λ (f : MemFile). f.bytes.items)) in
    ap (λ (bodies : List (List ℕ)). get_or bodies i [])
    (map-append (λ (f : MemFile). f.bytes.items) files (file ∷ []))
    ∙ get_or-append (bodies_of files) (file.bytes.items ∷ []) [] i lt

-- a place that was found stays
pub place_in-added : (files : List MemFile) (file : MemFile) (name : List ℕ) (i : ℕ) → place_in files name ≡ Some i →
    place_in (files ++ file ∷ []) name ≡ Some i
place_in-added files file name i found = position_from-append_found (is_named name) 0 files (file ∷ []) i found

-- the files that were there stay under their names
pub bytes_in-added_other : (files : List MemFile) (file : MemFile) (name other : List ℕ) →
    string_bytes file.name ≡ name → other ≢ name → bytes_in (files ++ file ∷ []) other ≡ bytes_in files other
bytes_in-added_other files file name other named differs = by_place (place_in files other) refl
  where
    fails : is_named other file ≡ false
    fails = false_from_ne_true (is_named other file) (λ e.
        differs (sym ((bytes_eq-Decides (string_bytes file.name) other).0 e) ∙ named))

    by_place : (o : Option ℕ) → place_in files other ≡ o → bytes_in (files ++ file ∷ []) other ≡ bytes_in files other
    by_place None e =
        let place : place_in (files ++ file ∷ []) other ≡ None =
        position_from-append_missed (is_named other) 0 files (file ∷ []) e
        ∙ ap (λ (b : Bool). cond b (Some (0 + length files)) None) fails in
        ap (option_map (bytes_at (files ++ file ∷ []))) place ∙ sym (ap (option_map (bytes_at files)) e)
    by_place (Some i) e = bytes_in-place_in (files ++ file ∷ []) other i (place_in-added files file other i e)
        ∙ ap Some (bytes_at-added files file i (place_in-within files other i e))
        ∙ sym (bytes_in-place_in files other i e)

-- the name at a place that was there stays
pub name_at-added : (files : List MemFile) (file : MemFile) (i : ℕ) → i < length files →
    name_at (files ++ file ∷ []) i ≡ name_at files i
name_at-added files file i within =
    let lt : i < length (names_of files) = omega (arith, length-map files (λ (f : MemFile). string_bytes f.name)) in
    ap (λ (names : List (List ℕ)). get_or names i [])
    (map-append (λ (f : MemFile). string_bytes f.name) files (file ∷ []))
    ∙ get_or-append (names_of files) (string_bytes file.name ∷ []) [] i lt

-- the file that is open is the first of its name
abbrev pub IsFirst : List MemFile → OpenFile → Type 0
IsFirst files file = place_in files (name_at files file.index) ≡ Some file.index

-- a file that was just found is
pub IsFirst-found : (files : List MemFile) (name : List ℕ) (i place : ℕ) (ended : Bool) (file : OpenFile) →
    place_in files name ≡ Some i → Some (record { index = i; place = place; ended = ended }) ≡ Some file →
    IsFirst files file
IsFirst-found files name i place ended file found same =
    let at : i ≡ file.index = ap (λ (o : Option OpenFile). option_map_or (λ (f : OpenFile). f.index) o 0) same in
    ap (λ (j : ℕ). place_in files (name_at files j)) (sym at) ∙ place_in-own files name i found ∙ ap Some at

pub IsFirst-replaced : (files : List MemFile) (i : ℕ) (new d : MemFile) (file : OpenFile) →
    string_bytes new.name ≡ string_bytes (get_or files i d).name → IsFirst files file → IsFirst (set files i new) file
IsFirst-replaced files i new d file same first =
    ap (λ (names : List (List ℕ)). place_in (set files i new) (get_or names file.index []))
    (names_of-replaced files i new d same) ∙ place_in-replaced files i new d (name_at files file.index) same ∙ first

pub IsFirst-added : (files : List MemFile) (new : MemFile) (file : OpenFile) → IsFirst files file →
    IsFirst (files ++ new ∷ []) file
IsFirst-added files new file first =
    ap (place_in (files ++ new ∷ []))
    (name_at-added files new file.index (place_in-within files (name_at files file.index) file.index first))
    ∙ place_in-added files new (name_at files file.index) file.index first

-- the open file under a name
abbrev reading_by : List ℕ → OpenFile → Reading
reading_by name file = record { name = name; place = file.place; ended = file.ended }

-- the open name stays
pub reading_of-replaced : (files : List MemFile) (i : ℕ) (new d : MemFile) (reading : Option OpenFile) →
    string_bytes new.name ≡ string_bytes (get_or files i d).name →
    reading_of (set files i new) reading ≡ reading_of files reading
reading_of-replaced files i new d None same = refl
reading_of-replaced files i new d (Some file) same =
    ap (λ (names : List (List ℕ)). Some (reading_by (get_or names file.index []) file))
    (names_of-replaced files i new d same)

pub reading_of-added : (files : List MemFile) (new : MemFile) (reading : Option OpenFile) →
    ((file : OpenFile) → reading ≡ Some file → IsFirst files file) →
    reading_of (files ++ new ∷ []) reading ≡ reading_of files reading
reading_of-added files new None first = refl
reading_of-added files new (Some file) first =
    ap (λ (name : List ℕ). Some (reading_by name file))
    (name_at-added files new file.index (place_in-within files (name_at files file.index) file.index (first file refl)))

-- what files tell
abbrev told_by : List MemFile → List Reading → Option Reading → Told
told_by files earlier reading = record { bytes_under = bytes_in files; earlier = earlier; reading = reading }

-- what is left to read of the open file
pub left_to_read-first : (files : List MemFile) (earlier : List Reading) (reading : Option OpenFile) (file : OpenFile) →
    reading ≡ Some file → IsFirst files file →
    left_to_read (told_by files earlier (reading_of files reading)) ≡ Some (drop file.place (bytes_at files file.index))
left_to_read-first files earlier reading file open_file first =
    ap (λ (r : Option OpenFile). left_to_read (told_by files earlier (reading_of files r))) open_file
    ∙ ap (option_map (drop file.place)) (bytes_in-place_in files (name_at files file.index) file.index first)

-- what files tell where a file of theirs was opened, after another was set aside
pub told-opened : (files files' : List MemFile) (earlier earlier' : List Reading) (reading : Option OpenFile)
    (name : List ℕ) (i : ℕ) → files' ≡ files →
    earlier' ≡ history (told_by files earlier (reading_of files reading)) → place_in files name ≡ Some i →
    told_by files' earlier' (reading_of files' (Some (record { index = i; place = 0; ended = false })))
    ≡ opened name (told_by files earlier (reading_of files reading))
told-opened files files' earlier earlier' reading name i same aside found =
    let fresh : List ℕ → Option Reading = λ it. Some (record { name = it; place = 0; ended = false }) in
    ap (λ (fs : List MemFile). told_by fs earlier' (fresh (name_at fs i))) same
    ∙ ap (λ (before : List Reading). told_by files before (fresh (name_at files i))) aside
    ∙ ap (λ (it : List ℕ). told_by files (history (told_by files earlier (reading_of files reading))) (fresh it))
    (name_at-place_in files name i found)

-- what they tell where the open one was set aside
pub told-set_aside : (files : List MemFile) (earlier earlier' : List Reading) (reading : Option OpenFile)
    (file : OpenFile) (name : List ℕ) → reading ≡ Some file → name ≡ name_at files file.index →
    earlier' ≡ earlier ++ record { name = name; place = file.place; ended = file.ended } ∷ [] →
    told_by files earlier' None ≡ closed (told_by files earlier (reading_of files reading))
told-set_aside files earlier earlier' reading file name is named aside =
    ap (λ (before : List Reading). told_by files before None)
    (aside ∙ ap (λ (it : List ℕ). earlier ++ reading_by it file ∷ []) named)
    ∙ ap (λ (r : Option OpenFile). closed (told_by files earlier (reading_of files r))) (sym is)

-- and where none was open
pub told-none_open : (files : List MemFile) (earlier : List Reading) (reading : Option OpenFile) → reading ≡ None →
    told_by files earlier (reading_of files reading) ≡ closed (told_by files earlier (reading_of files reading))
told-none_open files earlier reading none =
    ap (λ (r : Option OpenFile). told_by files earlier (reading_of files r)) none
    ∙ ap (λ (before : List Reading). told_by files before None) (sym (append-nil earlier))
    ∙ ap (λ (r : Option OpenFile). closed (told_by files earlier (reading_of files r))) (sym none)

-- a read of n bytes
pub told-read : (files : List MemFile) (earlier : List Reading) (reading : Option OpenFile) (file : OpenFile) (n : ℕ)
    (ended : Bool) → reading ≡ Some file → ended ≡ (file.ended || (n == 0)) →
    told_by files earlier
    (reading_of files (Some (record { index = file.index; place = file.place + n; ended = ended })))
    ≡ read_by n (told_by files earlier (reading_of files reading))
told-read files earlier reading file n ended is sees =
    ap (λ (it : Bool). told_by files earlier
    (Some (record { name = name_at files file.index; place = file.place + n; ended = it }))) sees
    ∙ ap (λ (r : Option OpenFile). read_by n (told_by files earlier (reading_of files r))) (sym is)

nil_of_length : (xs : List ℕ) → length xs ≡ 0 → xs ≡ []
nil_of_length [] h = refl
nil_of_length (x ∷ xs) h = absurd (omega arith)

-- the whole of what is left was copied, as much as fits
pub count-copied : (left : Option (List ℕ)) (bytes into : List ℕ) (place n : ℕ) → left ≡ Some (drop place bytes) →
    n ≡ min (length bytes - place) (length into) → n ≡ min (length (unwrap_or left [])) (length into)
count-copied left bytes into place n known count =
    omega (arith, length-drop place bytes, ap (λ (o : Option (List ℕ)). length (unwrap_or o [])) known)

pub GivesNext-copied : (left : Option (List ℕ)) (bytes into : List ℕ) (place n : ℕ) → left ≡ Some (drop place bytes) →
    n ≡ min (length bytes - place) (length into) → 0 < length into → take n into ≡ take n (drop place bytes) →
    GivesNext (unwrap_or left []) n into
GivesNext-copied left bytes into place n known count room copied =
    let same : unwrap_or left [] ≡ drop place bytes = ap (λ (o : Option (List ℕ)). unwrap_or o []) known in
    let long : length (unwrap_or left []) ≡ length bytes - place = ap (length {A = ℕ}) same ∙ length-drop place bytes in
    record {
      given = copied ∙ ap (take n) (sym same);
      within = omega (arith, long, count);
      ends = λ none. nil_of_length (unwrap_or left []) (omega (arith, long, count, none, room));
    }

-- whether or not a file was added, the open one is the first of its name
pub IsFirst-pushed : (b : Bool) (files items : List MemFile) (new : MemFile) (file : OpenFile) →
    items ≡ cond b (files ++ new ∷ []) files → IsFirst files file → IsFirst items file
IsFirst-pushed true files items new file is first =
    subst (λ (fs : List MemFile). IsFirst fs file) (sym is) (IsFirst-added files new file first)
IsFirst-pushed false files items new file is first = subst (λ (fs : List MemFile). IsFirst fs file) (sym is) first
