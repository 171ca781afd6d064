-- Files that stand in one buffer, one after another.
use Rattle.std.proofs.Common.{◌≡◌, ℕ, suc, ◌+◌, Bool, true, false, ◌||◌, List, [], ◌∷◌, ◌++◌, length, map, take, drop, Option, Some, None, IsSome, ap, sym, subst, refl, ◌∙◌, append-nil, length-append, length-drop, arith}
use Rattle.std.specs.Prelude.{All, Contains, slice_get}
use Rattle.std.specs.Option.{option_map}
use Rattle.std.specs.List.{list_any}
use Rattle.std.specs.Str.{bytes_eq}
use Rattle.std.specs.Cmp.{IsEquivalence}
use Rattle.std.proofs.lemmas.List.{map-append, drop-append-le, take-append-le, take_all}
use Rattle.std.proofs.lemmas.Option.{slice_get-map}
use Rattle.std.proofs.lemmas.Simd.{map-map}
use Rattle.std.proofs.lemmas.Slice.Eq.{bytes_eq-Decides}
use Rattle.std.proofs.lemmas.Map.Views.{Contains-from_any, list_any-from_Contains}
use Rattle.psr_base.specs.Made.{NamedBytes, Made, HasName, names_in, bodies_in, files_in, longer_by}
use Rattle.psr_base.specs.Stored.{name_of, is_stored_as, bytes_of, named, LiesWithin, all_stored, made_in}
use Rattle.psr_base.specs.declared.stored.StoredFile.{StoredFile}

-- ---- names and bytes of all files

files_in-made_in : (buffer : List ℕ) (finished : List StoredFile) (unfinished : Option StoredFile) →
    files_in (made_in buffer finished unfinished) ≡ map (named buffer) (all_stored finished unfinished)
files_in-made_in buffer finished None = append-nil (map (named buffer) finished)
    ∙ ap (map (named buffer)) (sym (append-nil finished))
files_in-made_in buffer finished (Some file) = sym (map-append (named buffer) finished (file ∷ []))

pub names_in-made_in : (buffer : List ℕ) (finished : List StoredFile) (unfinished : Option StoredFile) →
    names_in (made_in buffer finished unfinished) ≡ map name_of (all_stored finished unfinished)
names_in-made_in buffer finished unfinished =
    ap (map (λ (file : NamedBytes). file.name)) (files_in-made_in buffer finished unfinished)
    ∙ map-map (λ (file : NamedBytes). file.name) (named buffer) (all_stored finished unfinished)

pub bodies_in-made_in : (buffer : List ℕ) (finished : List StoredFile) (unfinished : Option StoredFile) →
    bodies_in (made_in buffer finished unfinished) ≡ map (bytes_of buffer) (all_stored finished unfinished)
bodies_in-made_in buffer finished unfinished =
    ap (map (λ (file : NamedBytes). file.bytes)) (files_in-made_in buffer finished unfinished)
    ∙ map-map (λ (file : NamedBytes). file.bytes) (named buffer) (all_stored finished unfinished)

-- the name and the bytes of the file at a place
pub name_at-stored : (buffer : List ℕ) (finished : List StoredFile) (unfinished : Option StoredFile) (i : ℕ)
    (file : StoredFile) → slice_get (all_stored finished unfinished) i ≡ Some file →
    slice_get (names_in (made_in buffer finished unfinished)) i ≡ Some (name_of file)
name_at-stored buffer finished unfinished i file at =
    ap (λ (names : List (List ℕ)). slice_get names i) (names_in-made_in buffer finished unfinished)
    ∙ slice_get-map name_of (all_stored finished unfinished) i ∙ ap (option_map name_of) at

pub body_at-stored : (buffer : List ℕ) (finished : List StoredFile) (unfinished : Option StoredFile) (i : ℕ)
    (file : StoredFile) → slice_get (all_stored finished unfinished) i ≡ Some file →
    slice_get (bodies_in (made_in buffer finished unfinished)) i ≡ Some (bytes_of buffer file)
body_at-stored buffer finished unfinished i file at =
    ap (λ (bodies : List (List ℕ)). slice_get bodies i) (bodies_in-made_in buffer finished unfinished)
    ∙ slice_get-map (bytes_of buffer) (all_stored finished unfinished) i ∙ ap (option_map (bytes_of buffer)) at

-- ---- more bytes in the buffer

-- the bytes of a file that lies before them stay
bytes_of-before : (buffer more : List ℕ) (file : StoredFile) → LiesWithin (length buffer) file →
    bytes_of (buffer ++ more) file ≡ bytes_of buffer file
bytes_of-before buffer more file within =
    ap (take file.len) (drop-append-le file.start buffer more (omega arith))
    ∙ take-append-le file.len (drop file.start buffer) more (omega (arith, length-drop file.start buffer))

All-tail : {X : Type 0} (P : X → Type 0) (x : X) (xs : List X) → All P (x ∷ xs) → All P xs
All-tail P x xs all = λ k d within. all (suc k) d (omega arith)

named-before : (buffer more : List ℕ) (files : List StoredFile) → All (LiesWithin (length buffer)) files →
    map (named (buffer ++ more)) files ≡ map (named buffer) files
named-before buffer more [] within = refl
named-before buffer more (file ∷ files) within =
    ap (λ (bytes : List ℕ). let it : NamedBytes = record { name = name_of file; bytes = bytes } in
    it ∷ map (named (buffer ++ more)) files) (bytes_of-before buffer more file (within 0 file (omega arith)))
    ∙ ap (λ (rest : List NamedBytes). named buffer file ∷ rest)
    (named-before buffer more files (All-tail (LiesWithin (length buffer)) file files within))

-- the last file has them behind its own
bytes_of-last : (buffer more : List ℕ) (start len : ℕ) → start + len ≡ length buffer →
    take (len + length more) (drop start (buffer ++ more)) ≡ take len (drop start buffer) ++ more
bytes_of-last buffer more start len ends =
    let long : length (drop start buffer) ≡ len = omega (arith, length-drop start buffer) in
    ap (take (len + length more)) (drop-append-le start buffer more (omega arith))
    ∙ take_all (len + length more) (drop start buffer ++ more)
    (omega (arith, long, length-append (drop start buffer) more))
    ∙ ap (λ (bytes : List ℕ). bytes ++ more) (sym (take_all len (drop start buffer) (omega (arith, long))))

pub made_in-longer : (buffer more longer : List ℕ) (finished : List StoredFile) (file new : StoredFile) →
    longer ≡ buffer ++ more → All (LiesWithin (length buffer)) finished → file.start + file.len ≡ length buffer →
    name_of new ≡ name_of file → new.start ≡ file.start → new.len ≡ file.len + length more →
    made_in longer finished (Some new) ≡ longer_by more (made_in buffer finished (Some file))
made_in-longer buffer more longer finished file new is within ends name start len =
    let bytes : bytes_of longer new ≡ bytes_of buffer file ++ more =
    ap (λ (b : List ℕ). take new.len (drop new.start b)) is
    ∙ ap (λ (s : ℕ). take new.len (drop s (buffer ++ more))) start
    ∙ ap (λ (l : ℕ). take l (drop file.start (buffer ++ more))) len
    ∙ bytes_of-last buffer more file.start file.len ends in
    let before : map (named longer) finished ≡ map (named buffer) finished =
    ap (λ (b : List ℕ). map (named b) finished) is ∙ named-before buffer more finished within in
    ap (λ (files : List NamedBytes). let made : Made =
    record { finished = files; unfinished = Some (record { name = name_of new; bytes = bytes_of longer new }) } in
    made) before
    ∙ ap (λ (n : List ℕ). let made : Made =
    record {
      finished = map (named buffer) finished;
      unfinished =
          Some (record { name = n; bytes = bytes_of longer new });
    } in made) name
    ∙ ap (λ (b : List ℕ). let made : Made =
    record {
      finished = map (named buffer) finished;
      unfinished =
          Some (record { name = name_of file; bytes = b });
    } in made) bytes

-- ---- a name that is there

bytes_eq-IsEquivalence : IsEquivalence bytes_eq
bytes_eq-IsEquivalence = record {
  refl = λ x. (bytes_eq-Decides x x).1 refl;
  symm = λ x y. same (bytes_eq x y) (bytes_eq y x) (λ h. (bytes_eq-Decides y x).1 (sym ((bytes_eq-Decides x y).0 h)))
      (λ h. (bytes_eq-Decides x y).1 (sym ((bytes_eq-Decides y x).0 h)));
  congr = λ x y z h. ap (λ (w : List ℕ). bytes_eq w z) ((bytes_eq-Decides x y).0 h);
}
  where
    same : (b c : Bool) → (b ≡ true → c ≡ true) → (c ≡ true → b ≡ true) → b ≡ c
    same true c f g = sym (f refl)
    same false true f g = g refl
    same false false f g = refl

-- whether a file has the name, over the names
list_any-names : (name : List ℕ) (files : List StoredFile) →
    list_any (is_stored_as name) files ≡ list_any (bytes_eq name) (map name_of files)
list_any-names name [] = refl
list_any-names name (file ∷ files) =
    ap (λ (b : Bool). b || list_any (is_stored_as name) files) (bytes_eq-IsEquivalence.symm (name_of file) name)
    ∙ ap (λ (rest : Bool). bytes_eq name (name_of file) || rest) (list_any-names name files)

-- the names, where no file is unfinished
names_in-finished : (buffer : List ℕ) (finished : List StoredFile) (unfinished : Option StoredFile) →
    ¬ IsSome unfinished → names_in (made_in buffer finished unfinished) ≡ map name_of finished
names_in-finished buffer finished None none = names_in-made_in buffer finished None
    ∙ ap (map name_of) (append-nil finished)
names_in-finished buffer finished (Some file) none = absurd (none refl)

pub HasName-any : (buffer : List ℕ) (finished : List StoredFile) (unfinished : Option StoredFile) (name : List ℕ) →
    ¬ IsSome unfinished → list_any (is_stored_as name) finished ≡ true →
    HasName (made_in buffer finished unfinished) name
HasName-any buffer finished unfinished name none any =
    let P : List (List ℕ) → Type 0 = λ names. Contains names name in
    subst P (sym (names_in-finished buffer finished unfinished none))
    (Contains-from_any (λ x y. (bytes_eq-Decides x y).0) name (map name_of finished)
    (sym (list_any-names name finished) ∙ any))

pub any-HasName : (buffer : List ℕ) (finished : List StoredFile) (unfinished : Option StoredFile) (name : List ℕ) →
    ¬ IsSome unfinished → HasName (made_in buffer finished unfinished) name →
    list_any (is_stored_as name) finished ≡ true
any-HasName buffer finished unfinished name none has =
    let P : List (List ℕ) → Type 0 = λ names. Contains names name in
    list_any-names name finished
    ∙ list_any-from_Contains bytes_eq-IsEquivalence name (map name_of finished)
    (subst P (names_in-finished buffer finished unfinished none) has)
