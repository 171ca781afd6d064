-- The file that the second of two words names.
use Rattle.std.proofs.Common.{◌≡◌, ◌≢◌, ◌↔◌, ℕ, List, [], ◌∷◌, get_or, map, length, string_bytes, subst, ap, ◌∙◌}
use Rattle.std.proofs.lemmas.List.{length-map}
use Rattle.std.specs.Prelude.{String}
use Rattle.std.specs.Global.{Global}
use Rattle.psr_base.specs.Told.{Told, OfFile}
use Rattle.ring_trace.specs.Run.{ForFile}

second_word : (words : List (String Global)) (w : String Global) (program name : List ℕ) → w ≡ get_or words 1 w →
    map string_bytes words ≡ program ∷ name ∷ [] → string_bytes w ≡ name
second_word [] w program name is are = absurd cc
second_word (a ∷ []) w program name is are = absurd cc
second_word (a ∷ b ∷ []) w program name is are = let same : string_bytes b ≡ name = cc in ap string_bytes is ∙ same
second_word (a ∷ b ∷ d ∷ more) w program name is are = absurd cc

-- what is told of the file under the second word, by its name, holds for the words
pub for_named : (words : List (String Global)) (w : String Global) (told : Told)
    (P : List ℕ → List ℕ → Type 0) → w ≡ get_or words 1 w →
    OfFile told (string_bytes w) (P (string_bytes w)) →
    (program name : List ℕ) → map string_bytes words ≡ program ∷ name ∷ [] → OfFile told name (P name)
for_named words w told P is holds = λ program name are.
    let Q : List ℕ → Type 0 = λ bytes. OfFile told bytes (P bytes) in subst Q (second_word words w program name is are) holds

pub for_file : (words : List (String Global)) (w : String Global) (told : Told) (P : List ℕ → Type 0) →
    w ≡ get_or words 1 w → OfFile told (string_bytes w) P → ForFile (map string_bytes words) told P
for_file words w told P is holds = for_named words w told (λ name. P) is holds

-- there are two words
pub two_words : (words : List (String Global)) (status : ℕ) → length words ≡ 2 → status ≢ 2 →
    (status ≡ 2) ↔ (length (map string_bytes words) ≢ 2)
two_words words status two other = (λ is. absurd (other is), λ more. absurd (more (simp length-map two)))
