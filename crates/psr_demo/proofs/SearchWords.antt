-- The words of the search, one after another.
use Rattle.std.proofs.Common.{◌≡◌, ℕ, ◌+◌, ◌<◌, List, [], ◌∷◌, ◌++◌, map, take, get_or, Bor, sym, ap, ap₂, ◌∙◌}
use Rattle.std.proofs.Math.ListN.{get_or-map}
use Rattle.std.proofs.lemmas.List.{take_more, map-append}
use Rattle.psr_demo.specs.Searching.{search_line}

-- the items tell the words
pub record AreWords (items : List (Bor (List ℕ))) : Type 0 where
  pub are : map (λ (word : Bor (List ℕ)). word.now) items ≡ search_line

-- one word more
pub word_more : {S : Type 0} {items : List (Bor (List ℕ))} (bytes : S → List ℕ) (first : Bor (List ℕ))
    (words new : List S) (word : S) (i : ℕ) → AreWords items → i < 14 →
    map bytes words ≡ take i search_line → new ≡ words ++ word ∷ [] → bytes word ≡ (get_or items i first).now →
    map bytes new ≡ take (i + 1) search_line
word_more {S} {items} bytes first words new word i said below so_far pushed is =
    let told : Bor (List ℕ) → List ℕ = λ (item : Bor (List ℕ)). item.now in
    let at : told (get_or items i first) ≡ get_or search_line i (told first) =
    sym (get_or-map told items i first) ∙ ap (λ (xs : List (List ℕ)). get_or xs i (told first)) said.are in
    ap (map bytes) pushed ∙ map-append bytes words (word ∷ [])
    ∙ ap₂ (λ (xs : List (List ℕ)) (x : List ℕ). xs ++ x ∷ []) so_far (is ∙ at)
    ∙ sym (take_more search_line i (told first) below)
