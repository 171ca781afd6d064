-- The name of a file, as its parts are put together.
use Rattle.std.proofs.Common.{◌≡◌, ℕ, List, [], ◌∷◌, ◌++◌, refl, sym, ap, ◌∙◌, append_assoc, Option, Some}
use Rattle.std.specs.Prelude.{codes, unwrap_or}
use Rattle.psr_base.specs.Fixed.{padded}
use Rattle.stream_model.specs.Recorded.{Recording, file_offset, start_time, file_name}

-- one more text behind those
put_behind : (old new part rest all : List ℕ) → new ≡ old ++ part → all ≡ new ++ rest → all ≡ old ++ (part ++ rest)
put_behind old new part rest all is whole = rw (whole, is, append_assoc) refl

pub name_is : (r : Recording) (i : ℕ) (time one two three four five six : List ℕ) → start_time r.header ≡ Some time →
    one ≡ time → two ≡ one ++ 95 ∷ [] → three ≡ two ++ padded 16 (file_offset r i) → four ≡ three ++ 46 ∷ [] →
    five ≡ four ++ padded 6 i → six ≡ five ++ codes ".dada" → six ≡ file_name r i
unfolding file_name
name_is r i time one two three four five six begins a b c d e f =
    put_behind one two (95 ∷ []) _ six b (put_behind two three (padded 16 (file_offset r i)) _ six c
    (put_behind three four (46 ∷ []) _ six d (put_behind four five (padded 6 i) (codes ".dada") six e f)))
    ∙ ap (λ (t : List ℕ). t ++ (95 ∷ (padded 16 (file_offset r i) ++ (46 ∷ (padded 6 i ++ codes ".dada"))))) (a
    ∙ sym (ap (λ (found : Option (List ℕ)). unwrap_or found []) begins))
