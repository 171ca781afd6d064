use Rattle.std.proofs.Common.{◌≡◌, ℕ, ◌+◌, ◌<◌, List, [], ◌∷◌, ◌++◌, length, drop, get_or, map, string_bytes, sym, ap, ◌∙◌, append_assoc, arith, add-one}
use Rattle.std.specs.Borrow.{Bor}
use Rattle.std.proofs.Math.Seq.{drop-cons}
use Rattle.std.proofs.lemmas.List.{map-append, append-nil, drop_all}
use Rattle.clap.specs.Walk.{texts}
use Rattle.level_words.proofs.reading.copies.Goals as goal

one_more : (files : List (Bor (List ℕ))) (i : ℕ) (d : Bor (List ℕ)) (names more : List (List ℕ)) → i < length files →
    more ≡ names ++ (get_or files i d).now ∷ [] → names ++ texts (drop i files) ≡ texts files →
    more ++ texts (drop (i + 1) files) ≡ texts files
one_more files i d names more within is so_far =
    let word = (get_or files i d).now in
    let step : texts (drop i files) ≡ word ∷ texts (drop (i + 1) files) =
    rw add-one (ap texts (drop-cons files i d within)) in
    ap (λ (xs : List (List ℕ)). xs ++ texts (drop (i + 1) files)) is
    ∙ append_assoc names (word ∷ []) (texts (drop (i + 1) files))
    ∙ ap (λ (xs : List (List ℕ)). names ++ xs) (sym step) ∙ so_far

pub loop-word-init : goal.loop-word-init
loop-word-init c = ap (λ names. map string_bytes names ++ texts c.args.files.now) c.new-names.ensures.items

pub loop-word-preserved : goal.loop-word-preserved
loop-word-preserved c =
    one_more c.args.files.now c.loop-word.word-index _ (map string_bytes c.loop-word.names.items) _
    c.loop-word-test.true
    (ap (map string_bytes) c.in_ok-push.ensures.items
    ∙ map-append string_bytes c.loop-word.names.items _
    ∙ ap (λ (t : List ℕ). map string_bytes c.loop-word.names.items ++ t ∷ []) c.in_ok-from_str.ensures.ok)
    c.loop-word.invariant

pub returns : goal.returns
returns c =
    let names = map string_bytes c.loop-word.names.items in
    let files = c.args.files.now in
    let none = drop_all c.loop-word.word-index files (omega arith) in
    sym (append-nil names) ∙ ap (λ (xs : List (Bor (List ℕ))). names ++ texts xs) (sym none)
    ∙ c.loop-word.invariant
