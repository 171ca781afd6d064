-- Pieces of lists, one more of them.
use Rattle.std.proofs.Common.{◌≡◌, ℕ, ◌+◌, ◌<◌, ◌++◌, All, List, [], ◌∷◌, Option, Some, None, length, take, get_or, sym, ◌∙◌, ap, subst, append_assoc, append-nil}
use Rattle.std.specs.List.{flat_map}
use Rattle.std.specs.Prelude.{option_to_list, IfSome}
use Rattle.std.proofs.lemmas.List.Concat.{flat_map-append}
use Rattle.std.proofs.lemmas.List.{take_more}
use Rattle.std.proofs.lemmas.List.Elements.{All-push}

-- the piece of one element more
pub flat_take_more : {X A : Type 0} (g : X → List A) (xs : List X) (i : ℕ) (x : X) → i < length xs →
    x ≡ get_or xs i x → flat_map g (take (i + 1) xs) ≡ flat_map g (take i xs) ++ g x
flat_take_more g xs i x inside is =
    ap (flat_map g) (take_more xs i x inside ∙ ap (λ z. take i xs ++ z ∷ []) (sym is))
    ∙ flat_map-append g (take i xs) (x ∷ []) ∙ ap (λ ys. flat_map g (take i xs) ++ ys) (append-nil (g x))

-- what was noted has the pieces of the first elements
pub noted_more : {X Y A : Type 0} (f : X → List A) (g : Y → List A) (start before after : List X) (o : Option X)
    (ys : List Y) (i : ℕ) (y : Y) → after ≡ before ++ option_to_list o →
    flat_map f before ≡ flat_map f start ++ flat_map g (take i ys) → flat_map f (option_to_list o) ≡ g y →
    i < length ys → y ≡ get_or ys i y → flat_map f after ≡ flat_map f start ++ flat_map g (take (i + 1) ys)
noted_more f g start before after o ys i y is had piece inside at =
    ap (flat_map f) is ∙ flat_map-append f before (option_to_list o)
    ∙ ap (λ xs. xs ++ flat_map f (option_to_list o)) had
    ∙ ap (λ xs. (flat_map f start ++ flat_map g (take i ys)) ++ xs) piece
    ∙ append_assoc (flat_map f start) (flat_map g (take i ys)) (g y)
    ∙ ap (λ xs. flat_map f start ++ xs) (sym (flat_take_more g ys i y inside at))

pub all_noted : {X : Type 0} (P : X → Type 0) (xs : List X) (o : Option X) → All P xs → IfSome o P →
    All P (xs ++ option_to_list o)
all_noted P xs (Some x) all is = All-push P xs x all is
all_noted P xs None all is = subst (All P) (sym (append-nil xs)) all
