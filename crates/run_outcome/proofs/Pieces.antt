-- Texts that were appended piece by piece.
use Rattle.std.proofs.Common.{◌≡◌, List, ℕ, ◌++◌, [], ap, ◌∙◌, append_assoc}

-- a number between words
pub number_first : (l0 l1 l2 l3 count words limit end : List ℕ) → l0 ≡ [] → l1 ≡ l0 ++ count →
    l2 ≡ l1 ++ (words ++ limit) → l3 ≡ l2 ++ end → l3 ≡ count ++ words ++ limit ++ end
number_first l0 l1 l2 l3 count words limit end a b d e =
    e ∙ ap (λ (xs : List ℕ). xs ++ end)
    (d ∙ ap (λ (xs : List ℕ). xs ++ (words ++ limit)) (b ∙ ap (λ (xs : List ℕ). xs ++ count) a))
    ∙ simp append_assoc

-- three numbers, each after words
pub three_numbers : (l0 l1 l2 l3 l4 w1 n1 w2 n2 w3 n3 end : List ℕ) → l0 ≡ [] →
    l1 ≡ l0 ++ (w1 ++ n1) → l2 ≡ l1 ++ (w2 ++ n2) → l3 ≡ l2 ++ (w3 ++ n3) → l4 ≡ l3 ++ end →
    l4 ≡ w1 ++ n1 ++ w2 ++ n2 ++ w3 ++ n3 ++ end
three_numbers l0 l1 l2 l3 l4 w1 n1 w2 n2 w3 n3 end a b d e f =
    f ∙ ap (λ (xs : List ℕ). xs ++ end)
    (e ∙ ap (λ (xs : List ℕ). xs ++ (w3 ++ n3))
    (d ∙ ap (λ (xs : List ℕ). xs ++ (w2 ++ n2)) (b ∙ ap (λ (xs : List ℕ). xs ++ (w1 ++ n1)) a)))
    ∙ simp append_assoc
