-- A number of thousandths, digit by digit.
use Rattle.std.proofs.Common.{◌≡◌, ℕ, ◌+◌, ◌/◌, ◌%◌, ◌<◌, List, [], ◌∷◌, ◌++◌, codes, arith, sym, ◌∙◌, ap, append_assoc}
use Rattle.std.specs.Fmt.{decimal}
use Rattle.std.proofs.lemmas.Fmt.{decimal_digit}
use Rattle.search_model.specs.CandidateText.{thousandths, three_digits}

three : (xs : List ℕ) (a b c : ℕ) → xs ++ (a ∷ []) ++ (b ∷ []) ++ (c ∷ []) ≡ xs ++ (a ∷ b ∷ c ∷ [])
three xs a b c =
    append_assoc (xs ++ (a ∷ [])) (b ∷ []) (c ∷ []) ∙ append_assoc xs (a ∷ []) (b ∷ c ∷ [])

digits_are : (xs : List ℕ) (r : ℕ) → r < 1000 →
    xs ++ decimal (r / 100) ++ decimal (r / 10 % 10) ++ decimal (r % 10) ≡ xs ++ three_digits r
digits_are xs r h =
    let a = decimal_digit (r / 100) (omega arith) in
    let b = decimal_digit (r / 10 % 10) (omega arith) in
    let c = decimal_digit (r % 10) (omega arith) in
    rw a (rw b (rw c (three xs (48 + r / 100) (48 + r / 10 % 10) (48 + r % 10))))

-- pushed piece by piece, it is the text of the whole
pub thousandths_are : (xs : List ℕ) (n : ℕ) →
    xs ++ decimal (n / 1000) ++ codes "." ++ decimal (n % 1000 / 100) ++ decimal (n % 1000 / 10 % 10)
    ++ decimal (n % 1000 % 10) ≡ xs ++ thousandths n
thousandths_are xs n =
    digits_are (xs ++ decimal (n / 1000) ++ codes ".") (n % 1000) (omega arith)
    ∙ append_assoc (xs ++ decimal (n / 1000)) (codes ".") (three_digits (n % 1000))
    ∙ append_assoc xs (decimal (n / 1000)) (codes "." ++ three_digits (n % 1000))
    ∙ ap (λ (ys : List ℕ). xs ++ ys) (sym (append_assoc (decimal (n / 1000)) (codes ".") (three_digits (n % 1000))))
