-- Texts that are parted at a byte, and the words of a CHECK line.
use Rattle.std.specs.Prelude.{◌≡◌, ℕ, suc, Bool, true, false, List, [], ◌∷◌, ◌++◌, length, codes}
use Rattle.std.proofs.Common.{arith, refl, sym, ap, ◌∙◌, drop, append_assoc, add-one, ◌+◌}
use Rattle.std.specs.Prelude.{All}
use Rattle.std.proofs.lemmas.List.Elements.{All-head, All-tail}
use Rattle.std.specs.List.{before_first, after_first, position_or_len}
use Rattle.std.proofs.Math.Seq.{take-append_seam}
use Rattle.std.proofs.lemmas.List.{append_cancel_left, append_cancel_right}
use Rattle.warm_restart.specs.Checkpoint.{Lacks, check_text}

lacks_rest : (s b : ℕ) (bytes : List ℕ) → Lacks s (b ∷ bytes) → Lacks s bytes
lacks_rest s b bytes lacks k h = lacks (suc k) (omega arith)

-- a text is parted at the first of a byte in one way
pub one_split : (s : ℕ) (a a' b b' : List ℕ) → Lacks s a → Lacks s a' → a ++ s ∷ b ≡ a' ++ s ∷ b' → (a ≡ a') × (b ≡ b')
one_split s [] [] b b' lacks lacks' e = (refl, cc)
one_split s [] (x ∷ a') b b' lacks lacks' e = let h : x ≡ s = cc in absurd (lacks' 0 (omega arith) h)
one_split s (x ∷ a) [] b b' lacks lacks' e = let h : x ≡ s = cc in absurd (lacks 0 (omega arith) h)
one_split s (x ∷ a) (y ∷ a') b b' lacks lacks' e =
    let rest = one_split s a a' b b' (lacks_rest s x a lacks) (lacks_rest s y a' lacks') cc in let h : x ≡ y = cc in
    let t = rest.0 in (cc, rest.1)

-- what stands between CHECK and the line feed
pub parted : (place pulses : List ℕ) →
    check_text place pulses ≡ codes "CHECK " ++ ((place ++ 32 ∷ pulses) ++ codes "\n")
parted place pulses = ap (λ (t : List ℕ). codes "CHECK " ++ (t ++ codes "\n")) (append_assoc place (codes " ") pulses)

-- the words of a CHECK line are one choice
pub one_line : (p c p' c' : List ℕ) → Lacks 32 p → Lacks 32 p' → check_text p c ≡ check_text p' c' →
    (p ≡ p') × (c ≡ c')
one_line p c p' c' lacks lacks' e =
    one_split 32 p p' c c' lacks lacks'
    (append_cancel_right (p ++ 32 ∷ c) (p' ++ 32 ∷ c') (codes "\n")
    (append_cancel_left (codes "CHECK ") ((p ++ 32 ∷ c) ++ codes "\n") ((p' ++ 32 ∷ c') ++ codes "\n")
    (sym (parted p c) ∙ (e ∙ parted p' c'))))

place_of : (t : ℕ → Bool) (s : ℕ) (a b : List ℕ) → All (λ x. t x ≡ false) a → t s ≡ true →
    position_or_len t (a ++ s ∷ b) ≡ length a
place_of t s [] b fail pass = rw pass refl
place_of t s (x ∷ a) b fail pass =
    rw (All-head (λ x. t x ≡ false) x a fail)
    (ap (λ (n : ℕ). 1 + n) (place_of t s a b (All-tail (λ x. t x ≡ false) x a fail) pass) ∙ omega arith)

-- what stands before the first byte that passes a test, and after it
pub before_at : (t : ℕ → Bool) (s : ℕ) (a b : List ℕ) → All (λ x. t x ≡ false) a → t s ≡ true →
    before_first t (a ++ s ∷ b) ≡ a
before_at t s a b fail pass = rw (place_of t s a b fail pass) (take-append_seam a (s ∷ b))

past : (s : ℕ) (a b : List ℕ) → drop (suc (length a)) (a ++ s ∷ b) ≡ b
past s [] b = refl
past s (x ∷ a) b = past s a b

pub after_at : (t : ℕ → Bool) (s : ℕ) (a b : List ℕ) → All (λ x. t x ≡ false) a → t s ≡ true →
    after_first t (a ++ s ∷ b) ≡ b
after_at t s a b fail pass = rw (place_of t s a b fail pass, add-one) (past s a b)
