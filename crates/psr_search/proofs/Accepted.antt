-- What is accepted is searched: at no other status nothing stands against it.
use Rattle.std.proofs.Common.{◌≡◌, ℕ, zero, suc, ◌⊎◌, [], ◌∷◌, inl, inr, refl, subst, Contains, lit<, arith}
use Rattle.run_outcome.specs.Runs.{Searching}
use Rattle.run_outcome.specs.Ends.{AcceptedGoesOn}
use Rattle.psr_search.specs.Outcome.{AcceptedIsSearched}

-- P of each status that is none of those which stop a run
pub left : (P : ℕ → Type 0) (n : ℕ) → Contains (0 ∷ 2 ∷ 3 ∷ 4 ∷ 5 ∷ 6 ∷ 7 ∷ 8 ∷ 9 ∷ 10 ∷ 11 ∷ []) n →
    ¬ Contains (2 ∷ 3 ∷ 4 ∷ 6 ∷ 7 ∷ 8 ∷ []) n → P 0 → P 5 → P 9 → P 10 → P 11 → P n
left P n (zero, below, is) others p0 p5 p9 p10 p11 = subst P is p0
left P n (suc zero, below, is) others p0 p5 p9 p10 p11 = absurd (others (0, lit< tt, is))
left P n (suc (suc zero), below, is) others p0 p5 p9 p10 p11 = absurd (others (1, lit< tt, is))
left P n (suc (suc (suc zero)), below, is) others p0 p5 p9 p10 p11 = absurd (others (2, lit< tt, is))
left P n (suc (suc (suc (suc zero))), below, is) others p0 p5 p9 p10 p11 = subst P is p5
left P n (suc (suc (suc (suc (suc zero)))), below, is) others p0 p5 p9 p10 p11 = absurd (others (3, lit< tt, is))
left P n (suc (suc (suc (suc (suc (suc zero))))), below, is) others p0 p5 p9 p10 p11 = absurd (others (4, lit< tt, is))
left P n (suc (suc (suc (suc (suc (suc (suc zero)))))), below, is) others p0 p5 p9 p10 p11 =
    absurd (others (5, lit< tt, is))
left P n (suc (suc (suc (suc (suc (suc (suc (suc zero))))))), below, is) others p0 p5 p9 p10 p11 = subst P is p9
left P n (suc (suc (suc (suc (suc (suc (suc (suc (suc zero)))))))), below, is) others p0 p5 p9 p10 p11 = subst P is p10
left P n (suc (suc (suc (suc (suc (suc (suc (suc (suc (suc zero))))))))), below, is) others p0 p5 p9 p10 p11 =
    subst P is p11
left P n (suc (suc (suc (suc (suc (suc (suc (suc (suc (suc (suc k)))))))))), below, is) others p0 p5 p9 p10 p11 =
    absurd (omega (arith, below))

pub accepted_is_searched : (is_calm : Type 0) → AcceptedGoesOn is_calm → AcceptedIsSearched is_calm
accepted_is_searched is_calm goes_on words seen o s files says are searched calm out_quiet files_quiet =
    left (λ n. seen.ran.status ≡ n → (seen.ran.status ≡ 0) ⊎ (seen.ran.status ≡ 5)) seen.ran.status o.known
    (goes_on Searching words seen.inputs seen.ran.blocks seen.ran.status o.judged o.read o.stopped s files says are
    searched.begins searched.whole calm)
    (λ e. inl e) (λ e. inr e)
    (λ e. let many = (o.too_many e s files says are).total in
    let few = searched.total in absurd (omega (arith, few, many)))
    (λ e. absurd (out_quiet (o.written.failed e))) (λ e. absurd (files_quiet (o.recorded.rose (o.recorded.failed e))))
    refl
