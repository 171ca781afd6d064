-- What is accepted is recorded: at no other status nothing stands against it.
use Rattle.std.proofs.Common.{◌≡◌, ℕ, zero, suc, ◌⊎◌, [], ◌∷◌, inl, inr, sym, Contains, lit<, arith}
use Rattle.run_outcome.specs.Runs.{RecordingAlone}
use Rattle.run_outcome.specs.Ends.{AcceptedGoesOn}
use Rattle.psr_record.specs.Outcome.{AcceptedIsRecorded}

-- a status that is none of these
left : (n : ℕ) → Contains (0 ∷ 2 ∷ 3 ∷ 4 ∷ 5 ∷ 6 ∷ 7 ∷ 8 ∷ 11 ∷ []) n → ¬ Contains (2 ∷ 3 ∷ 4 ∷ 6 ∷ 7 ∷ 8 ∷ []) n →
    ¬ (n ≡ 11) → (n ≡ 0) ⊎ (n ≡ 5)
left n (zero, below, is) others eleven = inl (sym is)
left n (suc zero, below, is) others eleven = absurd (others (0, lit< tt, is))
left n (suc (suc zero), below, is) others eleven = absurd (others (1, lit< tt, is))
left n (suc (suc (suc zero)), below, is) others eleven = absurd (others (2, lit< tt, is))
left n (suc (suc (suc (suc zero))), below, is) others eleven = inr (sym is)
left n (suc (suc (suc (suc (suc zero)))), below, is) others eleven = absurd (others (3, lit< tt, is))
left n (suc (suc (suc (suc (suc (suc zero))))), below, is) others eleven = absurd (others (4, lit< tt, is))
left n (suc (suc (suc (suc (suc (suc (suc zero)))))), below, is) others eleven = absurd (others (5, lit< tt, is))
left n (suc (suc (suc (suc (suc (suc (suc (suc zero))))))), below, is) others eleven = absurd (eleven (sym is))
left n (suc (suc (suc (suc (suc (suc (suc (suc (suc k)))))))), below, is) others eleven = absurd (omega (arith, below))

pub accepted_is_recorded : (is_calm : Type 0) → AcceptedGoesOn is_calm → AcceptedIsRecorded is_calm
accepted_is_recorded is_calm goes_on words inputs files_before files_after notes_before notes_after ran o s files says
    are recordable calm files_quiet =
    left ran.status o.known
    (goes_on RecordingAlone words inputs ran.blocks ran.status o.judged o.read o.stopped s files says are
    recordable.begins recordable.whole calm)
    (λ e. files_quiet (o.recorded.rose (o.recorded.failed e)))
