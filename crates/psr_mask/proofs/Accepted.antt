-- What is accepted is searched: at no other status nothing stands against it.
use Rattle.std.proofs.Common.{◌≡◌, ◌⊎◌, inl, inr, refl, arith}
use Rattle.channel_mask.specs.MaskLaws.{MasksAreNotRefused}
use Rattle.run_outcome.specs.Runs.{Alone}
use Rattle.run_outcome.specs.Ends.{AcceptedGoesOn}
use Rattle.psr_mask.specs.Masking.{mask_search}
use Rattle.psr_mask.specs.Outcome.{AcceptedIsSearched}
use Rattle.psr_mask.proofs.Causes.{no_mask}
use Rattle.psr_mask.proofs.Statuses.{left}

pub accepted_is_searched : (is_calm : Type 0) → MasksAreNotRefused → AcceptedGoesOn is_calm →
    AcceptedIsSearched is_calm
accepted_is_searched is_calm masks goes_on words seen o s files says are mask searched calm out_quiet =
    let a = o.answered in
    left (λ k. seen.ran.status ≡ k → (seen.ran.status ≡ 0) ⊎ (seen.ran.status ≡ 5)) seen.ran.status a.known
    (goes_on (Alone (mask_search words)) words seen.inputs seen.ran.blocks seen.ran.status a.run.judged a.run.read
    a.run.stopped s files says are searched.begins searched.whole calm)
    (λ e. inl e) (λ e. inr e)
    (λ e. let many = (a.too_many e s files says are).total in
    let few = searched.total in absurd (omega (arith, few, many)))
    (λ e. absurd (out_quiet (a.written.failed e)))
    (λ e. absurd (no_mask words is_calm seen o s files says are calm masks mask e)) refl
