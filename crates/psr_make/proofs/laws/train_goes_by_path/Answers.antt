use Rattle.std.proofs.Common.{◌≡◌, ◌+◌, ℕ, List, true, slice_index, sym, subst}
use Rattle.psr_make.specs.Pulses.{is_passed, IsPassed}
use Rattle.psr_make.specs.Made.{made_path}
use Rattle.psr_make.proofs.Bands.{path_is}
use Rattle.psr_make.proofs.Passing.{passed, where_passed}
use Rattle.psr_make.proofs.laws.train_goes_by_path.Goals as goal

pub returns : goal.returns
returns c = λ s e channel t r is.
    let same : e ≡ made_path s = path_is c.edges_fall.ensures c.has_one_path.ensures s e r is in
    let P : List ℕ → Type 0 = λ p.
    IsPassed s (slice_index p channel) (slice_index p (channel + 1)) t in
    let there : (p : List ℕ) → P p →
    is_passed s (slice_index p channel) (slice_index p (channel + 1)) t ≡ true = λ p h.
    passed s (slice_index p channel) (slice_index p (channel + 1)) t h.0 r.some_period h.1 h.2 h.3 in (
      λ on. subst P (sym same) (where_passed s (slice_index (made_path s) channel)
          (slice_index (made_path s) (channel + 1)) t on),
      λ h. there (made_path s) (subst P same h),
    )
