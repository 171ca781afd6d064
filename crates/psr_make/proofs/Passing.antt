-- When a pulse passes a channel.
use Rattle.std.proofs.Common.{◌≡◌, ℕ, ◌+◌, ◌-◌, ◌*◌, ◌/◌, ◌%◌, ◌<◌, ◌≤◌, inl, inr, Bool, true, false, length, get_or, sym, ◌∙◌, refl, arith, subst, zero-add, min, max}
use Rattle.std.proofs.lemmas.Bool.{cases_lt}
use Rattle.std.proofs.lemmas.Bool.Decides.{nat_tests}
use Rattle.std.proofs.Math.Nat.{mul-le-mul_right, mul-le-mul_left}
use Rattle.std.specs.List.{range_with_len}
use Rattle.std.proofs.lemmas.List.Folds.{list_any_at, list_any_none, Any-from_list_any}
use Rattle.std.proofs.lemmas.List.FromFn.{length-range_with_len, get_or-range_with_len}
use Rattle.std.proofs.lemmas.Grind.{div_ceil_times}
use Rattle.psr_make.specs.Runs.{IsNextRun}
use Rattle.psr_make.specs.Pulses.{passes, is_passed, IsPassed}
use Rattle.psr_make.specs.declared.spec.MakeSpec.{MakeSpec}

-- a product by what is some
factor_le : (k p : ℕ) → 1 ≤ p → k ≤ k * p
factor_le k p some =
    let e : k * 1 ≤ k * p = mul-le-mul_left k some in
    omega arith

pub passes_where : (s : MakeSpec) (enters leaves t k : ℕ) → s.delay + k * s.period < s.spectra
    → enters + k * s.period ≤ t → t ≤ leaves + k * s.period → passes s enters leaves t k ≡ true
passes_where s enters leaves t k there low high = grind (arith, nat_tests)

pub passes_only : (s : MakeSpec) (enters leaves t k : ℕ) → passes s enters leaves t k ≡ true
    → (s.delay + k * s.period < s.spectra) × (enters + k * s.period ≤ t) × (t ≤ leaves + k * s.period)
passes_only s enters leaves t k is = (grind (arith, nat_tests), grind (arith, nat_tests), grind (arith, nat_tests))

pub passed : (s : MakeSpec) (enters leaves t k : ℕ) → 1 ≤ s.period → s.delay + k * s.period < s.spectra
    → enters + k * s.period ≤ t → t ≤ leaves + k * s.period → is_passed s enters leaves t ≡ true
unfolding is_passed
passed s enters leaves t k some there low high =
    let few : k ≤ k * s.period = factor_le k s.period some in
    let within : k < length (range_with_len 0 s.spectra) = rw length-range_with_len (omega arith) in
    let at : get_or (range_with_len 0 s.spectra) k 0 ≡ k =
    get_or-range_with_len 0 s.spectra k 0 (omega arith) ∙ zero-add k in
    let P : ℕ → Type 0 = λ i. passes s enters leaves t i ≡ true in
    list_any_at (passes s enters leaves t) (range_with_len 0 s.spectra) k 0 within
    (subst P (sym at) (passes_where s enters leaves t k there low high))

-- what is no such test is false
not_true : (b : Bool) → (b ≡ true → ⊥) → b ≡ false
not_true true h = absurd (h refl)
not_true false h = refl

pub not_passed : (s : MakeSpec) (enters leaves t : ℕ)
    → ((k : ℕ) → s.delay + k * s.period < s.spectra → enters + k * s.period ≤ t → t ≤ leaves + k * s.period → ⊥)
    → is_passed s enters leaves t ≡ false
unfolding is_passed
not_passed s enters leaves t none =
    let never : (k : ℕ) → passes s enters leaves t k ≡ false = λ k. not_true (passes s enters leaves t k)
    (λ is. let h = passes_only s enters leaves t k is in none k h.0 h.1 h.2) in
    list_any_none (passes s enters leaves t) (range_with_len 0 s.spectra) (λ i d lt. never _)

pub where_passed : (s : MakeSpec) (enters leaves t : ℕ) → is_passed s enters leaves t ≡ true
    → IsPassed s enters leaves t
unfolding is_passed
where_passed s enters leaves t is =
    let found = Any-from_list_any (passes s enters leaves t) (range_with_len 0 s.spectra) is in
    let h = passes_only s enters leaves t found.1 found.4 in
    (found.1, h.0, h.1, h.2)

-- ---- the next run

-- the first pulse that leaves the channel at `from` or later, and where it begins
pub record IsNextPulse (s : MakeSpec) (leaves from pulse : ℕ) : Type 0 where
  pub reaches : from ≤ leaves + pulse * s.period
  pub first : (k : ℕ) → k < pulse → leaves + k * s.period < from

pub next_pulse : (s : MakeSpec) (leaves from pulse : ℕ) → 1 ≤ s.period
    → pulse ≡ (from - leaves) / s.period + min 1 ((from - leaves) % s.period) → IsNextPulse s leaves from pulse
next_pulse s leaves from pulse some is =
    let period : ℕ = s.period in
    let past : ℕ = from - leaves in
    let times : (past ≤ pulse * period) × (pulse * period < past + period) =
    subst (λ (p : ℕ). (past ≤ p * period) × (p * period < past + period)) (sym is) (div_ceil_times past period some) in
    record {
      reaches = omega (arith, times.0);
      first = λ k below.
          let more : (k + 1) * period ≤ pulse * period = mul-le-mul_right period (omega arith) in
          let lt : pulse * period < past + period = times.1 in
          omega arith;
    }

-- a pulse that passes at `from` or later is the next one or a later one
not_before : (s : MakeSpec) (leaves from pulse t k : ℕ) → IsNextPulse s leaves from pulse → from ≤ t
    → t ≤ leaves + k * s.period → pulse * s.period ≤ k * s.period
not_before s leaves from pulse t k next low high = elim (cases_lt k pulse) [
  | inl below ↦ let gone = next.first k below in absurd (omega arith)
  | inr above ↦ mul-le-mul_right s.period above
]

-- there is no such pulse
pub no_run : (s : MakeSpec) (enters leaves from to pulse : ℕ) → IsNextPulse s leaves from pulse → from ≤ to
    → s.spectra ≤ s.delay + pulse * s.period → IsNextRun s enters leaves from to (record { start = to; end = to })
no_run s enters leaves from to pulse next order past = record {
  above = order;
  order = omega arith;
  within = omega arith;
  goes_on = λ h. h;
  before = λ t low high. not_passed s enters leaves t (λ k there enter leave.
      let later = not_before s leaves from pulse t k next low leave in absurd (omega arith));
  inside = λ t low high. absurd (omega arith);
}

-- it is the next run
pub is_run : (s : MakeSpec) (enters leaves from to pulse start end : ℕ) → 1 ≤ s.period
    → IsNextPulse s leaves from pulse → from ≤ to → enters ≤ leaves → s.delay + pulse * s.period < s.spectra
    → start ≡ min (max from (enters + pulse * s.period)) to → end ≡ min to (leaves + pulse * s.period + 1)
    → IsNextRun s enters leaves from to (record { start = start; end = end })
is_run s enters leaves from to pulse start end some next order passage there start_is end_is =
    let reaches = next.reaches in
    record {
      above = omega arith;
      order = omega arith;
      within = omega arith;
      goes_on = λ h. omega arith;
      before = λ t low high. not_passed s enters leaves t (λ k is enter leave.
          let later = not_before s leaves from pulse t k next low leave in absurd (omega arith));
      inside = λ t low high. passed s enters leaves t pulse some there (omega arith) (omega arith);
    }
