-- What lanes have above a base, and rows that are written and looked through a step at a time.
use Rattle.std.proofs.Common.{◌≡◌, ℕ, ◌+◌, ◌-◌, ◌%◌, ◌^◌, ◌<◌, ◌≤◌, inl, inr, List, length, map, slice_index, get_or, false, refl, cond, ltb, max, min, replicate, ◌∙◌, sym, ap, subst, arith}
use Rattle.std.proofs.lemmas.Bool.{cases_lt}
use Rattle.std.specs.Simd.Lanes.{zip2}
use lib.Lanes.{sel_l, top}
use mir.Syntax.{Width}
use mir.Val.{bits, hbits}
use Rattle.std.proofs.lemmas.Simd.{tops_compared, length-zip2, get_or-zip2, length-sel_l, get_or-sel_l}
use Rattle.fdmt_rows.specs.Capped.{AreRaised, LanesUpTo}
use Rattle.fdmt_rows.specs.Rows.{IsGreatest}
use Rattle.fdmt_rows.specs.Writes.{Writes}
use Rattle.fdmt_rows.proofs.GreatestValues.{least_bound_is_greatest}
use Rattle.fdmt_rows.proofs.Raising.{lanes_up_to, lesser_is_min, raised_twice, zero_lanes}
use Rattle.fdmt_rows.proofs.Steps.{greater_is_max}

-- the first of these values are no greater than a bound
abbrev pub ValuesUpTo : (ℕ → ℕ) → ℕ → ℕ → Type 0
ValuesUpTo value count bound = (k : ℕ) → k < count → value k ≤ bound

-- lanes that are chosen by a comparison
abbrev pub chosen : Width → List ℕ → List ℕ → List ℕ → List ℕ → List ℕ
chosen w xs ys us vs = sel_l (map (top (hbits w)) (zip2 (λ a b. cond (ltb a b) (2 ^ bits w - 1) 0) xs ys)) us vs

pub chosen_length : (w : Width) (xs ys us vs : List ℕ) (n : ℕ) → length xs ≡ n → length ys ≡ n → length us ≡ n
    → length vs ≡ n → length (chosen w xs ys us vs) ≡ n
chosen_length w xs ys us vs n lx ly lu lv =
    let tests = zip2 ltb xs ys in
    let long : length tests ≡ n = length-zip2 ltb xs ys (lx ∙ sym ly) ∙ lx in
    ap length (ap (λ ms. sel_l ms us vs) (tops_compared w ltb xs ys))
    ∙ length-sel_l tests us vs (long ∙ sym lu) (long ∙ sym lv)
    ∙ long

pub chosen_at : (w : Width) (xs ys us vs : List ℕ) (n : ℕ) → length xs ≡ n → length ys ≡ n → length us ≡ n
    → length vs ≡ n → (k : ℕ) → k < n
    → get_or (chosen w xs ys us vs) k 0 ≡ cond (ltb (get_or xs k 0) (get_or ys k 0)) (get_or us k 0) (get_or vs k 0)
chosen_at w xs ys us vs n lx ly lu lv k small =
    let tests = zip2 ltb xs ys in
    let long : length tests ≡ n = length-zip2 ltb xs ys (lx ∙ sym ly) ∙ lx in
    ap (λ l. get_or l k 0) (ap (λ ms. sel_l ms us vs) (tops_compared w ltb xs ys))
    ∙ get_or-sel_l tests us vs k 0 (omega (arith, small, long)) (omega (arith, small, lu)) (omega (arith, small, lv))
    ∙ ap (λ t. cond t (get_or us k 0) (get_or vs k 0))
    (get_or-zip2 ltb xs ys k 0 0 false (omega (arith, small, lx)) (omega (arith, small, ly)))

-- what a value has above a base
pub excess_is : (x base raised rest : ℕ) → x < 2 ^ 32 → base < 2 ^ 32 → raised ≡ cond (ltb x base) base x
    → rest ≡ (raised + (2 ^ 32 - base)) % 2 ^ 32
    → cond (ltb rest 65535) rest 65535 ≡ min (x - base) 65535
excess_is x base raised rest small small_base is_raised is_rest =
    let greater : raised ≡ max x base = is_raised ∙ greater_is_max x base base refl in
    lesser_is_min rest 65535 ∙ omega arith

-- what a lane of 16 bits has above a base
pub above_is : (x base raised : ℕ) → x < 2 ^ 16 → base < 2 ^ 16 → raised ≡ cond (ltb x base) base x
    → (raised + (2 ^ 16 - base)) % 2 ^ 16 ≡ x - base
above_is x base raised small small_base is_raised =
    let greater : raised ≡ max x base = is_raised ∙ greater_is_max x base base refl in
    omega arith

-- the values of a row, of which the first `done` are written and looked at: lanes are raised to them
pub record Looked (old new start lanes : List ℕ) (value : ℕ → ℕ) (done : ℕ) : Type 0 where
  pub written : Writes old new 0 done value
  pub raised : AreRaised start lanes (ValuesUpTo value done)

-- sixteen more, of which some may have been looked at before
pub more_looked : (old mid new start lanes most raised : List ℕ) (value : ℕ → ℕ) (done at next : ℕ) → at ≤ done
    → done ≤ next → at + 16 ≡ next → length lanes ≡ 16
    → ((k : ℕ) → k < 16 → slice_index lanes k ≡ value (at + k))
    → Looked old mid start most value done
    → Writes mid new at (at + 16) (λ k. slice_index lanes (k - at)) → AreRaised most raised (LanesUpTo lanes)
    → Looked old new start raised value next
more_looked old mid new start lanes most raised value done at next begins within is_next long is before one more =
    let at_lane : (k : ℕ) → at ≤ k → k < next → slice_index lanes (k - at) ≡ value k =
    λ k low high. is (k - at) (omega arith) ∙ ap value (let e : at + (k - at) ≡ k = omega arith in e) in
    record {
      written = record {
        before = λ k lt. absurd (omega arith);
        written = λ k low high. elim (cases_lt k at) [
          | inl earlier ↦ one.before k earlier ∙ before.written.written k low (omega arith)
          | inr here ↦ one.written k here (omega arith) ∙ at_lane k here high
        ];
        after = λ k high. one.after k (omega arith) ∙ before.written.after k (omega arith);
      };
      raised = raised_twice start most raised (ValuesUpTo value done) (LanesUpTo lanes) (ValuesUpTo value next)
          before.raised more
          (λ bound first second k lt. elim (cases_lt k at) [
            | inl earlier ↦ first k (omega arith)
            | inr here ↦ subst (λ (x : ℕ). x ≤ bound) (at_lane k here lt) (second (k - at))
          ])
          (λ bound all k lt. all k (omega arith))
          (λ bound all. lanes_up_to lanes bound long
          (λ j lt. subst (λ (x : ℕ). x ≤ bound) (sym (is j lt)) (all (at + j) (omega arith))));
    }

-- and the greatest lane is the greatest of them, where lanes began at 0
pub greatest_looked : (old new lanes : List ℕ) (value : ℕ → ℕ) (done most : ℕ) → length new ≡ done
    → Looked old new (replicate 16 0) lanes value done → LanesUpTo lanes most
    → ((bound : ℕ) → LanesUpTo lanes bound → most ≤ bound) → IsGreatest new most
greatest_looked old new lanes value done most long looked enough least = least_bound_is_greatest new most
    (λ k lt. subst (λ (x : ℕ). x ≤ most) (sym (looked.written.written k (omega arith) (omega arith)))
    (looked.raised.enough most enough k (omega arith)))
    (λ bound up. least bound (looked.raised.least bound
    (λ lane. let zero_lane = zero_lanes lane in omega arith)
    (λ k lt. subst (λ (x : ℕ). x ≤ bound) (looked.written.written k (omega arith) lt) (up k))))
