-- Statuses and stops.
use Rattle.std.proofs.Common.{◌≡◌, ◌≢◌, ℕ, zero, suc, Bool, true, false, List, [], ◌∷◌, ◌++◌, inl, inr, refl, sym, subst, None, Contains, lit<, arith}
use Rattle.std.proofs.lemmas.List.Elements.{Contains-append_left, Contains-push_cases}
use Rattle.std.specs.Prelude.{Option, nat_le, ◌&&◌}
use Rattle.psr_base.specs.Told.{Told}
use Rattle.ring_ends.specs.declared.finished.Finished.{Finished}
use Rattle.disk_feeder.specs.declared.answers.FeedEnd.{FeedEnd}
use Rattle.disk_feeder.specs.declared.answers.FeedEnd.TheVariants as feed
use Rattle.run_outcome.specs.Conversions.{stop_of_feed}
use Rattle.run_outcome.specs.declared.stop.Stop.{Stop}
use Rattle.run_outcome.specs.declared.stop.Stop.TheVariants.{ReadFault}
use Rattle.run_outcome.specs.Texts.{status_of}
use Rattle.run_outcome.specs.Lone.{LoneSearch}
use Rattle.run_outcome.specs.Runs.{Alone}
use Rattle.run_outcome.specs.Outcomes.{SealsStream}
use Rattle.drive_lone.specs.Outcomes.{SealsAlone}

-- R, once P is known of each of these numbers
abbrev pub FromEach : (ℕ → Type 0) → List ℕ → Type 0 → Type 0
FromEach P [] R = R
FromEach P (k ∷ more) R = P k → FromEach P more R

from_none : (P : ℕ → Type 0) (xs : List ℕ) {R : Type 0} → R → FromEach P xs R
from_none P [] r = r
from_none P (k ∷ more) r = λ p. from_none P more r

-- P of one of these numbers, from P of each of them in turn
pub from_each : (P : ℕ → Type 0) (xs : List ℕ) (n : ℕ) → Contains xs n → FromEach P xs (P n)
from_each P [] n (i, below, is) = absurd (omega (arith, below))
from_each P (k ∷ more) n (zero, below, is) = λ p. from_none P more (subst P is p)
from_each P (k ∷ more) n (suc i, below, is) = λ p. from_each P more n (i, omega (arith, below), is)

abbrev pub statuses : List ℕ
statuses = 0 ∷ 2 ∷ 3 ∷ 4 ∷ 5 ∷ 6 ∷ 7 ∷ 8 ∷ 9 ∷ 10 ∷ 12 ∷ []

-- P of each status that is none of those which stop a run
pub left : (P : ℕ → Type 0) (n : ℕ) → Contains statuses n → ¬ Contains (2 ∷ 3 ∷ 4 ∷ 6 ∷ 7 ∷ 8 ∷ []) n → P 0 → P 5 →
    P 9 → P 10 → P 12 → P n
left P n known others p0 p5 p9 p10 p12 =
    from_each (λ k. ¬ Contains (2 ∷ 3 ∷ 4 ∷ 6 ∷ 7 ∷ 8 ∷ []) k → P k) statuses n known (λ not. p0)
    (λ not. absurd (not (0, lit< tt, refl))) (λ not. absurd (not (1, lit< tt, refl)))
    (λ not. absurd (not (2, lit< tt, refl))) (λ not. p5) (λ not. absurd (not (3, lit< tt, refl)))
    (λ not. absurd (not (4, lit< tt, refl))) (λ not. absurd (not (5, lit< tt, refl))) (λ not. p9) (λ not. p10)
    (λ not. p12) others

-- At any other status than its own a search alone sealed what any run seals: where all data were sealed, no feeder was
-- stopped.
pub sealed_by_run : (own : ℕ) (lone : LoneSearch) (words : List (List ℕ)) (told : Told) (blocks : Option Finished)
    (n : ℕ) → n ≢ own → SealsAlone own lone words told blocks n → SealsStream (Alone lone) words told blocks n
sealed_by_run own lone words told blocks n other is = record {
  none = λ e. but_own (2 ∷ 3 ∷ 4 ∷ 5 ∷ 6 ∷ []) (is.none e);
  some = λ e. Contains-append_left (0 ∷ 3 ∷ 6 ∷ 7 ∷ 8 ∷ 9 ∷ 10 ∷ []) (11 ∷ []) n
      (but_own (0 ∷ 3 ∷ 6 ∷ 7 ∷ 8 ∷ 9 ∷ 10 ∷ []) (is.some e));
  begun = is.begun;
  passed = λ e late. is.passed e (not_stopped late);
  sealed = is.sealed;
  broken = is.broken;
}
  where
    but_own : (xs : List ℕ) → Contains (xs ++ own ∷ []) n → Contains xs n
    but_own xs there = elim (Contains-push_cases xs own n there) [ inl is ↦ is | inr same ↦ absurd (other (sym same)) ]

    not_stopped : Contains (0 ∷ 9 ∷ 10 ∷ 11 ∷ []) n → ¬ Contains (3 ∷ 6 ∷ 7 ∷ 8 ∷ []) n
    not_stopped late stopped =
        let is_stop : ℕ → Bool = λ k. nat_le 3 k && nat_le k 8 in
        let outside = from_each (λ k. is_stop k ≡ false) (0 ∷ 9 ∷ 10 ∷ 11 ∷ []) n late refl refl refl refl in
        let within = from_each (λ k. is_stop k ≡ true) (3 ∷ 6 ∷ 7 ∷ 8 ∷ []) n stopped refl refl refl refl in cc

-- 6 is the status of a fault of the inputs
pub fault_is : (stop : Stop) → status_of stop ≡ 6 → stop ≡ ReadFault
fault_is ReadFault is = refl
fault_is stop is = absurd (omega (arith, is))

-- all data were sealed where the feeder has no stop
pub whole_is : (e : FeedEnd) → stop_of_feed e ≡ None → (count : ℕ) × (e ≡ feed.Whole count)
whole_is (feed.Whole count) none = (count, refl)
whole_is e none = absurd cc
