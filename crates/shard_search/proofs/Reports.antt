-- The box of a hit, as a pulse.
use Rattle.std.proofs.Common.{◌≡◌, ℕ, ◌+◌, ◌-◌, ◌*◌, ◌<◌, ◌≤◌, ◌^◌, ◌&&◌, ◌++◌, Bool, true, false, cond, List, [], ◌∷◌, Some, length, nat_le, refl, sym, ◌∙◌, ap, arith}
use Rattle.std.proofs.lemmas.Bool.{le-leb}
use Rattle.std.proofs.lemmas.Bool.Decides.{nat_tests}
use Rattle.std.proofs.lemmas.List.FromFn.{length-map-range_with_len}
use Rattle.box_sums.specs.Rows.{SumsAddValues, sum_ending}
use Rattle.detect_rule.specs.Noise.{StandOutFrom}
use Rattle.search_model.specs.declared.search.Search.{Search}
use Rattle.search_model.specs.declared.candidate.Candidate.TheVariants.{Pulse}
use Rattle.search_model.specs.Candidates.{if_detected}
use Rattle.search_model.specs.Laws.{TestsDetection}
use Rattle.fold_search.specs.Judging.{noise_of}
use Rattle.shard_search.specs.Pulses.{first_sums, box_of, pulse_of}
use Rattle.shard_search.specs.Sought.{Sought, cells_in, is_sought_end}
use Rattle.shard_search.specs.Thresholds.{pulses_of_hits}
use Rattle.shard_search.specs.declared.thresholds.Hit.{Hit}
use Rattle.shard_search.proofs.Boxes.{box_is, no_pulse, is_silent}

-- the sum that ends at the k-th of the last n sums of a row is a box
pub ending_is_box : SumsAddValues → (y : ℕ → ℕ → ℕ) (d start n k w : ℕ) → k < n →
    sum_ending (first_sums y d (start + n)) (length (first_sums y d (start + n)) - n + k) w ≡ box_of y d (start + k) w
ending_is_box adds y d start n k w inside =
    let long = length-map-range_with_len (y d) 0 (start + n) in
    let place : length (first_sums y d (start + n)) - n + k ≡ start + k = omega arith in
    ap (λ u. sum_ending (first_sums y d (start + n)) u w) place
    ∙ box_is adds y d (start + n) (start + k) w (omega arith)

-- a box that begins before the delay is not judged
pub early_box : (y : ℕ → ℕ → ℕ) (s : Search) (c : Sought) (u d w : ℕ) → u + 1 < d + w → pulse_of y s c u d w ≡ []
unfolding pulse_of
early_box y s c u d w early =
    let no_way : nat_le (d + w) (u + 1) ≡ false = grind (arith, nat_tests) in
    let found = if_detected (cells_in c) s (Pulse (c.first + u) d w (box_of y d u w)) in
    ap (λ b. cond (b && is_sought_end c u) found []) no_way

not_both : {X : Type 0} (b : Bool) (xs : List X) → cond (b && false) xs [] ≡ []
not_both true xs = refl
not_both false xs = refl

-- nor is one at an end that isn't sought
unsought_box : (y : ℕ → ℕ → ℕ) (s : Search) (c : Sought) (u d w : ℕ) → is_sought_end c u ≡ false →
    pulse_of y s c u d w ≡ []
unfolding pulse_of
unsought_box y s c u d w out =
    let found = if_detected (cells_in c) s (Pulse (c.first + u) d w (box_of y d u w)) in
    ap (λ b. cond (nat_le (d + w) (u + 1) && b) found []) out ∙ not_both (nat_le (d + w) (u + 1)) found

pub unsought_hits : (y : ℕ → ℕ → ℕ) (s : Search) (c : Sought) (u : ℕ) (hits : List Hit) → is_sought_end c u ≡ false →
    pulses_of_hits y s c u hits ≡ []
unsought_hits y s c u [] out = refl
unsought_hits y s c u (hit ∷ hits) out =
    ap (λ xs. xs ++ pulses_of_hits y s c u hits) (unsought_box y s c u hit.delay hit.width out)
    ∙ unsought_hits y s c u hits out

-- a sum from the least one on is a pulse
pub reported_box : TestsDetection → (y : ℕ → ℕ → ℕ) (s : Search) (c : Sought) (u d w sum least : ℕ) →
    sum ≡ box_of y d u w → sum < 2 ^ 32 → StandOutFrom (noise_of s) (w * cells_in c d) (Some least) → least ≤ sum →
    d + w ≤ u + 1 → is_sought_end c u ≡ true → Pulse (c.first + u) d w sum ∷ [] ≡ pulse_of y s c u d w
unfolding pulse_of
reported_box tests y s c u d w sum least is fits out reached late sought =
    let begins = le-leb (d + w) (u + 1) late in
    let detected = (tests s.mean s.sd s.snr sum (w * cells_in c d)).1 ((out sum fits).1 reached) in
    let found = if_detected (cells_in c) s (Pulse (c.first + u) d w (box_of y d u w)) in
    sym (ap (λ b. cond (b && is_sought_end c u) found []) begins ∙ ap (λ b. cond b found []) sought
    ∙ ap (λ x. if_detected (cells_in c) s (Pulse (c.first + u) d w x)) (sym is)
    ∙ ap (λ b. cond b (Pulse (c.first + u) d w sum ∷ []) []) detected)

-- and one below it is none
pub missed_box : TestsDetection → (y : ℕ → ℕ → ℕ) (s : Search) (c : Sought) (u d w sum least : ℕ) →
    sum ≡ box_of y d u w → sum < 2 ^ 32 → StandOutFrom (noise_of s) (w * cells_in c d) (Some least) → sum < least →
    pulse_of y s c u d w ≡ []
missed_box tests y s c u d w sum least is fits out below =
    no_pulse tests y s c u d w (is_silent s (w * cells_in c d) (box_of y d u w) (Some least) (omega arith) out
    (λ x e. let same : least ≡ x = cc in omega arith))
