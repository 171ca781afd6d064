-- Boxes over the sums of a stream, and which of them are detected.
use Rattle.std.proofs.Common.{◌≡◌, ℕ, ◌+◌, ◌-◌, ◌*◌, ◌<◌, ◌^◌, ◌&&◌, List, length, Bool, true, false, cond, IsTrue, [], ◌∷◌, zero, suc, Option, Some, None, slice_index, nat_le, ◌∙◌, ap, arith, refl}
use Rattle.std.specs.Option.{unwrap_or}
use Rattle.std.proofs.lemmas.Bool.{false≢true, le-leb}
use Rattle.std.proofs.lemmas.List.FromFn.{length-map-range_with_len, get_or-map-range_with_len}
use Rattle.box_sums.specs.Rows.{IsWidth, SumsAddValues, ending_in_feed, sum_ending, value_before}
use Rattle.detect_rule.specs.Noise.{StandOutFrom}
use Rattle.search_model.specs.declared.search.Search.{Search}
use Rattle.search_model.specs.declared.candidate.Candidate.TheVariants.{Pulse}
use Rattle.search_model.specs.Candidates.{if_detected}
use Rattle.search_model.specs.Detection.{IsDetected, is_detected}
use Rattle.search_model.specs.Laws.{TestsDetection}
use Rattle.fold_search.specs.Judging.{noise_of}
use Rattle.shard_search.specs.Pulses.{IsRowOf, first_sums, box_of, pulse_of}
use Rattle.shard_search.specs.Sought.{Sought, cells_in, is_sought_end}
use Rattle.shard_search.proofs.Rows.{sums_more}
use Rattle.shard_search.proofs.Terms.{one_term, same_terms}

pub not_true : (b : Bool) → ¬ IsTrue b → b ≡ false
not_true true no_way = absurd (no_way refl)
not_true false no_way = refl

-- ---- boxes

value_is : (y : ℕ → ℕ → ℕ) (d m u i : ℕ) (b : Bool) → u < m →
    cond b (slice_index (first_sums y d m) (u - i)) 0 ≡ cond b (y d (u - i)) 0
value_is y d m u i true lt = get_or-map-range_with_len (y d) 0 m (u - i) (u - i) 0 (omega arith) (omega arith)
value_is y d m u i false lt = refl

-- the sum of the last values of a row is the box
pub box_is : SumsAddValues → (y : ℕ → ℕ → ℕ) (d m u w : ℕ) → u < m → sum_ending (first_sums y d m) u w ≡ box_of y d u w
unfolding box_of
box_is adds y d m u w lt =
    let long = length-map-range_with_len (y d) 0 m in
    adds (first_sums y d m) u w (omega arith)
    ∙ same_terms (λ i. value_before (first_sums y d m) u i) (λ i. cond (nat_le i u) (y d (u - i)) 0) w
    (λ i below. value_is y d m u i (nat_le i u) lt)

-- and so it is where the row is fed behind the sums before it
pub box_in_feed : SumsAddValues → (y : ℕ → ℕ → ℕ) (d m k w : ℕ) (row : List ℕ) → IsRowOf y d m row → k < length row →
    ending_in_feed (first_sums y d m) row k w ≡ box_of y d (m + k) w
box_in_feed adds y d m k w row is lt =
    let n : ℕ = length row in
    let long = length-map-range_with_len (y d) 0 (m + n) in
    ap (λ xs. sum_ending xs (length xs - n + k) w) (sums_more y d m row is)
    ∙ ap (λ i. sum_ending (first_sums y d (m + n)) i w)
    (let e : length (first_sums y d (m + n)) - n + k ≡ m + k = omega (arith, long) in e)
    ∙ box_is adds y d (m + n) (m + k) w (omega arith)

pub width_one : (w : ℕ) → IsWidth w → w < 2 → w ≡ 1
width_one zero is lt = absurd (false≢true is)
width_one (suc zero) is lt = refl
width_one (suc (suc w)) is lt = absurd (omega arith)

sum_of_one : (y : ℕ → ℕ → ℕ) (d u : ℕ) → box_of y d u 1 ≡ y d u
unfolding box_of
sum_of_one y d u =
    one_term (λ k. cond (nat_le k u) (y d (u - k)) 0)
    ∙ ap (λ b. cond b (y d (u - 0)) 0) (le-leb 0 u (omega arith)) ∙ ap (y d) (let e : u - 0 ≡ u = omega arith in e)

-- a box of one sum is the sum
pub box_of_one : (y : ℕ → ℕ → ℕ) (d u w : ℕ) → IsWidth w → w < 2 → box_of y d u w ≡ y d u
box_of_one y d u w is lt = ap (λ v. box_of y d u v) (width_one w is lt) ∙ sum_of_one y d u

-- ---- detection

-- where the box isn't detected there is no pulse
undetected : TestsDetection → (s : Search) (c : Sought) (u d w sum : ℕ) →
    ¬ IsDetected s.mean s.sd s.snr sum (w * cells_in c d) → if_detected (cells_in c) s (Pulse u d w sum) ≡ []
undetected tests s c u d w sum silent =
    ap (λ b. cond b (Pulse u d w sum ∷ []) []) (not_true (is_detected s.mean s.sd s.snr sum (w * cells_in c d))
    (λ is. silent ((tests s.mean s.sd s.snr sum (w * cells_in c d)).0 is)))

pub no_pulse : TestsDetection → (y : ℕ → ℕ → ℕ) (s : Search) (c : Sought) (u d w : ℕ) →
    ¬ IsDetected s.mean s.sd s.snr (box_of y d u w) (w * cells_in c d) → pulse_of y s c u d w ≡ []
unfolding pulse_of
no_pulse tests y s c u d w silent = elim (nat_le (d + w) (u + 1) && is_sought_end c u) as (λ b.
    cond b (if_detected (cells_in c) s (Pulse (c.first + u) d w (box_of y d u w))) [] ≡ []) [
      | true ↦ undetected tests s c (c.first + u) d w (box_of y d u w) silent
      | false ↦ refl
    ]

-- a sum below the least one isn't detected, and none where there is no least one
pub is_silent : (s : Search) (cells sum : ℕ) (least : Option ℕ) → sum < 2 ^ 32 →
    StandOutFrom (noise_of s) cells least → ((x : ℕ) → least ≡ Some x → sum < x) →
    ¬ IsDetected s.mean s.sd s.snr sum cells
is_silent s cells sum (Some x) fits out below = λ is.
    let reached = (out sum fits).0 is in let short = below x refl in absurd (omega arith)
is_silent s cells sum None fits out below = out sum fits

-- a box below the least sum that is detected is no pulse, and none is where there is no least one
pub quiet_box : TestsDetection → (y : ℕ → ℕ → ℕ) (s : Search) (c : Sought) (u d w : ℕ) (least : Option ℕ) →
    StandOutFrom (noise_of s) (w * cells_in c d) least → box_of y d u w < 2 ^ 32 →
    ((x : ℕ) → least ≡ Some x → box_of y d u w < x) → pulse_of y s c u d w ≡ []
quiet_box tests y s c u d w least out fits below =
    no_pulse tests y s c u d w (is_silent s (w * cells_in c d) (box_of y d u w) least fits out below)

-- nor is one below the least sum or, where there is none, below the greatest number of 32 bits
pub lesser_box : TestsDetection → (y : ℕ → ℕ → ℕ) (s : Search) (c : Sought) (u d w bound : ℕ) (least : Option ℕ) →
    StandOutFrom (noise_of s) (w * cells_in c d) least → bound ≡ unwrap_or least (2 ^ 32 - 1) → bound < 2 ^ 32 →
    box_of y d u w < bound → pulse_of y s c u d w ≡ []
lesser_box tests y s c u d w bound (Some x) out is fits below =
    quiet_box tests y s c u d w (Some x) out (omega arith)
    (λ least e. let same : x ≡ least = ap (λ o. unwrap_or o x) e in omega (arith, below, is, same))
lesser_box tests y s c u d w bound None out is fits below =
    quiet_box tests y s c u d w None out (omega arith)
    (λ least e. let both : None ≡ Some least = e in absurd (cc))
