use Rattle.std.proofs.Common.{ℕ, ◌≡◌, ◌<◌, ◌+◌, ◌-◌, ◌%◌, ◌^◌, false, map, cond, ltb, length, get_or, sym, ap, ◌∙◌, arith, w16}
use lib.Lanes.{zip2, sel_l}
use Rattle.std.proofs.lemmas.List.{get_or-map, length-map}
use Rattle.std.proofs.lemmas.Simd.{below_from_Fits, Each1-get_or, tops_compared, length-zip2, length-sel_l, get_or-sel_l, get_or-zip2}
use Rattle.fdmt_rows.proofs.Raising.{saturated}
use Rattle.fdmt_rows.proofs.capped.add_capped.Goals as goal

-- the second of two rows of lanes, so far as there is room above the first
pub returns-clause-long : goal.returns-clause-long
returns-clause-long c =
    let a = c.args.a in
    let b = c.args.b in
    let room = map (λ x. 65535 - x) a in
    let la : length a ≡ 16 = c.requires.first in
    let lb : length b ≡ 16 = c.requires.second in
    let lr : length room ≡ 16 = length-map a (λ x. 65535 - x) ∙ la in
    let lt : length (zip2 ltb b room) ≡ 16 = length-zip2 ltb b room (lb ∙ sym lr) ∙ lb in
    let is = ap (λ ms. sel_l ms b room) (tops_compared w16 ltb b room) in
    let fitting = length-sel_l (zip2 ltb b room) b room (omega arith) (omega arith) in
    length-zip2 (λ x y. (x + y) % 2 ^ 16) a _ (la ∙ sym (ap length is ∙ fitting ∙ lt)) ∙ la

pub returns-clause-sums : goal.returns-clause-sums
returns-clause-sums c = λ k small.
    let a = c.args.a in
    let b = c.args.b in
    let room = map (λ x. 65535 - x) a in
    let la : length a ≡ 16 = c.requires.first in
    let lb : length b ≡ 16 = c.requires.second in
    let lr : length room ≡ 16 = length-map a (λ x. 65535 - x) ∙ la in
    let lt : length (zip2 ltb b room) ≡ 16 = length-zip2 ltb b room (lb ∙ sym lr) ∙ lb in
    let is = ap (λ ms. sel_l ms b room) (tops_compared w16 ltb b room) in
    let fitting = length-sel_l (zip2 ltb b room) b room (omega arith) (omega arith) in
    let fits = below_from_Fits w16 a c.fits-a.1 in
    let small_lane : get_or a k 0 < 2 ^ 16 = Each1-get_or (λ (x : ℕ). x < 2 ^ 16) a k 0 (omega arith) fits in
    get_or-zip2 (λ x y. (x + y) % 2 ^ 16) a _ k 0 0 0 (omega arith) (omega (arith, ap length is, fitting, lt))
    ∙ ap (λ l. (get_or a k 0 + get_or l k 0) % 2 ^ 16) is
    ∙ ap (λ m. (get_or a k 0 + m) % 2 ^ 16)
    (get_or-sel_l (zip2 ltb b room) b room k 0 (omega arith) (omega arith) (omega arith)
    ∙ ap (λ t. cond t (get_or b k 0) (get_or room k 0)) (get_or-zip2 ltb b room k 0 0 false (omega arith) (omega arith)))
    ∙ saturated (get_or a k 0) (get_or b k 0) (get_or room k 0) small_lane
    (get_or-map (λ x. 65535 - x) a k 0 0 (omega arith))
