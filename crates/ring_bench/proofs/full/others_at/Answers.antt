use Rattle.std.proofs.Common.{◌≡◌, ℕ, ◌+◌, ◌≤◌, List, cond, eqb, length, take, drop, get_or, replicate, refl, sym, ap, ◌∙◌, arith, w8}
use lib.Lanes.{sel_l}
use Rattle.std.proofs.lemmas.Simd.{tops_compared, get_or-replicate}
use Rattle.std.proofs.lemmas.List.{get_or-take, get_or-drop, length-take-le, length-drop}
use Rattle.ring_bench.proofs.Lanes.{chosen, chosen_long, same_byte}
use Rattle.ring_bench.proofs.full.others_at.Goals as goal

taken_long : (block : List ℕ) (at : ℕ) → at + 32 ≤ length block → length (take 32 (drop at block)) ≡ 32
taken_long block at room = omega (arith, length-take-le 32 (drop at block) (omega (arith, length-drop at block)))

pub returns-clause-long : goal.returns-clause-long
returns-clause-long c =
    let bytes = take 32 (drop c.args.at c.args.block.now) in
    let long : length bytes ≡ 32 = taken_long c.args.block.now c.args.at c.requires in
    ap (λ ms. length {A = ℕ} (sel_l ms (replicate 32 0) (replicate 32 255)))
    (tops_compared w8 eqb bytes (replicate 32 c.args.byte))
    ∙ chosen_long eqb bytes (replicate 32 c.args.byte) (replicate 32 0) (replicate 32 255) long refl refl refl

pub returns-clause-same : goal.returns-clause-same
returns-clause-same c = λ k lane zero.
    let at = c.args.at in
    let block = c.args.block.now in
    let byte = c.args.byte in
    let bytes = take 32 (drop at block) in
    let long : length bytes ≡ 32 = taken_long block at c.requires in
    let is : cond (eqb (get_or bytes k 0) byte) 0 255 ≡ 0 =
    sym (chosen eqb bytes (replicate 32 byte) (replicate 32 0) (replicate 32 255) k long refl refl refl lane
    ∙ ap (λ (x : ℕ). cond (eqb (get_or bytes k 0) x) (get_or (replicate 32 0) k 0) (get_or (replicate 32 255) k 0))
    (get_or-replicate 32 k byte 0 lane)
    ∙ ap (λ (x : ℕ). cond (eqb (get_or bytes k 0) byte) x (get_or (replicate 32 255) k 0))
    (get_or-replicate 32 k 0 0 lane)
    ∙ ap (λ (x : ℕ). cond (eqb (get_or bytes k 0) byte) 0 x) (get_or-replicate 32 k 255 0 lane))
    ∙ sym (ap (λ ms. get_or {A = ℕ} (sel_l ms (replicate 32 0) (replicate 32 255)) k 0)
    (tops_compared w8 eqb bytes (replicate 32 byte)))
    ∙ zero in
    sym (get_or-take 32 (drop at block) k 0 lane ∙ get_or-drop at block k 0) ∙ same_byte (get_or bytes k 0) byte is
