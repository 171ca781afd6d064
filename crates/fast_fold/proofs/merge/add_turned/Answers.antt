use Rattle.std.proofs.Common.{ℕ, ◌≡◌, ◌-◌, ◌+◌, ◌≤◌, length, ◌∙◌, arith}
use borrow.Rule.Slice.PartMut.{put_mid}
use Rattle.fast_fold.proofs.Parts.{part_length, put_length}
use Rattle.fast_fold.proofs.Turned.{part_added, turned_part}
use Rattle.fast_fold.proofs.merge.add_turned.Goals as goal

pub returns : goal.returns
returns c =
    let out = c.args.out.now in
    let a : ℕ = c.min-left.result in
    let b : ℕ = c.min-right.result in
    let e : ℕ = c.max-left.result in
    let f : ℕ = c.max-right.result in
    let turn : ℕ = c.args.turn in
    let cut : ℕ = length out - turn in
    let inside : a + (b - a) ≤ length out = omega (arith, c.min-left.ensures, c.min-right.ensures, c.requires.part) in
    let inside' : e + (f - e) ≤ length out =
    omega (arith, c.max-left.ensures, c.max-right.ensures, c.requires.part, c.requires.within) in
    let a_b : a ≤ b = omega (arith, c.min-left.ensures, c.min-right.ensures, c.requires.part) in
    let e_f : e ≤ f = omega (arith, c.max-left.ensures, c.max-right.ensures, c.requires.part) in
    let mid = put_mid a (b - a) out c.add_rows.new.out in
    let front : length c.add_rows.new.out ≡ b - a = c.add_rows.auto.out ∙ part_length a (b - a) out inside in
    let long : length mid ≡ length out = put_length a (b - a) out c.add_rows.new.out inside front in
    let back : length c.add_rows-2.new.out ≡ f - e =
    c.add_rows-2.auto.out ∙ part_length e (f - e) mid (omega arith) in
    turned_part out mid _ c.args.first.now c.args.second.now (length out) turn c.args.from c.args.end a b e f
    c.requires.turn c.requires.part c.requires.within
    c.min-left.ensures c.min-right.ensures c.max-left.ensures c.max-right.ensures
    (part_added out c.args.first.now c.args.second.now c.add_rows.new.out a b _ (a + turn) _ _
    a_b (omega arith) front (omega arith) (omega arith) (omega arith) c.add_rows.ensures.wrapping)
    (part_added mid c.args.first.now c.args.second.now c.add_rows-2.new.out e f _ (e - cut) _ _
    e_f (omega arith) back (omega arith) (omega arith) (omega arith) c.add_rows-2.ensures.wrapping)
