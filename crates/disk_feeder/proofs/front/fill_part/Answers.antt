use Rattle.std.proofs.Common.{◌≡◌, ◌+◌, ◌-◌, ◌≤◌, ◌<◌, ℕ, List, ◌++◌, Option, Some, min, Result, Ok, Err, MatchResult, IfOk, IfErr, length, take, drop, sym, ap, ◌∙◌, arith, rules}
use Rattle.std.specs.Option.{ForSome}
use Rattle.std.proofs.Math.Seq.{take-append-add}
use Rattle.std.proofs.lemmas.List.{take-append-le, length-take-le, take_min, drop_min}
use Rattle.psr_base.specs.Told.{FillsFrom, left_to_read, rest_after, moved_by, filled_by, BreaksWithin}
use Rattle.psr_base.specs.declared.faults.Failed.{Failed}
use borrow.Rule.Slice.PartMut.{put_mid, post_of}
use Rattle.disk_feeder.specs.Front.{HasReadPart}
use Rattle.disk_feeder.proofs.front.fill_part.Goals as goal

-- the next bytes were put at a place
part_read : (from k n : ℕ) (xs ys left : List ℕ) → from ≤ length xs → length ys ≡ k → n ≤ length ys →
    FillsFrom left n ys → take (from + n) (put_mid from k xs ys) ≡ take from xs ++ take k left
part_read from k n xs ys left in_xs count in_ys fills =
    let zs = ys ++ post_of from k xs in
    let least : n ≡ min k (length left) = omega (arith, fills.count, count) in
    ap (λ (i : ℕ). take (i + n) (take from xs ++ zs)) (sym (length-take-le from xs in_xs))
    ∙ take-append-add (take from xs) zs n
    ∙ ap (λ (t : List ℕ). take from xs ++ t) (take-append-le n ys (post_of from k xs) in_ys ∙ fills.given
    ∙ ap (λ (m : ℕ). take m left) least ∙ take_min k left)

-- what is left then
rest_read : (k n : ℕ) (o o' : Option (List ℕ)) (ys left : List ℕ) → o ≡ Some left → o' ≡ rest_after n o →
    length ys ≡ k → FillsFrom left n ys → o' ≡ Some (drop k left)
rest_read k n o o' ys left known rest count fills =
    let least : n ≡ min k (length left) = omega (arith, fills.count, count) in
    rest ∙ ap (rest_after n) known ∙ ap (λ (m : ℕ). Some (drop m left)) least ∙ ap Some (drop_min k left)

all_ok : (r : Result ℕ Failed) (P Q R S : ℕ → Type 0) → ((n : ℕ) → P n → Q n → R n → S n) → IfOk r P → IfOk r Q →
    IfOk r R → IfOk r S
all_ok (Ok n) P Q R S f p q r = f n p q r
all_ok (Err e) P Q R S f p q r = tt

pub returns-clause-read : goal.returns-clause-read
returns-clause-read g c =
    let from = c.args.from in
    let to = c.args.to in
    let xs = c.args.space.now in
    let ys = c.fill.new.into in
    let o = left_to_read (g.I.Inputs.told c.args.inputs.now) in
    let o' = left_to_read (g.I.Inputs.told c.fill.new.inputs) in
    let count : length ys ≡ to - from = search rules in
    all_ok c.fill.result (λ n. n ≤ length ys) (λ n. ForSome o (λ left. FillsFrom left n ys)) (λ n. o' ≡ rest_after n o)
    (λ n. ForSome o (HasReadPart from to n xs (put_mid from (to - from) xs ys) o'))
    (λ n in_ys fills rest left known. record {
      bytes = part_read from (to - from) n xs ys left (omega arith) count in_ys (fills left known);
      count = (fills left known).count ∙ ap (min (length left)) count;
      rest = rest_read (to - from) n o o' ys left known rest count (fills left known);
    })
    c.fill.ensures.bound c.fill.ensures.filled c.fill.ensures.left

either : (r : Result ℕ Failed) (P P' : ℕ → Type 0) (Q Q' : Type 0) → ((n : ℕ) → P n → P' n) → (Q → Q') → IfOk r P →
    IfErr r (λ _. Q) → MatchResult r P' (λ _. Q')
either (Ok n) P P' Q Q' f g p q = f n p
either (Err e) P P' Q Q' f g p q = g q

pub returns-clause-told : goal.returns-clause-told
returns-clause-told g c =
    let ys = c.fill.new.into in
    let k = c.args.to - c.args.from in
    let count : length ys ≡ k = search rules in
    let told = g.I.Inputs.told c.args.inputs.now in
    let told' = g.I.Inputs.told c.fill.new.inputs in
    either c.fill.result (λ n. told' ≡ filled_by n (length ys) told) (λ n. told' ≡ filled_by n k told)
    ((m : ℕ) × (m < length ys) × (told' ≡ moved_by m told)) (BreaksWithin k told told')
    (λ n moved. moved ∙ ap (λ (size : ℕ). filled_by n size told) count)
    (λ lost. (lost.0, omega (arith, lost.1, count), lost.2)) c.fill.ensures.moved c.fill.ensures.lost
