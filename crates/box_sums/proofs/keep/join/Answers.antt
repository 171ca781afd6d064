use Rattle.std.proofs.Common.{ℕ, ◌≡◌, ◌+◌, ◌≤◌, List, length, take, drop, ◌++◌, ◌∙◌, sym, ap, subst, arith, length-append}
use Rattle.std.proofs.lemmas.List.{take_at}
use Rattle.std.proofs.lemmas.Slice.{take-put_mid}
use borrow.Rule.Slice.PartMut.{put_mid}
use Rattle.box_sums.specs.Tables.{AreUpTo}
use Rattle.box_sums.proofs.Parts.{append_small, drop_small, put_small}
use Rattle.box_sums.proofs.keep.join.Goals as goal

-- a list that is written behind another
joined : (line tail feed first second : List ℕ) (k : ℕ) → length tail + length feed ≤ length line
    → first ≡ tail → second ≡ feed
    → take (length tail + length feed) (put_mid (length tail) k (first ++ drop (length tail) line) second)
    ≡ tail ++ feed
joined line tail feed first second k room is_tail is_feed =
    let long : length first ≡ length tail = ap length is_tail in
    let count : length tail + length feed ≡ length tail + length second = ap (λ xs. length tail + length xs)
    (sym is_feed) in
    let all = length-append first (drop (length tail) line) in
    take-put_mid (length tail) k (first ++ drop (length tail) line) second (length tail + length feed) count
    (omega (arith, long, all))
    ∙ ap (λ xs. xs ++ second) (take_at first (drop (length tail) line) (length tail) long ∙ is_tail)
    ∙ ap (λ xs. tail ++ xs) is_feed

pub returns-clause-values : goal.returns-clause-values
returns-clause-values c =
    joined c.args.line.now c.args.tail.now c.args.feed.now c.copy_row.new.out c.copy_row-2.new.out _ c.requires.room
    c.copy_row.ensures c.copy_row-2.ensures

pub returns-clause-small : goal.returns-clause-small
returns-clause-small c = λ bound line tail feed.
    let all = length-append c.copy_row.new.out (drop (length c.args.tail.now) c.args.line.now) in
    let long : length c.copy_row.new.out ≡ length c.args.tail.now = ap length c.copy_row.ensures in
    put_small bound (length c.args.tail.now) _ (c.copy_row.new.out ++ drop
    (length c.args.tail.now) c.args.line.now) c.copy_row-2.new.out
    (omega (arith, all, long))
    (ap length c.copy_row-2.ensures ∙ omega arith)
    (append_small bound c.copy_row.new.out (drop (length c.args.tail.now) c.args.line.now)
    (subst (AreUpTo bound) (sym c.copy_row.ensures) tail)
    (drop_small bound (length c.args.tail.now) c.args.line.now line))
    (subst (AreUpTo bound) (sym c.copy_row-2.ensures) feed)
