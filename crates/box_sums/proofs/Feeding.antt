-- What a feed leaves, and what boxes read of it.
use Rattle.std.proofs.Common.{◌≡◌, ◌≢◌, refl, ℕ, ◌+◌, ◌-◌, ◌*◌, ◌^◌, ◌<◌, ◌≤◌, inl, inr, List, length, slice_index, sum, take, drop, replicate, ◌++◌, ◌∙◌, sym, ap, subst, arith, length-append, length-take, append_assoc}
use Rattle.std.specs.List.{All}
use Rattle.std.proofs.lemmas.Bool.{cases_lt}
use Rattle.std.proofs.lemmas.List.{drop_all, take-take, drop-drop, drop-take, drop-append-le, length-replicate, get_or_past}
use Rattle.std.proofs.lemmas.List.Elements.{All-from_get_or}
use Rattle.std.proofs.lemmas.List.Sums.{sum_by-le}
use Rattle.std.proofs.Math.Nat.{mul-le-mul_right}
use Rattle.std.proofs.Math.Pow.{pow_mono}
use Rattle.fdmt_rows.specs.Rows.{sum_from}
use Rattle.box_sums.specs.Tails.{FeedsRow, KeepsRow, LeavesOthers, RowTails, StandsForRow, row_at}
use Rattle.box_sums.specs.Rows.{sum_ending, Keeps}
use Rattle.box_sums.specs.Tables.{AreBounds, AreMade, AreUpTo}
use Rattle.box_sums.proofs.Doubling.{boxes_bounded}
use Rattle.box_sums.proofs.Parts.{part_small, drop_small}
use Rattle.box_sums.proofs.Ending.{box_is_ending}

pub feeds : (old new feed xs : List ℕ) (reach n : ℕ) → Keeps old reach n xs
    → take (reach + length feed) new ≡ take reach (drop n old) ++ feed
    → Keeps new reach (length feed) (xs ++ feed)
feeds old new feed xs reach n keeps is =
    let all = replicate reach 0 ++ xs in
    let count = length-append xs feed in
    let room : length all ≡ reach + length xs =
    length-append (replicate reach 0) xs ∙ ap (λ r. r + length xs) (length-replicate reach 0) in
    let some : n ≤ length xs = keeps.some in
    record {
      some = omega (arith, count);
      last =
          is
          ∙ ap (λ ys. ys ++ feed)
          (sym (drop-take n reach old)
          ∙ ap (λ m. drop n (take m old)) (let e : n + reach ≡ reach + n = omega arith in e)
          ∙ ap (λ ys. drop n ys) keeps.last
          ∙ drop-drop n (length xs - n) all
          ∙ ap (λ m. drop m all) (let e : length xs - n + n ≡ length xs = omega arith in e))
          ∙ sym (drop-append-le (length xs) all feed (omega arith))
          ∙ ap (λ ys. drop (length xs) ys) (append_assoc (replicate reach 0) xs feed)
          ∙ ap (λ m. drop m (replicate reach 0 ++ (xs ++ feed)))
          (let e : length xs ≡ length (xs ++ feed) - length feed = omega (arith, count) in e);
    }

-- a part of a row of a table
pub inner_part : (stride s w : ℕ) (ys : List ℕ) → s + w ≤ stride → take w (drop s (take stride ys)) ≡ take w (drop s ys)
inner_part stride s w ys le =
    sym (drop-take s w (take stride ys)) ∙ ap (λ zs. drop s zs) (take-take (s + w) stride ys le) ∙ drop-take s w ys

pub sum_bound : (bound n : ℕ) (xs : List ℕ) → AreUpTo bound xs → sum (take n xs) ≤ n * bound
sum_bound bound n xs small =
    let each : All (λ x. x ≤ bound) (take n xs) =
    All-from_get_or (λ x. x ≤ bound) (take n xs) 0 (λ i h. part_small bound 0 n xs small i) in
    let total = sum_by-le (λ x. x) bound (take n xs) each in
    let short : length (take n xs) ≤ n = simp length-take (omega arith) in
    let less : length (take n xs) * bound ≤ n * bound = mul-le-mul_right bound short in
    omega (arith, total, less)

-- the sum of so many values fits
pub sum_fits : (bound widest n : ℕ) (xs : List ℕ) → AreUpTo bound xs → n ≤ widest → bound * widest < 2 ^ 32
    → sum (take n xs) < 2 ^ 32
sum_fits bound widest n xs small le fits =
    let total = sum_bound bound n xs small in
    let less : n * bound ≤ widest * bound = mul-le-mul_right bound le in
    omega (arith, total, less, fits)

-- the values of a list with a bound, and 0 past its end
pub all_up_to : (bound : ℕ) (xs : List ℕ) → All (λ x. x ≤ bound) xs → AreUpTo bound xs
all_up_to bound xs all k = elim (cases_lt k (length xs)) [
  | inl h ↦ all k 0 h
  | inr h ↦ subst (λ (x : ℕ). x ≤ bound) (sym (get_or_past xs k 0 h)) (omega arith)
]

-- where no value is needed before a feed, none is kept
pub none_kept : (row xs : List ℕ) (reach : ℕ) → reach ≡ 0 → Keeps row reach 0 xs
none_kept row xs reach none =
    subst (λ (r : ℕ). Keeps row r 0 xs) (sym none)
    (record { some = omega arith; last = sym (drop_all (length xs - 0) xs (omega arith)) })

-- the line of a feed
pub line_keeps : (tails line tail feed xs : List ℕ) (reach at : ℕ)
    → Keeps (row_at tails reach at) reach 0 xs → tail ≡ row_at tails reach at
    → take (reach + length feed) line ≡ tail ++ feed
    → Keeps line reach (length feed) (xs ++ feed)
line_keeps tails line tail feed xs reach at keeps is_tail is =
    let whole : tail ≡ take reach (drop 0 (row_at tails reach at)) =
    is_tail ∙ sym (take-take reach reach (drop (at * reach) tails) (omega arith)) in
    feeds (row_at tails reach at) line feed xs reach 0 keeps (is ∙ ap (λ ys. ys ++ feed) whole)

-- and its last values, for the next feed
pub tail_keeps : (line row xs : List ℕ) (reach n : ℕ) → Keeps line reach n xs
    → take reach row ≡ take reach (drop n line) → Keeps row reach 0 xs
tail_keeps line row xs reach n keeps is =
    let all = replicate reach 0 ++ xs in
    let some : n ≤ length xs = keeps.some in
    record {
      some = omega arith;
      last =
          ap (λ m. take m row) (let e : reach + 0 ≡ reach = omega arith in e)
          ∙ is
          ∙ sym (drop-take n reach line)
          ∙ ap (λ m. drop n (take m line)) (let e : n + reach ≡ reach + n = omega arith in e)
          ∙ ap (λ ys. drop n ys) keeps.last
          ∙ drop-drop n (length xs - n) all
          ∙ ap (λ m. drop m all) (let e : length xs - n + n ≡ length xs - 0 = omega arith in e);
    }

-- a line that was written to the front of a row
pub copied_keeps : (line row values xs : List ℕ) (reach n : ℕ) → Keeps line reach n xs
    → values ≡ take (reach + n) line → length values ≡ reach + n → take (length values) row ≡ values
    → Keeps row reach n xs
copied_keeps line row values xs reach n keeps is long written = record {
  some = keeps.some;
  last = ap (λ m. take m row) (sym long) ∙ written ∙ is ∙ keeps.last;
}

-- a row that was not written
pub same_row : (old given new kept : List ℕ) (stride e : ℕ) → given ≡ old → kept ≡ new
    → row_at new stride e ≡ row_at given stride e → row_at old stride e ≡ row_at kept stride e
same_row old given new kept stride e same_old same_new same =
    sym (ap (λ ys. row_at ys stride e) same_old) ∙ sym same ∙ sym (ap (λ ys. row_at ys stride e) same_new)

-- where row d of the table was written, the other rows stand for what they stood for
pub others_left : (b old : RowTails) (given new kept : List ℕ) (d : ℕ) → b ≡ old → given ≡ b.tails → kept ≡ new
    → KeepsRow old d
    → ((k : ℕ) → k ≢ d - b.first → row_at new b.reach k ≡ row_at given b.reach k)
    → LeavesOthers old (record b { tails = kept }) d
others_left b old given new kept d same_view same_given same_kept row others =
    subst (λ (o : RowTails). KeepsRow o d → LeavesOthers o (record b { tails = kept }) d) same_view
    (λ row e xs has other stands.
    let above = row.above in
    let mine = has.above in
    subst (λ (ys : List ℕ). Keeps ys b.reach 0 xs)
    (same_row b.tails given new kept b.reach (e - b.first) same_given same_kept
    (others (e - b.first) (λ same. other (omega (arith, above, mine, same)))))
    stands)
    row

-- and where the last values of the line of a feed were written there, row d was fed with it
pub row_fed : (b old : RowTails) (line new kept feed : List ℕ) (d : ℕ) → b ≡ old → kept ≡ new
    → ((xs : List ℕ) → StandsForRow b d xs → Keeps line b.reach (length feed) (xs ++ feed))
    → take b.reach (row_at new b.reach (d - b.first)) ≡ take b.reach (drop (length feed) line)
    → FeedsRow old (record b { tails = kept }) d feed
row_fed b old line new kept feed d same_view same_kept fed last =
    subst (λ (o : RowTails). FeedsRow o (record b { tails = kept }) d feed) same_view
    (λ xs stands.
    subst (λ (ys : List ℕ). Keeps (row_at ys b.reach (d - b.first)) b.reach 0 (xs ++ feed)) (sym same_kept)
    (tail_keeps line (row_at new b.reach (d - b.first)) (xs ++ feed) b.reach (length feed) (fed xs stands) last))

-- what is made is no wider than the widest
pub made_narrow : (made level result widest : ℕ) → 2 ^ made ≤ widest → 2 ^ level ≤ widest
    → ((most : ℕ) → made ≤ most → level ≤ most → result ≤ most) → 2 ^ result ≤ widest
made_narrow made level result widest before asked within = elim (cases_lt made level) [
  | inl h ↦ let fewer : 2 ^ result ≤ 2 ^ level = pow_mono (within level (omega arith) (omega arith)) in omega arith
  | inr h ↦ let fewer : 2 ^ result ≤ 2 ^ made = pow_mono (within made (omega arith) h) in omega arith
]

-- what was made in the parts of a value is made in it
pub made_seen : (line given boxes new greatest most : List ℕ) (total stride made : ℕ) → given ≡ line → boxes ≡ new
    → greatest ≡ most → AreMade given total new stride most made → AreMade line total boxes stride greatest made
made_seen line given boxes new greatest most total stride made same_line same_boxes same_greatest are =
    subst (λ xs. AreMade xs total boxes stride greatest made) same_line
    (subst (λ xs. AreMade given total xs stride greatest made) (sym same_boxes)
    (subst (λ xs. AreMade given total new stride xs made) (sym same_greatest) are))

-- boxes of further widths fit, so they are made
pub made_doubled : (line boxes given new greatest most next : List ℕ) (bound widest total stride made level result : ℕ)
    → AreUpTo bound line → 2 ^ level ≤ widest → bound * widest < 2 ^ 32 → given ≡ boxes → most ≡ greatest
    → ((line : List ℕ) → ((i : ℕ) → sum_from line i (2 ^ level) < 2 ^ 32)
    → AreMade line total given stride most made → AreMade line total new stride next result)
    → AreMade line total boxes stride greatest made → AreMade line total new stride next result
made_doubled line boxes given new greatest most next bound widest total stride made level result small narrow fits
    same_boxes same_greatest doubles are =
    doubles line
    (λ i. sum_fits bound widest (2 ^ level) (drop i line) (drop_small bound i line small) narrow fits)
    (made_seen line line given boxes most greatest total stride made refl same_boxes same_greatest are)

pub box_read : (table xs : List ℕ) (stride at reach n k w : ℕ)
    → Keeps (row_at table stride at) reach n xs → k < n → w ≤ reach + 1 → reach + n ≤ stride
    → sum (take w (drop (at * stride + (reach + 1 - w) + k) table)) ≡ sum_ending xs (length xs - n + k) w
box_read table xs stride at reach n k w keeps lt narrow short =
    let start : ℕ = reach + 1 - w + k in
    ap (λ m. sum (take w (drop m table))) (let e : at * stride +
    (reach + 1 - w) + k ≡ at * stride + start = omega arith in e)
    ∙ ap (λ ys. sum (take w ys)) (sym (drop-drop start (at * stride) table))
    ∙ ap (λ ys. sum ys) (sym (inner_part stride start w (drop (at * stride) table) (omega arith)))
    ∙ box_is_ending (row_at table stride at) xs reach n k w keeps lt narrow

-- a box that ends in the last feed is below a least sum where so many of the greatest narrower boxes are
pub box_below : (bounds line xs : List ℕ) (reach n k w made known level least : ℕ)
    → 2 ^ level ≡ w → 1 ≤ known → known ≤ level → known ≤ made → AreBounds bounds made line (reach + n)
    → slice_index bounds known * 2 ^ (level - known) < least
    → Keeps line reach n xs → k < n → w ≤ reach + 1
    → sum_ending xs (length xs - n + k) w < least
box_below bounds line xs reach n k w made known level least power some order le are below keeps lt narrow =
    let start : ℕ = reach + 1 - w + k in
    let more : ℕ = level - known in
    let whole : 2 ^ (known + more) ≡ w = ap (λ m. 2 ^ m) (let e : known + more ≡ level = omega arith in e) ∙ power in
    let sum_is = ap (λ m. sum_from line start m) whole ∙ box_is_ending line xs reach n k w keeps lt narrow in
    let most = boxes_bounded bounds line made known more (reach + n) start some le are (omega (arith, whole)) in
    omega (arith, sum_is, most, below)

-- and each fits
pub ending_fits : (line xs : List ℕ) (bound widest reach n k w : ℕ) → AreUpTo bound line → w ≤ widest
    → bound * widest < 2 ^ 32 → Keeps line reach n xs → k < n → w ≤ reach + 1
    → sum_ending xs (length xs - n + k) w < 2 ^ 32
ending_fits line xs bound widest reach n k w small le fits keeps lt narrow =
    let start : ℕ = reach + 1 - w + k in
    let whole = box_is_ending line xs reach n k w keeps lt narrow in
    let fit = sum_fits bound widest w (drop start line) (drop_small bound start line small) le fits in
    omega (arith, whole, fit)
