use Rattle.std.proofs.Common.{◌<◌, ◌+◌, ℕ, List, [], ◌∷◌, length, length-append, Option, Some, sym, ap, ◌∙◌, subst, arith}
use Rattle.ring_words.specs.declared.shape.RingShape.{RingShape}
use Rattle.ring_words.specs.declared.seats.ReaderSeat.{ReaderSeat}
use Rattle.ring_words.specs.Seats.{HasFreshReader}
use Rattle.ring_words.specs.Views.{fresh_reader, parked_at, after_split}
use Rattle.ring_words.proofs.Opening.{next_parked, next_rest, seats_more}
use Rattle.ring_words.proofs.words.Words.open.Goals as goal

pub seat_reader-requires-clause-fresh : goal.seat_reader-requires-clause-fresh
seat_reader-requires-clause-fresh c = let now = c.loop-number.invariant in let n : ℕ = c.loop-number.number in
    let near : n < c.args.shape.readers = omega arith in
    ap (λ w. parked_at w n) now.rest ∙ (next_parked c.args.shape n near
    ∙ ap (λ (z : RingShape). Some (fresh_reader z n)) (sym now.shaped))

pub loop-number-preserved : goal.loop-number-preserved
loop-number-preserved c = let now = c.loop-number.invariant in let n : ℕ = c.loop-number.number in
    let near : n < c.args.shape.readers = c.loop-number-test.true in let pushed = c.push.ensures.items in record {
      shaped = now.shaped;
      writes = c.seat_reader.ensures.seat;
      rest = c.seat_reader.ensures.rest ∙ (ap after_split now.rest ∙ next_rest c.args.shape n near);
      count = let long = now.count in omega (
        arith,
        ap (λ (l : List (Option ReaderSeat)). length l) pushed,
        length-append c.loop-number.readers.items (Some c.seat_reader.result ∷ []),
      );
      readers = subst (λ (l : List (Option ReaderSeat)). (i : ℕ) → i < n + 1 → HasFreshReader c.in_ok-words.words l i)
          (sym pushed) (seats_more c.in_ok-words.words c.loop-number.readers.items n c.seat_reader.result now.count
          c.seat_reader.ensures.reader now.readers);
    }
