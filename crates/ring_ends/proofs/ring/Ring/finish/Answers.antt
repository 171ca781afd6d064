use Rattle.std.proofs.Common.{◌≡◌, ℕ, length, Option, unwrap_or, sym, ap, ◌∙◌, subst, arith}
use Rattle.ring_words.specs.declared.shape.RingShape.{RingShape}
use Rattle.ring_words.specs.declared.views.ReaderView.{ReaderView}
use Rattle.ring_words.specs.Views.{after_join}
use Rattle.ring_words.specs.Seats.{writer_view, reader_view, Reads}
use Rattle.ring_ends.specs.declared.passes.EndedReader.{EndedReader}
use Rattle.ring_ends.specs.Passes.{writer_knows, ended_knows, EndedFrom}
use Rattle.ring_ends.specs.Ended.{Gives}
use Rattle.ring_ends.proofs.Joining.{taken, join_more, joined_all, each_counted, each_begins}
use Rattle.ring_ends.proofs.ring.Ring.finish.Goals as goal

pub unreachable-requires : goal.unreachable-requires
unreachable-requires c = let n : ℕ = c.loop-number._number in
    let readers = ap (λ (z : RingShape). z.readers) c.shape-number-end.ensures.shape in
    let test = c.loop-number-test.true in
    let h = taken c.args.self c.args.readers.items c.requires.readers c.loop-number.readers.items n c.remove.result
    (omega arith) c.loop-number.invariant.1.left c.remove.ensures.value in
    c.in_default.not-Some h.0 h.1

pub bounds-counts-number : goal.bounds-counts-number
bounds-counts-number c = let n : ℕ = c.loop-number._number in
    let readers = ap (λ (z : RingShape). z.readers) c.shape-number-end.ensures.shape in
    let test = c.loop-number-test.true in
    let h = taken c.args.self c.args.readers.items c.requires.readers c.loop-number.readers.items n c.remove.result
    (omega arith) c.loop-number.invariant.1.left c.remove.ensures.value in
    let one : h.0 ≡ c.in-Some.ended = ap (λ (o : Option EndedReader). unwrap_or o h.0) (sym h.1 ∙ c.in-Some.is) in
    let from : EndedFrom c.args.self c.in-Some.ended = subst (EndedFrom c.args.self) one h.3 in
    let reads : Reads c.args.self.words c.into_seat-reader.result = subst (Reads c.args.self.words)
    (sym c.into_seat-reader.ensures.seat) from in
    let most = c.args.self.words.ring.most_readers in let range = c.into_seat-reader.result.in_range in
    let number = c.into_seat-reader.result.number_is in let same = ap (λ (z : RingShape). z.readers) reads.1 in
    let is = c.number.ensures in omega arith

pub join-requires-clause-reader_seat : goal.join-requires-clause-reader_seat
join-requires-clause-reader_seat c = let n : ℕ = c.loop-number._number in
    let readers = ap (λ (z : RingShape). z.readers) c.shape-number-end.ensures.shape in
    let test = c.loop-number-test.true in
    let h = taken c.args.self c.args.readers.items c.requires.readers c.loop-number.readers.items n c.remove.result
    (omega arith) c.loop-number.invariant.1.left c.remove.ensures.value in
    let one : h.0 ≡ c.in-Some.ended = ap (λ (o : Option EndedReader). unwrap_or o h.0) (sym h.1 ∙ c.in-Some.is) in
    let from : EndedFrom c.args.self c.in-Some.ended = subst (EndedFrom c.args.self) one h.3 in
    subst (Reads c.args.self.words) (sym c.into_seat-reader.ensures.seat) from

pub loop-number-preserved : goal.loop-number-preserved
loop-number-preserved c = let n : ℕ = c.loop-number._number in
    let readers = ap (λ (z : RingShape). z.readers) c.shape-number-end.ensures.shape in
    let test = c.loop-number-test.true in
    let h = taken c.args.self c.args.readers.items c.requires.readers c.loop-number.readers.items n c.remove.result
    (omega arith) c.loop-number.invariant.1.left c.remove.ensures.value in
    let one : h.0 ≡ c.in-Some.ended = ap (λ (o : Option EndedReader). unwrap_or o h.0) (sym h.1 ∙ c.in-Some.is) in
    let here : Gives c.args.readers.items n c.in-Some.ended = subst (Gives c.args.readers.items n) one h.2 in
    let from : EndedFrom c.args.self c.in-Some.ended = subst (EndedFrom c.args.self) one h.3 in
    let reads : Reads c.args.self.words c.into_seat-reader.result = subst (Reads c.args.self.words)
    (sym c.into_seat-reader.ensures.seat) from in
    let most = c.args.self.words.ring.most_readers in let range = c.into_seat-reader.result.in_range in
    let field = c.into_seat-reader.result.number_is in let same = ap (λ (z : RingShape). z.readers) reads.1 in
    let knows : reader_view c.into_seat-reader.result ≡ ended_knows c.in-Some.ended =
    ap reader_view c.into_seat-reader.ensures.seat in
    let parks = c.loop-number.seat.parks in let shaped = ap
    (λ (z : RingShape). z.readers) c.loop-number.invariant.0.1 in let is = c.number.ensures in
    let number = ap (λ (r : ReaderView). r.number) knows in (
      c.join.ensures.seat,
      join_more c.args.self c.args.readers.items c.requires.readers c.loop-number.readers.items
          c.remove.new.self.items n (writer_knows c.args.writer) (writer_view c.loop-number.seat)
          (writer_view c.join.new.writer) c.loop-number.counts
          c.in-Some.ended c.number.result c.cleared.result c.loop-number.invariant.1 here c.remove.ensures.items
          (c.join.ensures.view ∙ ap (after_join (writer_view c.loop-number.seat)) knows) (is ∙ number)
          (omega arith)
          (c.cleared.ensures ∙ ap (λ (r : ReaderView). length r.cleared) knows) (omega arith),
    )

pub invariant_of-result : goal.invariant_of-result
invariant_of-result c = let readers = ap (λ (z : RingShape). z.readers) c.shape-number-end.ensures.shape in
    let test = c.loop-number-test.false in let count = c.requires.readers.count in
    let most = c.args.self.words.ring.most_readers in
    let same = ap (λ (z : RingShape). z.readers) c.look.ensures.seat.1 in
    let joined = joined_all c.args.self c.args.readers.items c.requires.readers c.loop-number.readers.items
    c.loop-number._number (writer_knows c.args.writer) (writer_view c.loop-number.seat)
    (writer_view c.look.new.writer) c.loop-number.counts 0 c.look.result
    c.loop-number.invariant.1 (omega arith) c.look.ensures.saw.view in
    record {
      few = omega arith;
      settled = c.look.ensures.saw.settled;
      counted =
          λ i near. each_counted c.args.self c.args.readers.items c.requires.readers
          (writer_view c.look.new.writer) c.loop-number.counts joined i (omega arith);
    }

pub returns-clause-readers : goal.returns-clause-readers
returns-clause-readers c = let readers = ap (λ (z : RingShape). z.readers) c.shape-number-end.ensures.shape in
    let test = c.loop-number-test.false in let count = c.requires.readers.count in
    (joined_all c.args.self c.args.readers.items c.requires.readers c.loop-number.readers.items c.loop-number._number
    (writer_knows c.args.writer) (writer_view c.loop-number.seat)
    (writer_view c.look.new.writer) c.loop-number.counts 0 c.look.result
    c.loop-number.invariant.1 (omega arith) c.look.ensures.saw.view).parked

pub returns-clause-begins : goal.returns-clause-begins
returns-clause-begins c = let readers = ap (λ (z : RingShape). z.readers) c.shape-number-end.ensures.shape in
    let test = c.loop-number-test.false in let count = c.requires.readers.count in
    let joined = joined_all c.args.self c.args.readers.items c.requires.readers c.loop-number.readers.items
    c.loop-number._number (writer_knows c.args.writer) (writer_view c.loop-number.seat)
    (writer_view c.look.new.writer) c.loop-number.counts 0 c.look.result
    c.loop-number.invariant.1 (omega arith) c.look.ensures.saw.view in
    each_begins c.args.self c.args.readers.items c.requires.readers
    (writer_view c.look.new.writer) c.loop-number.counts joined c.look.ensures.saw.settled
