use Rattle.std.proofs.Common.{◌≡◌, ℕ, ◌+◌, List, Option, sym, subst, arith}
use Rattle.ring_words.specs.declared.shape.RingShape.{RingShape}
use Rattle.ring_ends.specs.declared.passes.EndedReader.{EndedReader}
use Rattle.ring_bench.proofs.Gathering.{Gathered, one_more, all_gathered}
use Rattle.ring_bench.proofs.moving.gather.Goals as goal

pub loop-number-preserved : goal.loop-number-preserved
loop-number-preserved c = let n : ℕ = c.loop-number.number in (
  c.take_reader.ensures.rest,
  subst (λ (l : List (Option EndedReader)). Gathered c.args.ring.now l (n + 1))
      (sym c.push.ensures.items) (one_more c.args.ring.now c.loop-number.readers.items n c.in_ok-reader.reader
      c.loop-number.invariant.1 c.in_ok-reader.ensures.reader.0 c.in_ok-reader.ensures.reader.1),
)

pub returns : goal.returns
returns c = let n : ℕ = c.loop-number.number in let below = c.loop-number.auto.number-end in
    let above = c.loop-number-test.false in
    let all : n ≡ c.shape-number-end.result.readers = omega arith in
    all_gathered c.args.ring.now c.loop-number.readers.items n
    (subst (λ (z : RingShape). n ≡ z.readers) c.shape-number-end.ensures.shape all) c.loop-number.invariant.1
