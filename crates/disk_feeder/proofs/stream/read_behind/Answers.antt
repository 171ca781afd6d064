use Rattle.std.proofs.Common.{◌≡◌, ◌+◌, ◌-◌, ◌≤◌, ℕ, List, ◌++◌, Result, Ok, Err, IfOk, length, take, sym, ap, ◌∙◌, arith, rules}
use Rattle.std.proofs.Math.Seq.{take-append-add}
use Rattle.std.proofs.lemmas.List.{take-append-le, length-take-le}
use Rattle.std.proofs.lemmas.Slice.{take-put_mid_below}
use borrow.Rule.Slice.PartMut.{put_mid, post_of}
use Rattle.psr_base.specs.Told.{Told}
use Rattle.disk_feeder.specs.declared.answers.FeedEnd.{FeedEnd}
use Rattle.disk_feeder.specs.declared.place.Place.{Place}
use Rattle.disk_feeder.specs.Plan.{Plan}
use Rattle.disk_feeder.specs.Reading.{ReadsTo}
use Rattle.disk_feeder.specs.Filling.{FillsTo}
use Rattle.disk_feeder.specs.Sources.{plan_of}
use Rattle.disk_feeder.proofs.stream.read_behind.Goals as goal

-- a piece was put behind the bytes that a block held
put_behind : (held k n : ℕ) (xs ys : List ℕ) → held ≤ length xs → n ≤ length ys →
    take (held + n) (put_mid held k xs ys) ≡ take held xs ++ take n ys
put_behind held k n xs ys in_xs in_ys =
    let zs = ys ++ post_of held k xs in
    ap (λ (i : ℕ). take (i + n) (take held xs ++ zs)) (sym (length-take-le held xs in_xs))
    ∙ take-append-add (take held xs) zs n
    ∙ ap (λ (t : List ℕ). take held xs ++ t) (take-append-le n ys (post_of held k xs) in_ys)

fills : (plan : Plan) (at at' : Place) (told told' : Told) (held k : ℕ) (xs ys : List ℕ) (r : Result ℕ FeedEnd) →
    held ≤ length xs → length ys ≡ length xs - held → IfOk r (λ n. n ≤ length ys) →
    ReadsTo plan at told at' told' ys r → FillsTo plan at told at' told' held xs (put_mid held k xs ys) r
fills plan at at' told told' held k xs ys (Ok n) in_xs count bound reads = λ before current has. (
  take n ys,
  put_behind held k n xs ys in_xs bound,
  length-take-le n ys bound,
  reads before current has,
)
fills plan at at' told told' held k xs ys (Err end) in_xs count bound reads = λ before current has.
    rw (← count) (reads before current has)

pub returns-clause-read : goal.returns-clause-read
returns-clause-read g c = record {
  filled = fills (plan_of c.args.source.now) c.args.source.now.place c.advance.new.self.place
      (g.I.Inputs.told c.args.inputs.now) (g.I.Inputs.told c.advance.new.inputs) c.args.held
      (length c.args.block.now - c.args.held) c.args.block.now c.advance.new.into c.advance.result (omega arith)
      (search rules) c.advance.ensures.bound c.advance.ensures.read;
  reads_on = c.advance.ensures.reads_on;
}

pub returns-clause-front : goal.returns-clause-front
returns-clause-front g c =
    take-put_mid_below c.args.held (length c.args.block.now - c.args.held) c.args.block.now c.advance.new.into
    c.args.held
    (omega arith) (omega arith)
