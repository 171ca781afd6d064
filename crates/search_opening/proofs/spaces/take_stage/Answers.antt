use Rattle.std.proofs.Common.{rules, ◌≡◌, ℕ, ◌+◌, ◌*◌, ◌≤◌, length, ap, ◌∙◌, subst, arith}
use Rattle.std.specs.Prelude.{vec_len}
use Rattle.std.proofs.Math.Nat.{mul_comm}
use Rattle.ring_words.specs.declared.shape.RingShape.{RingShape}
use Rattle.search_engine.specs.Engine.{most_fed}
use Rattle.search_words.specs.Settings.{with_search, run_seen}
use Rattle.search_opening.specs.Rings.{run_shape}
use Rattle.search_opening.specs.Space.{IsSpaceOf}
use Rattle.search_opening.specs.Spaces.{IsStageSpace, recorders, shape_for}
use Rattle.search_opening.proofs.Results.{if_ok}
use Rattle.search_opening.proofs.spaces.take_stage.Goals as goal

pub returns-clause-space : goal.returns-clause-space
returns-clause-space g c = λ task found observations are.
    let s = with_search found (run_seen c.args.run.now) in
    let banks = c.args.banks in
    let made = c.run_shape-shape in
    let banks_len = c.len.ensures.value in
    let count = c.recorder_count.ensures in
    let len : vec_len c.args.run.now.starts ≡ length c.args.run.now.starts.items = search rules in
    let starts = c.len-2.ensures ∙ len in
    let readers : c.len.result + c.recorder_count.result ≡ length banks.items + recorders s =
    omega (arith, banks_len, count) in
    let shape : made.result ≡ shape_for s (length banks.items) =
    made.ensures.shape
    ∙ ap (λ (n : ℕ). run_shape s.buffers s.size n s.max_bytes c.len-2.result) readers
    ∙ ap (λ (n : ℕ). run_shape s.buffers s.size (length banks.items + recorders s) s.max_bytes n) starts in
    let Fits : RingShape → Type 0 = λ r. s.size * r.max_blocks ≤ most_fed in
    let total = subst Fits shape made.ensures.total in
    if_ok (IsSpaceOf banks made.result c.args.header.now)
    (IsStageSpace task s observations c.args.header.now) c.reserve.result
    (λ space is. record {
      banks = banks;
      banks_are = are;
      space = subst (λ r. IsSpaceOf banks r c.args.header.now space) shape is;
      total = times_turned s.size (shape_for s (length banks.items)).max_blocks most_fed total;
    })
    c.reserve.ensures.space
  where
    times_turned : (a b n : ℕ) → a * b ≤ n → b * a ≤ n
    times_turned a b n is = subst (λ m. m ≤ n) (mul_comm a b) is
