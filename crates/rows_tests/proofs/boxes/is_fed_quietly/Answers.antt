use Rattle.std.proofs.Common.{ℕ, ◌≤◌, ◌^◌, refl, arith}
use Rattle.std.proofs.lemmas.List.Elements.{All-replicate}
use Rattle.std.proofs.Math.Pow.{pow_mono}
use Rattle.rows_tests.proofs.boxes.is_fed_quietly.Goals as goal

pub feed_quiet-requires : goal.feed_quiet-requires
feed_quiet-requires c =
    let chunk = c.requires.chunk in
    let widest = c.requires.widest in
    let bound = c.requires.bound in
    record {
      row = c.requires.row;
      wide = omega (arith, widest);
      same = refl;
      short = omega (arith, chunk);
      small = All-replicate (λ (x : ℕ). x ≤ c.args.boxes.now.bound) 16 50000 (omega (arith, bound));
      few = omega arith;
      within = λ level lt. let fewer : 2 ^ level ≤ 2 ^ 1 = pow_mono {j = 1} (omega arith) in omega (arith, widest, fewer);
    }
