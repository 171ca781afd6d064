use Rattle.std.proofs.Common.{ℕ, ◌*◌, ◌^◌, ◌≤◌, get_or, arith}
use Rattle.std.proofs.Math.Nat.{mul-le-mul_left}
use Rattle.std.proofs.Math.Pow.{pow_mono}
use Rattle.fold_search.proofs.Halvings.{rows_rise}
use Rattle.fold_search.proofs.judging.fold_period.Goals as goal

pub fold_all-requires-clause-fits : goal.fold_all-requires-clause-fits
fold_all-requires-clause-fits c = λ k.
    let power : 2 ^ c.halvings-halvings.result ≤ 2 ^ c.args.search.now.fold_rows =
    pow_mono c.halvings-halvings.ensures.within in
    let most = mul-le-mul_left (get_or c.args.values.now k 0) power in
    let fits = c.requires.fits k in
    omega (arith, most, fits)

-- rows of a period that is searched fit into a folder
rows_fit : (h rows p longest : ℕ) → h ≤ rows → p ≤ longest → longest * 2 ^ rows ≤ 2 ^ 22 → 2 ^ h * p ≤ 2 ^ 22
rows_fit h rows p longest few short size =
    let rise = rows_rise h rows p few in
    let wide = mul-le-mul_left (2 ^ rows) short in
    omega (arith, rise, wide, size)

pub judge_trials-requires-clause-size : goal.judge_trials-requires-clause-size
judge_trials-requires-clause-size c =
    rows_fit c.halvings-halvings.result c.args.search.now.fold_rows c.args.period c.args.search.now.fold_max
    c.halvings-halvings.ensures.within c.requires.period c.requires.folder.size

pub returns-clause-count : goal.returns-clause-count
returns-clause-count c =
    let fit = rows_fit c.halvings-halvings.result c.args.search.now.fold_rows c.args.period c.args.search.now.fold_max
    c.halvings-halvings.ensures.within c.requires.period c.requires.folder.size in
    let count = c.judge_trials.ensures.count in
    omega (arith, fit, count)
