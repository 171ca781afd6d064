use Rattle.std.proofs.Common.{◌≡◌, ℕ, ◌+◌, ◌-◌, ◌*◌, ◌^◌, ◌≤◌, ◌∙◌, length, sym, ap, arith, rules}
use Rattle.fast_fold.proofs.Halves.{twice}
use Rattle.fast_fold.proofs.Tiling.{trials_of_row, trials_merged, halves_folded}
use Rattle.fast_fold.proofs.tiles.+fold.Goals as goal

-- a level above the first has twice as many rows as the one below
half_rows : (rows half level : ℕ) → 1 ≤ level → rows ≡ 2 ^ level → half ≡ 2 ^ (level - 1) → rows ≡ 2 * half
half_rows rows half level some are is =
    let next : level ≡ level - 1 + 1 = omega arith in
    are ∙ ap (λ n. 2 ^ n) next ∙ twice (level - 1) ∙ omega (arith, is)

times : (rows half level size n : ℕ) → 1 ≤ level → rows ≡ 2 ^ level → half ≡ 2 ^ (level - 1) → rows * size ≡ n
    → 2 * half * size ≡ n
times rows half level size n some are is whole =
    ap (λ k. k * size) (sym (half_rows rows half level some are is)) ∙ whole

pub fold_rows-fold_halves-requires : goal.fold_rows-fold_halves-requires
fold_rows-fold_halves-requires t c =
    let half : ℕ = c.power-half.result in
    let is : half ≡ 2 ^ (c.args.level - 1) = c.power-half.ensures.value in
    let rows = c.requires.rows in
    let many : c.args.rows ≡ 2 * half = half_rows c.args.rows half c.args.level (omega arith) rows is in
    let same : length c.args.out.now ≡ length c.args.spare.now = sym c.requires.spare in
    let size : 2 * half * c.args.tile.stride ≡ length c.args.spare.now =
    times c.args.rows half c.args.level c.args.tile.stride _ (omega arith) rows is (c.requires.size ∙ same) in
    let values : 2 * half * c.args.tile.period ≡ length c.args.values.now =
    times c.args.rows half c.args.level c.args.tile.period _ (omega arith) rows is c.requires.values in
    let room : half + c.args.tile.steps * 16 ≤ c.args.tile.stride = omega (arith, many, c.requires.room) in
    search rules

pub fold_rows-merge_halves-requires-clause-size : goal.fold_rows-merge_halves-requires-clause-size
fold_rows-merge_halves-requires-clause-size t c =
    times c.args.rows c.power-half.result c.args.level c.args.tile.stride _ (omega arith) c.requires.rows
    c.power-half.ensures.value (c.requires.size ∙ sym c.fold_halves.auto.spare)

pub fold_rows-merge_halves-requires-clause-room : goal.fold_rows-merge_halves-requires-clause-room
fold_rows-merge_halves-requires-clause-room t c =
    let twice_as_many = half_rows c.args.rows c.power-half.result c.args.level (omega arith) c.requires.rows
    c.power-half.ensures.value in
    omega (arith, twice_as_many, c.requires.room)

pub fold_rows-returns-then-level-eq0 : goal.fold_rows-returns-then-level-eq0
fold_rows-returns-then-level-eq0 t c =
    let tile = c.args.tile in
    trials_of_row c.load_row.new.out c.args.values.now tile.base tile.period tile.start (tile.steps * 16) tile.stride
    c.args.level c.args.rows _ (omega arith) c.requires.rows c.requires.values c.requires.size (omega arith)
    (omega arith) c.load_row.ensures

pub fold_rows-returns : goal.fold_rows-returns
fold_rows-returns t c =
    let tile = c.args.tile in
    trials_merged c.merge_halves.new.out c.fold_halves.new.out c.args.values.now tile.base tile.period tile.start
    (tile.steps * 16) tile.stride c.power-half.result (c.args.level - 1) c.args.level c.power-half.ensures.value
    (omega arith) c.merge_halves.ensures c.fold_halves.ensures

pub fold_halves-returns : goal.fold_halves-returns
fold_halves-returns t c =
    let tile = c.args.tile in
    halves_folded c.fold_rows.new.out c.fold_rows-2.new.out _ _ c.args.values.now tile.base tile.period tile.start
    (tile.steps * 16) tile.stride c.args.rows c.args.level c.requires.rows (omega arith) (omega arith)
    (c.fold_rows.auto.out ∙ c.split_at_mut-first.ensures.front_len) c.split_at.ensures.front c.split_at.ensures.back
    c.fold_rows.ensures c.fold_rows-2.ensures
