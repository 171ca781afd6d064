use Rattle.std.proofs.Common.{◌≡◌, ℕ, ◌+◌, ◌-◌, ◌*◌, ◌<◌, ◌≤◌, length, take, slice_index, ◌∙◌, sym, ap, subst, arith}
use Rattle.band_level.specs.declared.format.Format.{Format}
use Rattle.band_level.specs.Values.{cells, spectrum_bytes, cell_value, most_value}
use Rattle.band_level.specs.Holding.{Holding, held_bytes, sums_of}
use Rattle.band_level.proofs.Puts.{behind, has_sums, place_fits, read_small, value_behind, value_summed}
use Rattle.band_level.proofs.held.Held.read.Goals as goal

pub returns-then-t-self-clause-values : goal.returns-then-t-self-clause-values
returns-then-t-self-clause-values c = λ i lt.
    let held = c.args.self.now in
    let before = subst (λ (n : ℕ). c.args.t < n) (ap (λ (o : Holding). o.count) c.self.view_is) c.if-t-self.true in
    c.read.ensures i (omega arith)
    ∙ ap (λ (o : Holding). slice_index o.sums (c.args.t * length c.args.row.now + i)) c.self.view_is
    ∙ ap (λ n. slice_index held.sums (c.args.t * n + i)) c.requires.cells
    ∙ sym (value_summed c.args.format held c.args.t i before)

pub returns-else-t-self-clause-values : goal.returns-else-t-self-clause-values
returns-else-t-self-clause-values c = λ i lt.
    let f = c.self.inside in
    let past = subst (λ (n : ℕ). n ≤ c.args.t) (ap (λ (o : Holding). o.count) c.self.view_is) c.if-t-self.false in
    c.read_row.ensures.values i lt
    ∙ ap (λ xs. cell_value c.args.format (take f.filled xs) (c.args.t - f.count) i) c.as_slice.ensures.value
    ∙ ap (λ (o : Holding). cell_value c.args.format o.bytes (c.args.t - o.count) i) c.self.view_is
    ∙ sym (value_behind c.args.format c.args.self.now c.args.t i past)

pub overflow_mul-t : goal.overflow_mul-t
overflow_mul-t c =
    let f = c.self.inside in
    let inv = c.self.invariant in
    let same = ap (λ (o : Holding). o.format) c.self.view_is ∙ c.requires.held.same in
    let wide : length c.args.row.now ≡ cells f.format = c.requires.cells ∙ ap cells (sym same) in
    let at : c.args.t * length c.args.row.now ≡ c.args.t * cells f.format = ap (λ n. c.args.t * n) wide in
    let fits = place_fits inv c.args.t (omega arith) in
    record { fits = omega arith }

pub read-requires : goal.read-requires
read-requires c =
    let f = c.self.inside in
    let inv = c.self.invariant in
    let same = ap (λ (o : Holding). o.format) c.self.view_is ∙ c.requires.held.same in
    let wide : length c.args.row.now ≡ cells f.format = c.requires.cells ∙ ap cells (sym same) in
    record {
      inside = subst (λ (n : ℕ). c.args.t * n + n ≤ length (sums_of f.sums)) (sym wide)
          (has_sums inv c.args.t c.if-t-self.true);
    }

pub read_row-requires-clause-inside : goal.read_row-requires-clause-inside
read_row-requires-clause-inside c =
    let f = c.self.inside in
    let size = spectrum_bytes c.args.format in
    let has = subst (λ (o : Holding). (c.args.t + 1) * size ≤ held_bytes c.args.format o) (sym c.self.view_is)
    c.requires.held.inside in
    let slice = ap (λ xs. length (take f.filled xs)) c.as_slice.ensures.value in
    let part = behind f.count (c.args.t - f.count + 1) (c.args.t + 1) size (omega arith) in
    omega arith

pub returns-then-t-self-clause-small : goal.returns-then-t-self-clause-small
returns-then-t-self-clause-small c = λ i.
    let f = c.self.inside in
    let same = ap (λ (o : Holding). o.format) c.self.view_is ∙ c.requires.held.same in
    let wide : length c.args.row.now ≡ cells f.format = c.requires.cells ∙ ap cells (sym same) in
    subst (λ (g : Format). slice_index c.read.new.row i ≤ most_value g) same
    (read_small f.format c.read.new.row (sums_of f.sums) c.args.t f.count (length c.args.row.now) i wide c.read.auto.row
    c.if-t-self.true c.self.invariant.small c.read.ensures)
