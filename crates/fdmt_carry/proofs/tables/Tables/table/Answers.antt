use Rattle.std.proofs.Common.{ℕ, subst}
use Rattle.fdmt_carry.specs.Tables.{Tables, tables}
use Rattle.fdmt_carry.specs.Making.{ReadsNode}
use Rattle.fdmt_carry.proofs.Reading.{node_read}
use Rattle.fdmt_carry.proofs.tables.Tables.table.Goals as goal

pub returns-clause-sums : goal.returns-clause-sums
returns-clause-sums c =
    let s = c.self.inside in
    let t = tables s.plan s.chunk s.most s.rows in
    let k : ℕ = c.args.k in
    let d : ℕ = c.args.d in
    let spectra : ℕ = c.args.spectra in
    subst (λ (x : Tables). ReadsNode x k d spectra c.args.stores.now.wide c.filled.result.now) c.self.view_is
    (node_read c.rows_are_bounded.ensures c.plans_are_laid.ensures c.splits_fit.ensures t k d c.row_number-r.result
    spectra c.args.stores.now.wide c.filled.result.now c.self.invariant c.row_number-r.ensures.row
    c.filled.ensures.values)
