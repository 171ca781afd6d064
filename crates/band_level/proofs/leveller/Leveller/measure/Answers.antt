use Rattle.std.proofs.Common.{length, refl, ◌∙◌, sym, ap}
use Rattle.band_level.proofs.Written.{long_written}
use Rattle.band_level.proofs.leveller.Leveller.measure.Goals as goal

pub invariant_of-self : goal.invariant_of-self
invariant_of-self c =
    let inv = c.self.invariant in
    let rows = inv.rows.rows in
    record {
      task = inv.task;
      stretch = inv.stretch;
      scales = c.measure.ensures.fit;
      rows = record {
        rows = record {
          fractions_long = rows.fractions_long;
          carried = rows.carried;
          row_long = long_written c.measure.new.row _ _ _ (c.measure.auto.row ∙ c.as_mut_slice.ensures.len)
              (sym c.as_mut_slice.ensures.len ∙ ap length c.as_mut_slice.ensures.value ∙ rows.row_long);
          levels_long = rows.levels_long;
        };
        narrow = inv.rows.narrow;
      };
      space = c.measure.ensures.space;
      piece = inv.piece;
    }

pub returns : goal.returns
returns c = rw (← c.self.view_is) record { same = refl; scales = c.measure.ensures.scales }

pub measure-requires-clause-held : goal.measure-requires-clause-held
measure-requires-clause-held c = record {
  same = c.self.invariant.stretch.same;
  inside = rw (← c.self.view_is) at c.requires.inside;
}
