use Rattle.std.proofs.Common.{◌-◌, ℕ, List, sym, subst, arith}
use Rattle.row_schedule.specs.Samples.{values_of}
use Rattle.fdmt_carry.specs.Carrying.{AreNext}
use Rattle.shard_search.specs.Sums.{HasTakenNext}
use Rattle.shard_search.proofs.Lasting.{first_next, last_next, both_taken}
use Rattle.shard_search.proofs.shard.ShardSearch.take.Goals as goal

pub take_tables-requires-clause-stream : goal.take_tables-requires-clause-stream
take_tables-requires-clause-stream c =
    let goes = c.requires.stream in
    let rows = values_of c.args.samples in
    let least = c.min-last.ensures in
    let last = c.min-last.result in
    let before : ℕ = c.args.spectra - last in
    let P : List ℕ → Type 0 = λ list. AreNext c.pass.new.self.carry goes.stream list last in
    record {
      stream = goes.stream;
      stands = c.pass.ensures.carried goes.stream goes.stands
          (first_next c.args.self.now.carry goes.stream rows before c.args.spectra (omega arith) goes.next);
      next = subst P (sym c.skip.ensures) (last_next c.args.self.now.carry c.pass.new.self.carry goes.stream rows
          before c.args.spectra last (omega arith) c.pass.ensures.alike.tables c.pass.ensures.fed goes.next);
    }

pub returns-clause-taken : goal.returns-clause-taken
returns-clause-taken c =
    let least = c.min-last.ensures in
    let last = c.min-last.result in
    let P : List ℕ → Type 0 =
    λ rows. HasTakenNext c.pass.new.self c.take_tables.new.self rows last c.pass.new.book c.take_tables.new.book in
    both_taken c.args.self.now c.pass.new.self c.take_tables.new.self (values_of c.args.samples)
    (c.args.spectra - last) c.args.spectra last c.args.book.now c.pass.new.book c.take_tables.new.book (omega arith)
    c.pass.ensures (subst P c.skip.ensures c.take_tables.ensures.taken)
