use Rattle.std.proofs.Common.{refl}
use Rattle.spectra_rows.proofs.Standing.{short_rest, takes_three}
use Rattle.spectra_rows.proofs.unpacker.Unpacker.take.Goals as goal

pub keep_part-requires-clause-short : goal.keep_part-requires-clause-short
keep_part-requires-clause-short c =
    short_rest c.take_into_part-first.new.self c.take_spectra-count.new.self c.take_into_part-first.result
    c.take_spectra-count.result c.args.bytes.now _ _ c.take_spectra-count.ensures.takes.alike refl refl
    c.take_spectra-count.ensures.rest c.take_spectra-count.ensures.part

pub returns : goal.returns
returns c =
    takes_three c.args.self.now c.take_into_part-first.new.self c.take_spectra-count.new.self c.keep_part.new.self
    c.take_into_part-first.result c.take_spectra-count.result c.args.bytes.now _ _ c.take_into_part-first.ensures.takes
    refl c.take_spectra-count.ensures.takes refl c.keep_part.ensures
