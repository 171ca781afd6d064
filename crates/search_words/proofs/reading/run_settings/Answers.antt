use Rattle.std.proofs.Common.{lit<}
use Rattle.clap.specs.Words.{found_of, rows_of}
use Rattle.search_words.proofs.Ranges.{in_range_at}
use Rattle.search_words.proofs.reading.run_settings.Goals as goal

pub parts-requires : goal.parts-requires
parts-requires c = in_range_at c.none_fails.ensures c.args.program (rows_of (found_of c.args.matches.now)) c.requires 19 (lit< tt)
