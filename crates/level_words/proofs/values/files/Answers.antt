use Rattle.std.proofs.Common.{◌∙◌, ap, List, ℕ}
use Rattle.clap.specs.Words.{found_of, rows_of, all_of}
use Rattle.clap.proofs.WalkLemmas.{raw_values-rows}
use Rattle.level_words.proofs.values.files.Goals as goal

pub returns : goal.returns
returns c =
    let found = found_of c.args.matches.now in
    c.get_raw.ensures ∙ raw_values-rows found c.name.result.now
    ∙ ap (λ (id : List ℕ). all_of id (rows_of found)) c.name.ensures
