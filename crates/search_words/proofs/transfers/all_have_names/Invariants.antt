use Rattle.std.proofs.Common.{◌≡◌, drop}
use Rattle.clap.specs.Walk.{texts}
use Rattle.search_words.specs.Transfers.{transfers_in}
use Rattle.search_words.proofs.Parted.{all_from}
use Rattle.std.specs.List.{list_all}
use Rattle.search_words.specs.Transfers.{has_names}
use Rattle.search_words.proofs.transfers.all_have_names.Given as goal

-- what is left decides as all words do
abbrev pub invariant-loop-word : goal.invariant-loop-word
invariant-loop-word l =
    all_from l.has_name (transfers_in (texts (drop l.word-index l.files)))
    ≡ list_all has_names (transfers_in (texts l.files))
