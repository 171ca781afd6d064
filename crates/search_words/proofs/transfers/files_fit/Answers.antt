use Rattle.std.proofs.Common.{◌∙◌, arith}
use Rattle.search_words.proofs.Parted.{many_names, many_transfers, few_of_both}
use Rattle.search_words.proofs.transfers.files_fit.Goals as goal

pub returns-then-count_names-gt-MOST_NAMES : goal.returns-then-count_names-gt-MOST_NAMES
returns-then-count_names-gt-MOST_NAMES c =
    many_names c.args.files.now c.count_names.result c.count_names.ensures (omega arith)

pub returns-then-count_pluses-ge-MOST_TRANSFERS : goal.returns-then-count_pluses-ge-MOST_TRANSFERS
returns-then-count_pluses-ge-MOST_TRANSFERS c =
    many_transfers c.args.files.now c.count_names.result c.count_pluses.result c.count_names.ensures (omega arith)
    c.count_pluses.ensures (omega arith)

pub returns : goal.returns
returns c =
    c.all_have_names.ensures
    ∙ few_of_both c.args.files.now c.count_names.result c.count_pluses.result c.count_names.ensures (omega arith)
    c.count_pluses.ensures (omega arith)
