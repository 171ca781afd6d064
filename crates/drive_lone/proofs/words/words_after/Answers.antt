use Rattle.std.proofs.Common.{◌≡◌, map, drop, min, length, sym, ap, ◌∙◌}
use Rattle.std.specs.Prelude.{string_bytes}
use Rattle.std.proofs.lemmas.List.{drop_min, drop-map, take_rest}
use Rattle.drive_lone.proofs.words.words_after.Goals as goal

pub returns : goal.returns
returns c =
    let words = c.args.words.now in
    let from : c.min.result ≡ min c.args.before (length words) = c.min.ensures in
    ap (map string_bytes) (take_rest words c.min.result ∙ ap (λ k. drop k words) from ∙ drop_min c.args.before words)
    ∙ sym (drop-map string_bytes c.args.before words)
