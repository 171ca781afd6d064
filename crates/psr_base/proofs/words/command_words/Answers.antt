use Rattle.std.proofs.Common.{◌≡◌, length, vec_len}
use mathlib.Core.Path.{refl}
use Rattle.std.proofs.lemmas.Result.{IfOk-at_ok}
use Rattle.std.proofs.lemmas.Iterator.Adapters.{fact_from_collect, YieldsList-from_vec}
use Rattle.std.specs.Vec.Iter.{into_iter_items}
use Rattle.psr_base.proofs.words.command_words.Goals as goal

pub returns-in-Ok-collect-clause-words : goal.returns-in-Ok-collect-clause-words
returns-in-Ok-collect-clause-words c =
    let all = fact_from_collect (λ xs w. (w.items ≡ xs) × (vec_len w ≡ length xs)) c.collect.result
    c.collect.ensures.ran
    (YieldsList-from_vec {s = c.in-Ok.all} (into_iter_items c.in-Ok.all) refl c.in-Ok.all.rest.ok.0) in
    rw c.in-Ok.is (IfOk-at_ok (λ w. (w.items ≡ into_iter_items c.in-Ok.all)
    × (vec_len w ≡ length (into_iter_items c.in-Ok.all))) c.in-Ok-collect.is all).0
