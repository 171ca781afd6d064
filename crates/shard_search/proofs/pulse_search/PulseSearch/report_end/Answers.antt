use Rattle.std.proofs.Common.{◌≡◌, ◌+◌, ◌<◌, List, length, vec_len, get_or, subst, sym, ap, arith, rules}
use Rattle.std.proofs.lemmas.List.{take_all}
use Rattle.std.proofs.lemmas.List.Elements.{All-get_or}
use Rattle.shard_search.specs.declared.thresholds.Hit.{Hit}
use Rattle.fold_search.specs.Judging.{Adds}
use Rattle.shard_search.specs.Thresholds.{pulses_of_hits, pulse_of_hit}
use Rattle.shard_search.specs.PulseSearch.{PulseState, HitIsKept}
use Rattle.shard_search.proofs.Adding.{adds_both, adds_same}
use Rattle.shard_search.proofs.Pieces.{flat_take_more}
use Rattle.shard_search.proofs.pulse_search.PulseSearch.report_end.Goals as goal

pub loop-at-preserved : goal.loop-at-preserved
loop-at-preserved c =
    let s = c.args.self.now in
    let f = c.self.inside in
    let at = c.loop-at.at in
    let hit = c.index.result.now in
    let before = c.loop-at.invariant in
    let seen = ap (λ (p : PulseState). p.hits) c.self.view_is in
    let len : vec_len f.hits ≡ length f.hits.items = search rules in
    let within : at < length f.hits.items = (let t = c.loop-at-test.true in let n =
    c.len-at-end.ensures in omega arith) in
    let inside : at < length s.hits = subst (λ (xs : List Hit). at < length xs) seen within in
    let is : hit ≡ get_or s.hits at hit = subst (λ (xs : List Hit). hit ≡ get_or xs at hit) seen c.index.ensures in
    record {
      count = let more = c.report_hit.ensures.count in let few = before.count in omega (arith, more, few);
      pulses = λ y n below kept.
          let u = c.args.start + c.args.k in
          let piece = λ (h : Hit). pulse_of_hit y s.search s.sought u h in
          let mine = subst (HitIsKept y s.boxes c.args.start n) (sym is)
          (All-get_or (HitIsKept y s.boxes c.args.start n) s.hits at hit inside kept) in
          adds_same c.args.book.now c.report_hit.new.book _ _ (sym (flat_take_more piece s.hits at hit inside is))
          (adds_both c.args.book.now c.loop-at.book c.report_hit.new.book _ _ (before.pulses y n below kept)
          (c.report_hit.ensures.pulse y n below mine));
    }

pub returns-clause-pulses : goal.returns-clause-pulses
returns-clause-pulses c = λ y n below kept.
    let s = c.args.self.now in
    let f = c.self.inside in
    let past = c.loop-at-test.false in
    let len : vec_len f.hits ≡ length f.hits.items = search rules in
    let long = ap (λ (p : PulseState). length p.hits) c.self.view_is in
    let count = c.len-at-end.ensures in
    subst (λ (xs : List Hit). Adds c.args.book.now c.loop-at.book
    (pulses_of_hits y s.search s.sought (c.args.start + c.args.k) xs))
    (take_all c.loop-at.at s.hits (omega arith)) (c.loop-at.invariant.pulses y n below kept)
