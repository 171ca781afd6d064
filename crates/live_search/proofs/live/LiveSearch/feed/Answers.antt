use Rattle.std.proofs.Common.{◌≡◌, ℕ, ◌-◌, ◌++◌, List, [], length, take, drop, sym, ◌∙◌, ap, subst, append-nil, length-drop, arith}
use Rattle.std.proofs.lemmas.List.{take_all}
use Rattle.psr_base.specs.Written.{WroteAll}
use Rattle.live_search.specs.Live.{WasFed, WroteOn, so_far}
use Rattle.live_search.proofs.Feeding.{more_broke, more_stands, more_wrote, rest_is}
use Rattle.live_search.proofs.Stepping.{bytes_are}
use Rattle.live_search.proofs.live.LiveSearch.feed.Goals as goal

pub loop-done-init : goal.loop-done-init
loop-done-init g c =
    let none : (xs : List ℕ) → xs ≡ xs ++ [] = λ xs. sym (append-nil xs) in
    record {
      within = omega arith;
      live = c.requires.live;
      fed = omega arith;
      stands = λ t before was. subst (λ ys. WasFed c.args.observation.now t ys c.args.self.now) (none before) was;
      wrote = λ t before was more start all wrote.
          subst (λ ys. WroteAll (so_far c.args.observation.now t (before ++ [] ++ more) ys) start
          (g.K.Sink.seen c.args.sink.now)) (none before) wrote;
    }

pub step-requires-clause-live : goal.step-requires-clause-live
step-requires-clause-live g c = c.loop-done.invariant.live

pub step-requires-clause-few : goal.step-requires-clause-few
step-requires-clause-few g c =
    let i = c.loop-done.invariant in
    let fed = i.fed in
    let within = i.within in
    let few = c.requires.few in
    let d = c.loop-done.done in
    let xs : List ℕ = c.args.bytes.now in
    let rest = ap (λ (ys : List ℕ). length ys) (rest_is d xs) ∙ length-drop d xs in
    omega (arith, fed, within, few, rest)

pub loop-done-preserved : goal.loop-done-preserved
loop-done-preserved g c =
    let o = c.args.observation.now in
    let xs : List ℕ = c.args.bytes.now in
    let d = c.loop-done.done in
    let n = c.in-Ok.count in
    let slice : List ℕ = take (length xs - d) (drop d xs) in
    let is = rest_is d xs in
    let numbers = bytes_are xs c.type_inv.bytes in
    let i = c.loop-done.invariant in
    let s = c.in-Ok.ensures in
    let rest = ap (λ (ys : List ℕ). length ys) is ∙ length-drop d xs in
    let within = i.within in
    let fed = i.fed in
    let taken = s.taken in
    let most = taken.1 in
    let now = taken.2 in
    record {
      within = omega (arith, within, rest, most);
      live = s.live;
      fed = omega (arith, fed, now);
      stands = λ t before was.
          more_stands o t before xs slice d is numbers (g.K.Sink.seen c.args.sink.now) (g.K.Sink.seen c.loop-done.sink)
          (g.K.Sink.seen c.step.new.sink) n c.step.new.self
          (s.fed t (before ++ take d xs) (i.stands t before was));
      wrote = λ t before was.
          more_wrote o t before xs slice d is numbers (g.K.Sink.seen c.args.sink.now) (g.K.Sink.seen c.loop-done.sink)
          (g.K.Sink.seen c.step.new.sink) n (i.wrote t before was)
          (s.wrote t (before ++ take d xs) (i.stands t before was));
    }

pub returns-in-Err-clause-broke : goal.returns-in-Err-clause-broke
returns-in-Err-clause-broke g c = λ t before was.
    let o = c.args.observation.now in
    let xs : List ℕ = c.args.bytes.now in
    let d = c.loop-done.done in
    let slice : List ℕ = take (length xs - d) (drop d xs) in
    let i = c.loop-done.invariant in
    more_broke o t before xs slice d (rest_is d xs) (bytes_are xs c.type_inv.bytes) (g.K.Sink.seen c.args.sink.now)
    (g.K.Sink.seen c.loop-done.sink) (g.K.Sink.seen c.step.new.sink) i.within (i.wrote t before was)
    (c.in-Err.ensures.broke t (before ++ take d xs) (i.stands t before was))

pub returns-clause-live : goal.returns-clause-live
returns-clause-live g c = c.loop-done.invariant.live

pub returns-clause-count : goal.returns-clause-count
returns-clause-count g c =
    let past = c.loop-done-test.false in
    let i = c.loop-done.invariant in
    let fed = i.fed in
    let within = i.within in
    omega (arith, past, fed, within)

pub returns-clause-fed : goal.returns-clause-fed
returns-clause-fed g c = λ t before was.
    let past = c.loop-done-test.false in
    let P : List ℕ → Type 0 = λ xs. WasFed c.args.observation.now t (before ++ xs) c.loop-done.self in
    subst P (take_all c.loop-done.done c.args.bytes.now (omega (arith, past))) (c.loop-done.invariant.stands t before was)

pub returns-clause-wrote : goal.returns-clause-wrote
returns-clause-wrote g c = λ t before was.
    let past = c.loop-done-test.false in
    let P : List ℕ → Type 0 = λ xs. WroteOn c.args.observation.now t before xs (g.K.Sink.seen c.args.sink.now)
    (g.K.Sink.seen c.loop-done.sink) in
    subst P (take_all c.loop-done.done c.args.bytes.now (omega (arith, past))) (c.loop-done.invariant.wrote t before was)
