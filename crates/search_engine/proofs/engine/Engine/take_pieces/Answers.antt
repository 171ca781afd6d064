use Rattle.std.proofs.Common.{◌≡◌, ℕ, ◌+◌, ◌-◌, ◌++◌, List, length, take, drop, sym, ◌∙◌, ap, subst, arith, append_assoc, length-drop}
use Rattle.std.proofs.lemmas.List.{take_all}
use Rattle.std.proofs.Math.Seq.{take-add}
use Rattle.search_engine.specs.Engine.{HasTakenChunks}
use Rattle.search_engine.proofs.engine.Engine.take_pieces.Goals as goal

-- the rest after d bytes
rest_is : (d : ℕ) (xs : List ℕ) → take (length xs - d) (drop d xs) ≡ drop d xs
rest_is d xs = take_all (length xs - d) (drop d xs) (let long = length-drop d xs in omega arith)

-- the next n bytes
next_bytes : (d n : ℕ) (start xs : List ℕ) →
    (start ++ take d xs) ++ take n (take (length xs - d) (drop d xs)) ≡ start ++ take (d + n) xs
next_bytes d n start xs =
    append_assoc start (take d xs) (take n (take (length xs - d) (drop d xs)))
    ∙ ap (λ rest. start ++ (take d xs ++ take n rest)) (rest_is d xs)
    ∙ ap (λ ys. start ++ ys) (sym (take-add d n xs))

pub loop-done-preserved : goal.loop-done-preserved
loop-done-preserved c =
    let before = c.loop-done.invariant in
    let s = c.search_full.ensures in
    let t = c.take_piece-done.ensures in
    let d = c.loop-done.done in
    let n = c.take_piece-done.result in
    let xs = c.args.bytes.now in
    let most = t.most in
    let long = ap (λ (ys : List ℕ). length ys) (rest_is d xs) in
    let rest = length-drop d xs in
    let within = before.within in
    let fed = t.fed in
    let all = before.fed in
    let still = s.fed in
    record {
      within = omega (arith, most, long, rest, within);
      same = record {
        search = t.same.search ∙ s.same.search ∙ before.same.search;
        shard = t.same.shard ∙ s.same.shard ∙ before.same.shard;
      };
      scope = t.scope ∙ s.scope ∙ before.scope;
      running = t.ended ∙ s.running;
      fed = omega (arith, fed, still, all);
      taken = λ o start stands.
          let P : List ℕ → Type 0 = λ ys. HasTakenChunks o ys c.take_piece-done.new.self in
          subst P (next_bytes d n start xs) (t.taken o (start ++ take d xs)
          (s.taken o (start ++ take d xs) (before.taken o start stands)));
    }

pub returns-clause-taken : goal.returns-clause-taken
returns-clause-taken c = λ o start stands.
    let past = c.loop-done-test.false in
    let P : List ℕ → Type 0 = λ xs. HasTakenChunks o (start ++ xs) c.loop-done.self in
    subst P (take_all c.loop-done.done c.args.bytes.now (omega arith)) (c.loop-done.invariant.taken o start stands)
