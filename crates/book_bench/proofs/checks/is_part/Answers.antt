use Rattle.std.proofs.Common.{◌≡◌, ◌+◌, ◌<◌, [], ◌∷◌, ◌++◌, length, get_or, take, Some, sym, subst, rules, arith}
use Rattle.std.proofs.lemmas.List.{take_more}
use Rattle.search_model.specs.declared.candidate.Candidate.{Candidate}
use Rattle.search_model.specs.declared.candidate.Candidate.TheVariants.{Pulse}
use Rattle.book_bench.specs.Parts.{IsPart, Continues, EndsWith}
use Rattle.book_bench.proofs.Parts.{part_more, ends_more}
use Rattle.book_bench.proofs.checks.is_part.Goals as goal

pub loop-candidate-preserved : goal.loop-candidate-preserved
loop-candidate-preserved c =
    let n = c.args.n in
    let k = c.args.k in
    let list = c.args.list.now in
    let i = c.loop-candidate.candidate-index in
    let last = c.loop-candidate.last in
    let before = c.loop-candidate.invariant in
    let order = c.order_is_strict.ensures in
    let x : Candidate = get_or list i (Pulse 0 0 0 0) in
    let within : i < length list = omega arith in
    let more : take (i + 1) list ≡ take i list ++ x ∷ [] = take_more list i (Pulse 0 0 0 0) within in
    let continues : Continues n k last x = c.continues.ensures (search rules) in
    record {
      part = subst (IsPart n k) (sym more) (part_more n k (take i list) last x order before.ends before.part continues);
      ends = subst (λ xs. EndsWith xs (Some x)) (sym more)
          (ends_more n k (take i list) last x order before.ends continues);
    }
