use Rattle.std.proofs.Common.{◌≡◌, List, drop, Option, Some, unwrap_or, refl, sym, subst, ap, ◌∙◌, arith}
use Rattle.ring_words.specs.declared.shape.RingShape.{RingShape}
use Rattle.ring_ends.specs.declared.passes.ReaderPass.{ReaderPass}
use Rattle.ring_ends.specs.Passes.{ReadsFrom}
use Rattle.ring_tests.proofs.Rows.{removed, left_over}
use Rattle.ring_tests.proofs.ends.duo.open.Goals as goal

pub invariant_of-result : goal.invariant_of-result
invariant_of-result c = let opened = c.in-Ok.ensures in let count = opened.count in let two = c.requires.two in
    let all : List (Option ReaderPass) = c.in-Ok.readers.items in
    let a = opened.readers 0 (omega arith) in let b = opened.readers 1 (omega arith) in
    let one : all ≡ drop 0 all = refl in
    let rest = left_over all all c.remove.new.self.items 0 (Some a.0) a.1 one c.remove.ensures.items in
    let first : a.0 ≡ c.in_ok-first.first = ap (λ (o : Option ReaderPass). unwrap_or o a.0)
    (sym (removed all all 0 (Some a.0) c.remove.result a.1 one c.remove.ensures.value) ∙ c.in_ok-first.was) in
    let second : b.0 ≡ c.in_ok-second.second = ap (λ (o : Option ReaderPass). unwrap_or o b.0)
    (sym (removed all c.remove.new.self.items 1 (Some b.0) c.remove-2.result b.1 rest c.remove-2.ensures.value)
    ∙ c.in_ok-second.was) in
    record {
      size = ap (λ (z : RingShape). z.size) opened.shape ∙ c.requires.size;
      writes = opened.writer.0;
      first_reads = subst (ReadsFrom c.in-Ok.ring) first a.2;
      second_reads = subst (ReadsFrom c.in-Ok.ring) second b.2;
    }
