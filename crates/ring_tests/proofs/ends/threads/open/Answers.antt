use Rattle.std.proofs.Common.{◌≡◌, List, drop, Option, Some, unwrap_or, refl, sym, subst, ap, ◌∙◌, arith}
use Rattle.ring_words.specs.declared.shape.RingShape.{RingShape}
use Rattle.ring_words.specs.declared.views.ReaderView.{ReaderView}
use Rattle.ring_ends.specs.declared.passes.ReaderPass.{ReaderPass}
use Rattle.ring_ends.specs.Passes.{reader_knows, ReadsFrom}
use Rattle.ring_tests.proofs.Rows.{removed, left_over}
use Rattle.ring_tests.proofs.ends.threads.open.Goals as goal

pub invariant_of-result : goal.invariant_of-result
invariant_of-result c = let opened = c.in-Ok.ensures in let count = opened.count in let three = c.requires.three in
    let all : List (Option ReaderPass) = c.in-Ok.readers.items in
    let a = opened.readers 0 (omega arith) in let b = opened.readers 1 (omega arith) in
    let d = opened.readers 2 (omega arith) in
    let one : all ≡ drop 0 all = refl in
    let two = left_over all all c.remove.new.self.items 0 (Some a.0) a.1 one c.remove.ensures.items in
    let rest = left_over all c.remove.new.self.items c.remove-2.new.self.items 1
    (Some b.0) b.1 two c.remove-2.ensures.items in
    let first : a.0 ≡ c.in_ok-first.first = ap (λ (o : Option ReaderPass). unwrap_or o a.0)
    (sym (removed all all 0 (Some a.0) c.remove.result a.1 one c.remove.ensures.value) ∙ c.in_ok-first.was) in
    let second : b.0 ≡ c.in_ok-second.second = ap (λ (o : Option ReaderPass). unwrap_or o b.0)
    (sym (removed all c.remove.new.self.items 1 (Some b.0) c.remove-2.result b.1 two c.remove-2.ensures.value)
    ∙ c.in_ok-second.was) in
    let third : d.0 ≡ c.in_ok-third.third = ap (λ (o : Option ReaderPass). unwrap_or o d.0)
    (sym (removed all c.remove-2.new.self.items 2 (Some d.0) c.remove-3.result d.1 rest c.remove-3.ensures.value)
    ∙ c.in_ok-third.was) in
    record {
      size = ap (λ (z : RingShape). z.size) opened.shape ∙ c.requires.size;
      readers = ap (λ (z : RingShape). z.readers) opened.shape ∙ c.requires.three;
      writes = opened.writer.0;
      first_reads = subst (λ (p : ReaderPass). ReadsFrom c.in-Ok.ring p × ((reader_knows p).number ≡ 0)) first
          (a.2, ap (λ (r : ReaderView). r.number) a.3);
      second_reads = subst (λ (p : ReaderPass). ReadsFrom c.in-Ok.ring p × ((reader_knows p).number ≡ 1)) second
          (b.2, ap (λ (r : ReaderView). r.number) b.3);
      third_reads = subst (λ (p : ReaderPass). ReadsFrom c.in-Ok.ring p × ((reader_knows p).number ≡ 2)) third
          (d.2, ap (λ (r : ReaderView). r.number) d.3);
    }
