-- The three words of the line are one choice, and so are their numbers.
use Rattle.std.proofs.Common.{ℕ, List, sym, subst, ap, ◌∙◌, ◌≡◌}
use Rattle.std.specs.Str.Parse.{digits_value}
use Rattle.ring_core.specs.declared.Shape.{Shape}
use Rattle.ring_trace.specs.Text.{Lacks, IsNumber}
use Rattle.ring_trace.specs.Events.{IsRingLine, ring_text}
use Rattle.ring_trace.proofs.Splits.{lacks_space, one_ring, some_by, none_by}
use Rattle.ring_trace.proofs.lines.ring_line.Goals as goal

-- the words that were found are those of any ring's line that this is
found : (line b r n : List ℕ) (shape : Shape) → line ≡ ring_text b r n → Lacks 32 b → Lacks 32 r →
    (q : IsRingLine line shape) → (b ≡ q.buffers) × (r ≡ q.readers) × (n ≡ q.blocks)
found line b r n shape is lacks lacks' q =
    one_ring b r n q.buffers q.readers q.blocks lacks lacks' (lacks_space q.buffers q.numbers.0)
    (lacks_space q.readers q.numbers.1) (sym is ∙ q.words)

pub returns-in_default-clause-none : goal.returns-in_default-clause-none
returns-in_default-clause-none c shape q = c.in_default.ensures.none q.buffers q.readers q.blocks
    (lacks_space q.buffers q.numbers.0) (lacks_space q.readers q.numbers.1) q.words

pub returns-in_default-number-clause-none : goal.returns-in_default-number-clause-none
returns-in_default-number-clause-none c shape q =
    let same = found _ _ _ _ shape c.in-Some.ensures.words c.in-Some.ensures.first c.in-Some.ensures.second q in
    let P : List ℕ → Type 0 = λ t. IsNumber t in c.in_default-number.ensures (subst P (sym same.0) q.numbers.0)

pub returns-in_default-number-2-clause-none : goal.returns-in_default-number-2-clause-none
returns-in_default-number-2-clause-none c shape q =
    let same = found _ _ _ _ shape c.in-Some.ensures.words c.in-Some.ensures.first c.in-Some.ensures.second q in
    let P : List ℕ → Type 0 = λ t. IsNumber t in c.in_default-number-2.ensures (subst P (sym same.1) q.numbers.1)

pub returns-in_default-number-3-clause-none : goal.returns-in_default-number-3-clause-none
returns-in_default-number-3-clause-none c shape q =
    let same = found _ _ _ _ shape c.in-Some.ensures.words c.in-Some.ensures.first c.in-Some.ensures.second q in
    let P : List ℕ → Type 0 = λ t. IsNumber t in c.in_default-number-3.ensures (subst P (sym same.2) q.numbers.2)

pub returns-clause-some : goal.returns-clause-some
returns-clause-some c = some_by c.shape.result _ _
    (λ shape (in_range, buffers, readers, blocks). record {
      buffers = c.in-Some.buffers.now;
      readers = c.in-Some.readers.now;
      blocks = c.in-Some.blocks.now;
      words = c.in-Some.ensures.words;
      numbers = (c.in-Some-number.ensures.0, c.in-Some-number-2.ensures.0, c.in-Some-number-3.ensures.0);
      values = (
        buffers ∙ c.in-Some-number.ensures.1,
        readers ∙ c.in-Some-number-2.ensures.1,
        blocks
            ∙ c.in-Some-number-3.ensures.1,
      );
      in_range = in_range;
    })
    c.shape.ensures.some

pub returns-clause-none : goal.returns-clause-none
returns-clause-none c = none_by c.shape.result _ _
    (λ never shape q.
    let same = found _ _ _ _ shape c.in-Some.ensures.words c.in-Some.ensures.first c.in-Some.ensures.second q in
    never shape q.in_range
    (q.values.0 ∙ (ap (digits_value 10) (sym same.0) ∙ sym c.in-Some-number.ensures.1))
    (q.values.1 ∙ (ap (digits_value 10) (sym same.1) ∙ sym c.in-Some-number-2.ensures.1))
    (q.values.2 ∙ (ap (digits_value 10) (sym same.2) ∙ sym c.in-Some-number-3.ensures.1)))
    c.shape.ensures.none
