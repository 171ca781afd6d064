use Rattle.std.proofs.Common.{rules, ◌≡◌, ℕ, ◌+◌, ◌/◌, ◌≤◌, List, length, sym, ap, ◌∙◌, subst, arith}
use Rattle.ring_words.specs.declared.shape.RingShape.{RingShape}
use Rattle.stream_tests.proofs.feeding.feed_from.Goals as goal

-- a ring that may carry so many blocks fits the same numbers
blocks_fit : (bytes bytes' size size' : ℕ) (starts starts' : List ℕ) (most : ℕ) → bytes ≡ bytes' → size ≡ size' →
    starts ≡ starts' → most ≡ bytes' / size' + length starts' + 1 → bytes / size + length starts + 1 ≤ most
blocks_fit bytes bytes' size size' starts starts' most b s l is =
    let here : bytes / size + length starts ≡ bytes' / size' + length starts' = cc in omega (arith, here, is)

pub take_turns-requires-clause-stands : goal.take_turns-requires-clause-stands
take_turns-requires-clause-stands g c =
    let kept = c.accept_all.ensures.kept in
    let begun = c.in-Ok.ensures.plan in
    let plan = c.feeder_of-feeder.ensures.plan in
    let shape = c.in-Some.ensures in
    let size = kept.plan.size ∙ begun.size ∙ plan.block in
    record {
      fits = record {
        size = ap (λ (s : RingShape). s.size) shape ∙ c.shape_of-shape.ensures.size ∙ sym size;
        blocks =
            blocks_fit _ _ _ _ _ _ _ (kept.plan.limit ∙ begun.limit ∙ plan.limit) size
            (kept.plan.starts ∙ begun.starts ∙ plan.transfers)
            (ap (λ (s : RingShape). s.max_blocks) shape ∙ c.shape_of-shape.ensures.most);
      };
      file = λ now.
          subst g.I.Inputs.is_open (sym c.accept_all.ensures.inputs) (c.in-Ok.ensures.open (kept.reading now));
      feeding = search rules;
    }
