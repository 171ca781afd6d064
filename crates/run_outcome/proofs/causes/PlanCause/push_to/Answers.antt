use Rattle.std.proofs.Common.{◌≡◌, List, ℕ, ◌++◌, sym, ap, ◌∙◌, append_assoc, codes}
use Rattle.std.specs.Fmt.{decimal}
use Rattle.run_outcome.specs.declared.causes.PlanCause.{PlanCause}
use Rattle.run_outcome.specs.Texts.{plan_text}
use Rattle.run_outcome.proofs.causes.PlanCause.push_to.Goals as goal

-- a text that was appended in two parts
two_parts : (line name first mark second middle new : List ℕ) → middle ≡ line ++ (name ++ first) →
    new ≡ middle ++ (mark ++ second) → new ≡ line ++ (name ++ first ++ mark ++ second)
two_parts line name first mark second middle new a b =
    b ∙ ap (λ (xs : List ℕ). xs ++ (mark ++ second)) a ∙ simp append_assoc

pub returns-in-TooManyFolds-clause-text : goal.returns-in-TooManyFolds-clause-text
returns-in-TooManyFolds-clause-text c =
    c.push_named_word-in-TooManyFolds.ensures.text
    ∙ ap (λ (cause : PlanCause). c.args.line.now ++ plan_text cause) (sym c.in-TooManyFolds.is)

pub returns-in-FoldTooLarge-clause-text : goal.returns-in-FoldTooLarge-clause-text
returns-in-FoldTooLarge-clause-text c =
    two_parts c.args.line.now (codes "FoldTooLarge ") (decimal c.in-FoldTooLarge.longest) (codes " ")
    (decimal c.in-FoldTooLarge.halvings) c.push_named_word-in-FoldTooLarge.new.line
    c.push_named_word-in-FoldTooLarge-2.new.line
    c.push_named_word-in-FoldTooLarge.ensures.text c.push_named_word-in-FoldTooLarge-2.ensures.text
    ∙ ap (λ (cause : PlanCause). c.args.line.now ++ plan_text cause) (sym c.in-FoldTooLarge.is)

pub returns-in-TooManyShards-clause-text : goal.returns-in-TooManyShards-clause-text
returns-in-TooManyShards-clause-text c =
    two_parts c.args.line.now (codes "TooManyShards ") (decimal c.in-TooManyShards.shards) (codes " ")
    (decimal c.in-TooManyShards.delays) c.push_named_word-in-TooManyShards.new.line
    c.push_named_word-in-TooManyShards-2.new.line
    c.push_named_word-in-TooManyShards.ensures.text c.push_named_word-in-TooManyShards-2.ensures.text
    ∙ ap (λ (cause : PlanCause). c.args.line.now ++ plan_text cause) (sym c.in-TooManyShards.is)
