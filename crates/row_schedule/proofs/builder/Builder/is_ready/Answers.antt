use Rattle.std.proofs.Common.{◌≡◌, Some, sym, ap, subst, ◌∙◌, rules}
use Rattle.row_schedule.specs.Marks.{HasBoth}
use Rattle.row_schedule.proofs.Marking.{ready, both_of}
use Rattle.row_schedule.proofs.builder.Builder.is_ready.Goals as goal

pub returns-in-Channel : goal.returns-in-Channel
returns-in-Channel c =
    let is = sym c.find_source.ensures ∙ c.in-Some.is in
    let width = c.has_width.ensures.0 (search rules) in
    let once = sym c.was_made.ensures ∙ c.if-was_made.false in (
      λ _. ready c.args.rows.now c.args.self.now c.args.order c.in-Some.source is width once
          (λ m e. absurd (let both = sym c.in-Channel.is ∙ e in cc)),
      λ _. search rules,
    )

pub returns-in-Sum : goal.returns-in-Sum
returns-in-Sum c =
    let is = sym c.find_source.ensures ∙ c.in-Some.is in
    let width = c.has_width.ensures.0 (search rules) in
    let once = sym c.was_made.ensures ∙ c.if-was_made.false in
    let b = c.args.self.now in
    let o = c.args.order in (
      λ so. ready c.args.rows.now b o c.in-Some.source is width once
          (λ m e.
          let both = sym c.in-Sum.is ∙ e in
          let same : c.in-Sum.merge ≡ m = cc in
          subst (λ m. HasBoth b o m) same (c.has_both.ensures.0 so)),
      λ all. c.has_both.ensures.1
          (both_of c.args.rows.now b o c.in-Sum.merge (is ∙ ap Some c.in-Sum.is) all),
    )
