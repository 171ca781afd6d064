use Rattle.std.proofs.Common.{ℕ, slice_index, length, ap, arith, ◌∙◌}
use Rattle.std.proofs.lemmas.List.{get_or_read}
use Rattle.row_model.specs.Sums.{is_narrow}
use Rattle.row_schedule.specs.Schedules.{Scheduled}
use Rattle.row_schedule.proofs.Keeping.{is_hold}
use Rattle.row_schedule.proofs.schedule.Schedule.hold.Goals as goal

pub returns : goal.returns
returns c =
    let s = c.args.self.now in
    let r : ℕ = c.args.row in
    let follows = c.requires.follows in
    let holds = follows.holds_are.places in
    let entries = holds.entries in
    let in_rows = c.requires.row in
    let long = ap (λ (x : Scheduled). length x.held) c.self.view_is in
    is_hold s.channels c.args.rows.now follows.rows_are s r c.index.result.now _ _ holds in_rows
    (c.row_is_narrow.ensures
    ∙ ap (λ xs. is_narrow xs r) (c.deref.ensures.value ∙ ap (λ (x : Scheduled). x.narrow) c.self.view_is))
    (get_or_read c.self.inside.held.items r c.index.result.now (omega arith) c.index.ensures 0
    ∙ ap (λ (x : Scheduled). slice_index x.held r) c.self.view_is)
    c.tail.ensures.value
