use Rattle.std.proofs.Common.{◌≡◌, map}
use Rattle.std.specs.List.{range_with_len}
use Rattle.channel_mask.specs.Texts.{names_channel}
use Rattle.level_plan.proofs.marks.marks_in_file.Given as goal

-- the marks so far
abbrev pub invariant-loop-i : goal.invariant-loop-i
invariant-loop-i l = l.marks.items ≡ map (λ k. names_channel l.text k) (range_with_len 0 l.i)
