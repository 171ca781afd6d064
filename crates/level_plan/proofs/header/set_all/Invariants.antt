use Rattle.std.proofs.Common.{◌≡◌, ℕ, ◌<◌, take, get_or}
use Rattle.level_plan.specs.declared.field.Field.TheVariants.{Tsamp}
use Rattle.level_plan.specs.Headers.{HasRoomFor, all_fields, new_number, with_numbers}
use Rattle.level_plan.proofs.header.set_all.Given as goal

-- the fields so far have their numbers, for which there was room
abbrev pub invariant-loop-field : goal.invariant-loop-field
invariant-loop-field l = record {
  so_far : l.header ≡ with_numbers (new_number l.options l.observation l.first) (take l.field-index all_fields) l.first;
  room : (k : ℕ) → k < l.field-index → HasRoomFor (get_or all_fields k Tsamp)
      (new_number l.options l.observation l.first (get_or all_fields k Tsamp))
      (with_numbers (new_number l.options l.observation l.first) (take k all_fields) l.first);
}
