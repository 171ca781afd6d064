use Rattle.std.proofs.Common.{◌≡◌, [], take}
use Rattle.std.specs.Prelude.{filter_map}
use Rattle.dada_model.specs.Fields.{fields_of}
use Rattle.obs_plan.specs.Later.{difference, profile_values}
use Rattle.obs_plan.proofs.profile.Profile.later_offset.Given as goal

abbrev pub invariant-loop-key : goal.invariant-loop-key
invariant-loop-key l = record {
  items : l.key-items ≡ profile_values l.self;
  same : filter_map (difference (fields_of l.later.text)) (take l.key-index l.key-items) ≡ [];
}
