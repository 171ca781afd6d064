use Rattle.std.proofs.Common.{◌≡◌, length, drop}
use Rattle.search_session.specs.Stages.{AreStaffed}
use Rattle.search_session.proofs.staff.place_shards.Given as goal

abbrev pub invariant-loop-s : goal.invariant-loop-s
invariant-loop-s g l = record {
  banks : l.banks.items ≡ drop l.s l.fn.banks.items;
  readers : l.readers.items ≡ drop l.s l.fn.readers.items;
  spaces : l.spaces.items ≡ drop l.s l.fn.spaces.items;
  staffed : AreStaffed g.I.Inputs.told g.I.Inputs.is_open g.F.Files.is_open l.hdu l.fn.banks.items l.s
      (length l.fn.hands) l.hands;
}
