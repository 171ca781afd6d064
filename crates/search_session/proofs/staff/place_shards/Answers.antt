use Rattle.std.proofs.Common.{◌≡◌, ◌<◌, Some, length, refl, arith}
use Rattle.search_session.proofs.Rows.{left_over}
use Rattle.search_session.proofs.Staffing.{taken_is, none_taken, taken_holds, taken_there, staffed_none, staffed_more}
use Rattle.search_session.proofs.staff.place_shards.Goals as goal

pub loop-s-init : goal.loop-s-init
loop-s-init g c = record {
  banks = refl;
  readers = refl;
  spaces = refl;
  staffed = staffed_none g.I.Inputs.told g.I.Inputs.is_open g.F.Files.is_open c.args.hdu.now c.args.banks.items
      c.args.hands.now c.requires.empty;
}

pub unreachable-requires : goal.unreachable-requires
unreachable-requires g c =
    let s = c.loop-s.s in
    let near : s < length c.args.banks.items = omega arith in
    let h = c.requires.parts.1.unfed s near in
    none_taken c.args.banks.items c.loop-s.banks.items s c.remove.result h.0 h.1 c.loop-s.invariant.banks
    c.remove.ensures.value c.in_default.is

pub unreachable-requires-in_default-remove : goal.unreachable-requires-in_default-remove
unreachable-requires-in_default-remove g c =
    let s = c.loop-s.s in
    let count = c.requires.count in
    let near : s < length c.args.readers.now.items = omega arith in
    let h = c.requires.parts.1.unread s near in
    none_taken c.args.readers.now.items c.loop-s.readers.items s c.remove-in-loop-s.result h.0 h.1
    c.loop-s.invariant.readers c.remove-in-loop-s.ensures.value c.in_default-remove.is

pub unreachable-requires-in_default-remove-2 : goal.unreachable-requires-in_default-remove-2
unreachable-requires-in_default-remove-2 g c =
    let s = c.loop-s.s in
    let count = c.requires.spaces_count in
    let near : s < length c.args.spaces.items = omega arith in
    taken_there _ c.args.spaces.items c.loop-s.spaces.items s c.remove-in-loop-s-2.result c.requires.spaces near
    c.loop-s.invariant.spaces c.remove-in-loop-s-2.ensures.value c.in_default-remove-2.is

pub shard_of-requires-clause-reader : goal.shard_of-requires-clause-reader
shard_of-requires-clause-reader g c =
    let s = c.loop-s.s in
    let count = c.requires.count in
    let near : s < length c.args.readers.now.items = omega arith in
    let h = c.requires.parts.1.unread s near in
    rw (taken_is c.args.readers.now.items c.loop-s.readers.items s c.remove-in-loop-s.result h.0
    c.in-Some-remove.reader h.1 c.loop-s.invariant.readers c.remove-in-loop-s.ensures.value c.in-Some-remove.is) at h.2

pub shard_of-requires-clause-bank : goal.shard_of-requires-clause-bank
shard_of-requires-clause-bank g c =
    let s = c.loop-s.s in
    let near : s < length c.args.banks.items = omega arith in
    let transfers = c.requires.parts.0 in
    let h = c.requires.parts.1.unfed s near in (
      transfers,
      c.requires.parts.1.some,
      rw (taken_is c.args.banks.items c.loop-s.banks.items s c.remove.result h.0 c.in-Some.bank h.1
          c.loop-s.invariant.banks c.remove.ensures.value c.in-Some.is) at h.2,
    )

pub shard_of-requires-clause-space : goal.shard_of-requires-clause-space
shard_of-requires-clause-space g c =
    let s = c.loop-s.s in
    let count = c.requires.spaces_count in
    let near : s < length c.args.spaces.items = omega arith in
    taken_holds _ c.args.spaces.items c.loop-s.spaces.items s c.remove-in-loop-s-2.result c.requires.spaces near
    c.loop-s.invariant.spaces c.remove-in-loop-s-2.ensures.value c.in-Some-remove-2.space c.in-Some-remove-2.is

pub loop-s-preserved : goal.loop-s-preserved
loop-s-preserved g c =
    let s = c.loop-s.s in
    let inv = c.loop-s.invariant in
    let count = c.requires.count in
    let spaces_count = c.requires.spaces_count in
    let near : s < length c.args.banks.items = omega arith in
    let near_reader : s < length c.args.readers.now.items = omega arith in
    let near_space : s < length c.args.spaces.items = omega arith in
    let h = c.requires.parts.1.unfed s near in
    let bank : h.0 ≡ c.in-Some.bank =
    taken_is c.args.banks.items c.loop-s.banks.items s c.remove.result h.0 c.in-Some.bank h.1 inv.banks
    c.remove.ensures.value c.in-Some.is in
    record {
      banks = left_over c.args.banks.items c.loop-s.banks.items c.remove.new.self.items s c.remove.result near inv.banks
          c.remove.ensures.items;
      readers = left_over c.args.readers.now.items c.loop-s.readers.items c.remove-in-loop-s.new.self.items s
          c.remove-in-loop-s.result near_reader inv.readers c.remove-in-loop-s.ensures.items;
      spaces = left_over c.args.spaces.items c.loop-s.spaces.items c.remove-in-loop-s-2.new.self.items s
          c.remove-in-loop-s-2.result near_space inv.spaces c.remove-in-loop-s-2.ensures.items;
      staffed = staffed_more g.I.Inputs.told g.I.Inputs.is_open g.F.Files.is_open c.args.hdu.now
          c.args.banks.items c.loop-s.hands c.place_shard.new.hands s
          (length c.args.hands.now) c.shard_of.result c.in-Some.bank inv.staffed
          c.place_shard.ensures (rw bank at h.1) c.shard_of.ensures.new
          c.shard_of.ensures.on;
    }
