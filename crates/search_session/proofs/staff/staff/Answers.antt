use Rattle.std.proofs.Common.{◌≡◌, ◌+◌, List, ◌++◌, length, take, drop, refl, sym, ◌∙◌, arith}
use Rattle.search_session.specs.declared.hand.Hand.{Hand}
use Rattle.search_session.specs.Feeds.{FeedOn}
use Rattle.search_session.specs.Stages.{TakesFeeder, AreStaffed, RecorderPlaced, feeder_of, transfers_of}
use Rattle.search_session.proofs.Rows.{all_written}
use Rattle.search_session.proofs.Gathered.{count_same}
use Rattle.search_session.proofs.Staffing.{AreReady, first_reader, ready, fed}
use Rattle.search_session.proofs.staff.staff.Goals as goal

pub place_shards-requires : goal.place_shards-requires
place_shards-requires g c =
    let s = c.requires in
    let count = s.readers_count in
    record {
      few = s.few;
      parts = (
        transfers_of c.args.stage,
        record { some = s.transfers; unread = s.readers; unfed = s.banks },
      );
      count = omega arith;
      spaces_count = s.spaces_count;
      spaces = s.spaces;
      some = rw c.as_mut_slice.ensures.value s.some_hand;
      empty = rw c.as_mut_slice.ensures.value s.empty;
    }

pub place_any_recorder-requires-clause-reader : goal.place_any_recorder-requires-clause-reader
place_any_recorder-requires-clause-reader g c =
    let s = c.requires in
    let stage = c.args.stage in
    first_reader stage.hdu stage.readers.items c.place_shards.new.readers.items c.len-number.result stage.recorder
    (rw c.len-number.ensures.value c.place_shards.ensures.readers) (rw c.len-number.ensures.value s.readers_count)
    s.readers

pub returns : goal.returns
returns g c =
    let H : Type 0 = Hand g.row.I.Denot g.row.F.Denot in
    let told = g.I.Inputs.told in
    let is_open = g.I.Inputs.is_open in
    let is_calm = g.I.Inputs.is_calm in
    let faults = g.I.Inputs.faults in
    let files_open = g.F.Files.is_open in
    let seen = g.F.Files.seen in
    let stage = c.args.stage in
    let hdu = stage.hdu in
    let hands = stage.hands in
    let banks = stage.banks.items in
    let n = length banks in
    let f = feeder_of stage in
    let one : List H = c.place_shards.new.hands in
    let two : List H = c.place_any_recorder.new.hands in
    let three : List H = c.place_feeder.new.hands in
    let first = length c.as_mut_slice.result.now in
    let staffed : AreStaffed told is_open files_open hdu banks n first one = c.place_shards.ensures.staffed in
    let count_one : length one ≡ hands.len = staffed.count_is ∙ c.as_mut_slice.ensures.len in
    let mid : c.as_mut_slice-2.result.now ≡ one =
    c.as_mut_slice-2.ensures.value ∙ all_written hands.len hands.items one count_one in
    let placed : RecorderPlaced files_open hdu stage.recorder n one two =
    rw (mid, c.len-number.ensures.value) at c.place_any_recorder.ensures in
    let all : AreReady told is_open files_open hdu banks seen stage.recorder n first two =
    ready told is_open files_open hdu banks seen one two n first staffed stage.recorder placed in
    let count_two : length two ≡ hands.len = all.count_is ∙ c.as_mut_slice.ensures.len in
    let before = take hands.len (one ++ drop (length one) hands.items) in
    let mid_two : c.as_mut_slice-3.result.now ≡ two =
    c.as_mut_slice-3.ensures.value ∙ all_written hands.len before two count_two in
    let takes : TakesFeeder two f three = rw mid_two at c.place_feeder.ensures in
    let on : FeedOn told is_open hdu f = record {
      writes = c.requires.writes;
      fits = c.requires.fits;
      file = c.requires.file;
      feeding = c.requires.feeding;
      end = sym c.requires.running;
      count = omega arith;
    } in
    let count_three : length three ≡ hands.len = count_same two three 0 takes.after takes.hands ∙ count_two in
    let written =
    all_written hands.len (take hands.len (two ++ drop (length two) before)) three count_three in
    let works = rw (← written) at (fed told is_open files_open hdu banks is_calm faults seen stage.recorder two three n
    first f all takes on) in
    record {
      hdu = refl;
      on = works.on;
      some = works.some;
      feeder = works.feeder;
      shards = works.placed;
      banks = works.of_banks;
      recorder = works.works;
    }
