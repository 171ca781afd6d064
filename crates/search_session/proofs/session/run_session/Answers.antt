use Rattle.std.proofs.Common.{◌≡◌, length, refl, arith}
use Rattle.dada_hdu.specs.declared.hdu.Hdu.{Hdu}
use Rattle.dada_hdu.specs.Passes.{data_shape}
use Rattle.search_session.specs.Stages.{RecorderWorks, feeder_of, transfers_of}
use Rattle.search_session.proofs.FeedEnds.{SessionLaws}
use Rattle.search_session.proofs.Closing.{AllEnded, hands_ended, have_engines, works_count, works_last, feed_is, shards_are, recorded_are}
use Rattle.search_session.proofs.session.run_session.Goals as goal

pub run_rounds-requires-after_bounds : goal.run_rounds-requires-after_bounds
run_rounds-requires-after_bounds g c κs within =
    rw c.as_mut_slice.ensures.value c.staff-hdu.ensures.on

pub end_session-requires : goal.end_session-requires
end_session-requires g c =
    let told = g.I.Inputs.told in
    let is_open = g.I.Inputs.is_open in
    let is_calm = g.I.Inputs.is_calm in
    let faults = g.I.Inputs.faults in
    let files_open = g.F.Files.is_open in
    let seen = g.F.Files.seen in
    let stage = c.args.stage in
    let banks = stage.banks.items in
    let recorder = stage.recorder in
    let start = feeder_of stage in
    let hdu : Hdu = c.staff-hdu.result.0 in
    let hands = c.staff-hdu.result.1 in
    let two = c.run_rounds.new.hands in
    let now = c.as_mut_slice-2.result.now in
    let staffed = c.staff-hdu.ensures in
    let rounds = c.run_rounds.ensures in
    let slice = c.as_mut_slice.ensures in
    let all : AllEnded told is_open is_calm faults files_open seen hdu start banks recorder now =
    hands_ended told is_open is_calm faults files_open seen hdu start banks recorder hands.items
    c.as_mut_slice.result.now two now hands.len rounds.moved.0 slice.value slice.len c.as_mut_slice-2.ensures.value
    rounds.moved.1 staffed.feeder staffed.shards staffed.banks staffed.recorder rounds.on rounds.ended in
    let value = c.len-shards.ensures.value in
    let works : RecorderWorks seen recorder c.len-shards.result now =
    rw value all.recorder_works in
    let listed_is = works_count seen c.len-shards.result now recorder works in
    let readers = c.requires.stage.readers_count in
    let all_readers : length stage.readers.items ≡ (data_shape hdu).readers =
    rw staffed.hdu c.requires.stage.all_readers in
    record {
      on = all.on;
      ended = all.ended;
      actors = record {
        feeder = (all.feeder.hand, all.feeder.feeder, all.feeder.there, all.feeder.works);
        few = c.len-shards.ensures.fits;
        shards_work = λ s near. all.shards s (rw value at near);
        readers = omega arith;
        last = works_last seen c.len-shards.result now recorder works;
        engines = (
          transfers_of stage,
          rw value (have_engines told is_open is_calm faults files_open seen hdu start banks recorder now
              (transfers_of stage) c.requires.stage.banks all),
        );
      };
    }

pub returns : goal.returns
returns g c =
    let told = g.I.Inputs.told in
    let is_open = g.I.Inputs.is_open in
    let is_calm = g.I.Inputs.is_calm in
    let faults = g.I.Inputs.faults in
    let files_open = g.F.Files.is_open in
    let seen = g.F.Files.seen in
    let stage = c.args.stage in
    let banks = stage.banks.items in
    let recorder = stage.recorder in
    let start = feeder_of stage in
    let hdu : Hdu = c.staff-hdu.result.0 in
    let hands = c.staff-hdu.result.1 in
    let two = c.run_rounds.new.hands in
    let now = c.as_mut_slice-2.result.now in
    let staffed = c.staff-hdu.ensures in
    let rounds = c.run_rounds.ensures in
    let slice = c.as_mut_slice.ensures in
    let all : AllEnded told is_open is_calm faults files_open seen hdu start banks recorder now =
    hands_ended told is_open is_calm faults files_open seen hdu start banks recorder hands.items
    c.as_mut_slice.result.now two now hands.len rounds.moved.0 slice.value slice.len c.as_mut_slice-2.ensures.value
    rounds.moved.1 staffed.feeder staffed.shards staffed.banks staffed.recorder rounds.on rounds.ended in
    let value = c.len-shards.ensures.value in
    let laws : SessionLaws g.row.I.Denot = record {
      end = c.feeders_end.ensures;
      first = c.headers_are_first.ensures;
      leave = c.faults_leave.ensures;
      recordings = c.recordings_end.ensures;
      joined = c.bytes_are_joined.ensures;
      counted = c.ends_are_counted.ensures;
      transfers = c.streams_have_transfers.ensures;
    } in
    let end = c.end_session.result in
    let e = c.end_session.ensures in
    let f = e.feeder all.feeder.hand all.feeder.feeder all.feeder.there all.feeder.works in
    record {
      feed = feed_is told is_open is_calm faults files_open seen hdu start banks recorder now (transfers_of stage)
          c.requires.stage.banks all laws end f.feed f.inputs f.sealed f.same_reference c.requires.stage.running
          c.requires.faultless;
      shards = shards_are told is_open is_calm faults files_open seen hdu start banks recorder now (transfers_of stage)
          c.requires.stage.banks all laws end f.feed f.inputs f.sealed refl
          (rw value at (e.counted (transfers_of stage) (rw value
          (have_engines told is_open is_calm faults files_open seen hdu start banks recorder now (transfers_of stage)
          c.requires.stage.banks all))))
          (λ s near. e.shards s (rw value near));
      recorded = recorded_are told is_open is_calm faults files_open seen hdu start banks recorder now
          (transfers_of stage) c.requires.stage.banks all laws end f.feed f.inputs f.sealed
          (rw staffed.hdu c.requires.stage.recorder)
          (λ x is. rw value at (e.recorder all.feeder.hand all.feeder.feeder x all.feeder.there all.feeder.works is))
          e.no_recorder;
    }
