use Rattle.std.proofs.Common.{◌≡◌, List, Some, length, slice_get, sym, ◌∙◌, arith}
use Rattle.std.proofs.lemmas.Option.{slice_get_within, same_Some}
use Rattle.search_session.specs.declared.feed.FeedActor.{FeedActor}
use Rattle.search_session.specs.declared.hand.Hand.{Hand}
use Rattle.search_session.proofs.Gathered.{count_same}
use Rattle.search_session.proofs.Ending.{feeder_on, feeder_ended}
use Rattle.search_session.proofs.Leaving.{in_old, work_still, some_new, is_recorder, are_done}
use Rattle.search_session.proofs.session.end_session.Goals as goal

pub take_recorder-recorder-requires : goal.take_recorder-recorder-requires
take_recorder-recorder-requires g c =
    let old = c.args.hands.now in
    let mid = c.take_feeder-feeder.new.hands in
    let first = c.take_feeder-feeder.ensures in
    let near = slice_get_within old 0 first.before first.there in
    let count : length mid ≡ length old = count_same old mid 0 first.after first.hands in
    omega arith

pub gather-shards-requires : goal.gather-shards-requires
gather-shards-requires g c =
    let old = c.args.hands.now in
    let mid = c.take_feeder-feeder.new.hands in
    let new = c.take_recorder-recorder.new.hands in
    let f = c.take_feeder-feeder.result in
    let r = c.take_recorder-recorder.result in
    let first = c.take_feeder-feeder.ensures in
    let second = c.take_recorder-recorder.ensures.gives in
    record {
      some = some_new old mid new f r first second;
      few = c.requires.actors.few;
      shards = λ s below. work_still old mid new f r first second s (c.requires.actors.shards_work s below);
    }

pub finish-requires : goal.finish-requires
finish-requires g c =
    let told = g.I.Inputs.told in
    let is_open = g.I.Inputs.is_open in
    let files_open = g.F.Files.is_open in
    let hdu = c.args.hdu in
    let old = c.args.hands.now in
    let mid = c.take_feeder-feeder.new.hands in
    let new = c.take_recorder-recorder.new.hands in
    let f = c.take_feeder-feeder.result in
    let r = c.take_recorder-recorder.result in
    let first = c.take_feeder-feeder.ensures in
    let second = c.take_recorder-recorder.ensures.gives in
    let q = c.requires in
    record {
      writer = (feeder_on told is_open files_open hdu old q.on first.before f first.there first.works).writes;
      ended = feeder_ended old first.before f q.ended first.there first.works;
      done = (
        q.actors.engines.0,
        are_done old mid new f r first second told is_open files_open hdu q.on q.ended
            c.take_recorder-recorder.ensures.is c.gather-shards.result.items c.args.shards c.gather-shards.ensures
            q.actors.readers q.actors.last q.actors.engines.0 q.actors.engines.1,
      );
    }

pub returns : goal.returns
returns g c =
    let I : Type 0 = g.row.I.Denot in
    let F : Type 0 = g.row.F.Denot in
    let told = g.I.Inputs.told in
    let is_open = g.I.Inputs.is_open in
    let files_open = g.F.Files.is_open in
    let hdu = c.args.hdu in
    let old = c.args.hands.now in
    let mid = c.take_feeder-feeder.new.hands in
    let new = c.take_recorder-recorder.new.hands in
    let f = c.take_feeder-feeder.result in
    let r = c.take_recorder-recorder.result in
    let first = c.take_feeder-feeder.ensures in
    let second = c.take_recorder-recorder.ensures.gives in
    let q = c.requires in
    let gathered = c.gather-shards.ensures in
    let end = c.finish.ensures in
    let shards = c.gather-shards.result.items in
    let r_is = is_recorder old mid new f r first second c.take_recorder-recorder.ensures.is in
    record {
      feeder = λ h other at works.
          rw (one_feeder I F old first.before h f other first.there first.works at works) at end.feeder;
      counted = λ transfers engines.
          rw gathered.count at (end.counted transfers (are_done old mid new f r first second told is_open files_open
          hdu q.on q.ended
          c.take_recorder-recorder.ensures.is shards c.args.shards gathered q.actors.readers q.actors.last transfers
          engines));
      shards = λ s below.
          let h = gathered.each s below in (
            h.0,
            in_old old mid new f r first second h.0 h.3,
            h.2,
            end.shards s h.0 h.1,
          );
      recorder = λ h other x at works is.
          let same : f ≡ other = one_feeder I F old first.before h f other first.there first.works at works in
          rw (gathered.count, same) at (end.recorder x (r_is ∙ is));
      no_recorder = λ is. end.no_recorder (r_is ∙ is);
    }
  where
    one_feeder : (I F : Type 0) (hands : List (Hand I F)) (a b : Hand I F) (x y : FeedActor I) →
        slice_get hands 0 ≡ Some a → a.feeder ≡ Some x → slice_get hands 0 ≡ Some b → b.feeder ≡ Some y → x ≡ y
    one_feeder I F hands a b x y at_a is_x at_b is_y =
        let same : a ≡ b = same_Some a b (sym at_a ∙ at_b) in
        same_Some x y (sym is_x ∙ rw same is_y)
