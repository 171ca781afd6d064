-- The feeder's end.
use Rattle.std.proofs.Common.{◌≡◌, ℕ, ◌<◌, ◌≤◌, inl, inr, List, length, Option, Some, None, refl, sym, ap, ◌∙◌, subst, arith}
use Rattle.std.specs.Prelude.{IsSome}
use Rattle.psr_base.specs.Told.{Told}
use Rattle.ring_blocks.specs.declared.Entry.{Entry}
use Rattle.ring_ends.specs.Ended.{sealed_at_end}
use Rattle.dada_hdu.specs.declared.hdu.Hdu.{Hdu}
use Rattle.stream_model.specs.Blocks.{joined_bytes}
use Rattle.stream_model.specs.BlockLaws.{BytesAreJoined, EndsAreCounted, StreamsHaveTransfers}
use Rattle.disk_feeder.specs.declared.answers.FeedEnd.{FeedEnd}
use Rattle.disk_feeder.specs.declared.answers.FeedEnd.TheVariants.{Whole, ReadFault}
use Rattle.disk_feeder.specs.declared.feeder.Feeder.{Feeder}
use Rattle.disk_feeder.specs.declared.place.Place.{Place}
use Rattle.disk_feeder.specs.History.{file_name}
use Rattle.disk_feeder.specs.Plan.{Plan, stream_of}
use Rattle.disk_feeder.specs.Feeder.{plan_at, names_at, headers_of, place_at, block_size, has_end, stream_at, FeederFaultless, FeederMisses, FeederUnopened, FeederSince, FeederRead}
use Rattle.disk_feeder.specs.Feeding.{HeadersKeepUp, IsEnding, IsEnded, IsUntold, HasEndedAs, FeedsTo, SealedAs, BreaksReading}
use Rattle.disk_feeder.specs.Turns.{sealed_headers, sealed_blocks}
use Rattle.disk_feeder.specs.Laws.{FeedersEnd, HeadersAreFirst, FaultsLeave}
use Rattle.dada_recorder.specs.RecordingLaws.{RecordingsEnd}
use Rattle.search_session.specs.declared.feed.FeedActor.{FeedActor}
use Rattle.search_session.specs.declared.ended.SessionEnd.{SessionEnd}
use Rattle.search_session.specs.Feeds.{FeedOn, FeedMoved}
use Rattle.search_session.specs.Recorded.{headers_through}
use Rattle.search_session.specs.Sessions.{FeedAnswers}
use Rattle.search_session.proofs.Sealed.{headers_are, sealed_few, parts_are, walked_data}

-- the laws that a session's end stands on
pub record SessionLaws (I : Type 0) : Type 0 where
  pub end : FeedersEnd I
  pub first : HeadersAreFirst I
  pub leave : FaultsLeave I
  pub recordings : RecordingsEnd
  pub joined : BytesAreJoined
  pub counted : EndsAreCounted
  pub transfers : StreamsHaveTransfers

-- a feeder that runs and met no fault has met none since now
since_now : {I : Type 0} (f : Feeder I) (k : ℕ) → has_end f ≡ None → FeederFaultless f → FeederSince k k f
since_now f k running faultless = record {
  count = omega arith;
  due_failed = λ due. absurd (faultless.0 due);
  end_failed = λ end. absurd (faultless.1 end);
  due_quiet = λ end due. refl;
  end_quiet = λ stop end other. refl;
}

-- one that met no fault has none at a file that is told
none_missing : {I : Type 0} (f : Feeder I) (told : Told) → FeederFaultless f → FeederMisses told f
none_missing f told faultless = λ fault. elim fault [
  | inl due ↦ absurd (faultless.0 due)
  | inr end ↦ absurd (faultless.1 end)
]

-- and none at a file that was not opened
none_unopened : {I : Type 0} (f : Feeder I) (before told : Told) → FeederFaultless f → FeederUnopened before told f
none_unopened f before told faultless = λ fault. elim fault [
  | inl due ↦ absurd (faultless.0 due)
  | inr end ↦ absurd (faultless.1 end)
]

-- what a fault left where a file was not opened is what calm inputs left
of_calm : (p : Plan) (before told : Told) (unopened is_calm : Type 0) (at : Place) (size : ℕ) (blocks : List Entry) →
    (is_calm → unopened) → BreaksReading p before unopened told at size blocks →
    BreaksReading p before is_calm told at size blocks
of_calm p before told unopened is_calm at size blocks calm left = record {
  passed = left.passed;
  cut = left.cut;
  stood = left.stood;
  past = left.past;
  through = left.through;
  shut = λ is. left.shut (calm is);
  unopened = λ is. left.unopened (calm is);
}

module _ {I F : Type 0} {is_calm : I → Type 0} (laws : SessionLaws I) (told : I → Told)
    (is_open : I → Type 0) (faults : I → ℕ)
    (hdu : Hdu) (start f : FeedActor I) (n : ℕ) (moved : FeedMoved told is_calm faults n start f)
    (on : FeedOn told is_open hdu f) (end : SessionEnd I F) (feed : f.end ≡ Some end.feed)
    (inputs : end.inputs.now ≡ f.part.inputs.now) (sealed : sealed_at_end end.blocks ≡ sealed_blocks f.pass) where
  part_end : has_end f.part ≡ Some end.feed
  part_end = sym on.end ∙ feed

  -- where it is in its files
  abbrev at : Place
  at = place_at f.part

  part_ended : IsEnded (plan_at f.part) (told f.part.inputs.now) at (block_size f.part) (sealed_headers f.pass)
      (sealed_blocks f.pass) end.feed
  part_ended =
      let was : HasEndedAs (stream_at f.part) (told f.part.inputs.now) (sealed_headers f.pass) (sealed_blocks f.pass)
      end.feed = subst (λ (e : Option FeedEnd). FeedsTo (stream_at f.part) (told f.part.inputs.now)
      (sealed_headers f.pass) (sealed_blocks f.pass) e) part_end on.feeding in was.ended

  -- what a fault of the inputs left
  fault_left : FeederFaultless start.part → end.feed ≡ ReadFault → (before : Told) →
      FeederRead before (told start.part.inputs.now) start.part →
      BreaksReading (plan_at start.part) before (is_calm start.part.inputs.now) (told end.inputs.now) at
      (block_size start.part) (sealed_at_end end.blocks)
  fault_left faultless failed before read =
      let now = told f.part.inputs.now in
      let calm = is_calm start.part.inputs.now in
      rw (← moved.plan, ← moved.size, inputs, sealed)
      (of_calm (plan_at f.part) before now (FeederUnopened before now f.part) calm at (block_size f.part)
      (sealed_blocks f.pass)
      (λ was. moved.inputs.unopened was before read
      (none_unopened start.part before (told start.part.inputs.now) faultless))
      (laws.leave f.part before now (sealed_headers f.pass) (sealed_blocks f.pass) on.feeding
      (rw failed at part_end) (moved.inputs.reads_on before read)))

  -- of calm inputs the file at which it came isn't told
  fault_missing : FeederFaultless start.part → is_calm start.part.inputs.now → end.feed ≡ ReadFault →
      (at.file < length (names_at start.part))
      × ¬ IsSome ((told start.part.inputs.now).bytes_under (file_name (names_at start.part) at.file))
  fault_missing faultless calm failed =
      let now = told f.part.inputs.now in
      let is : IsUntold now f.part.stream.source =
      moved.inputs.missing calm (none_missing start.part (told start.part.inputs.now) faultless)
      (inr (rw failed at part_end)) in
      let passed : (at.file < length (names_at start.part))
      × ¬ IsSome (now.bytes_under (file_name (names_at start.part) at.file)) =
      subst (λ (p : Plan). (at.file < length p.names) × ¬ IsSome (now.bytes_under (file_name p.names at.file)))
      moved.plan (is.there, is.untold) in
      rw (← moved.inputs.names) passed

  all_sealed : IsEnded (plan_at start.part) (told end.inputs.now) at (block_size start.part) (sealed_headers f.pass)
      (sealed_at_end end.blocks) end.feed
  all_sealed = rw (← moved.plan, ← moved.size, inputs, sealed) part_ended

  pub keep_up : HeadersKeepUp (headers_of start.part) (sealed_headers f.pass) (sealed_at_end end.blocks)
  keep_up =
      rw sealed (subst (λ (p : Plan). HeadersKeepUp p.headers (sealed_headers f.pass) (sealed_blocks f.pass)) moved.plan
      (laws.first f.part (told f.part.inputs.now) (sealed_headers f.pass) (sealed_blocks f.pass) on.feeding))

  pub headers_sealed : sealed_headers f.pass ≡ headers_through start.part end
  headers_sealed = headers_are laws.counted (plan_at start.part) (block_size start.part) all_sealed.before
      all_sealed.current (sealed_headers f.pass) (sealed_at_end end.blocks) end.feed all_sealed.sealed keep_up

  pub all_few : length (joined_bytes (sealed_at_end end.blocks)) ≤ (plan_at start.part).max_bytes
  all_few = sealed_few laws.joined (plan_at start.part) (block_size start.part) all_sealed.before
      all_sealed.current (sealed_headers f.pass) (sealed_at_end end.blocks) end.feed all_sealed.sealed all_sealed.few

  whole_sealed : (bytes : ℕ) → end.feed ≡ Whole bytes → SealedAs (plan_at start.part) (block_size start.part)
      all_sealed.before all_sealed.current (sealed_headers f.pass) (sealed_at_end end.blocks) (Whole bytes)
  whole_sealed bytes whole = subst (λ (e : FeedEnd). SealedAs (plan_at start.part) (block_size start.part)
      all_sealed.before all_sealed.current (sealed_headers f.pass) (sealed_at_end end.blocks) e) whole all_sealed.sealed

  pub feed_answers : end.inputs.ghost_name ≡ f.part.inputs.ghost_name → has_end start.part ≡ None →
      FeederFaultless start.part → FeedAnswers told is_calm faults start.part end
  feed_answers name running faultless =
      let k = faults start.part.inputs.now in
      let since = moved.inputs.since k (since_now start.part k running faultless) in
      let same : faults end.inputs.now ≡ faults f.part.inputs.now = ap faults inputs in
      let count = moved.inputs.count in
      record {
        same_reference = name ∙ moved.inputs.same_reference;
        names = rw inputs moved.inputs.names;
        count = omega arith;
        calm = λ was. rw inputs (moved.inputs.calm was);
        failed = λ is. rw same (since.end_failed (rw is at part_end));
        quiet = λ other. same ∙ since.end_quiet end.feed part_end other;
        serves = λ calm holds is.
            let missing = fault_missing faultless calm is in
            missing.1 (holds at.file missing.0);
        place = at;
        missing = fault_missing faultless;
        sealed = rw headers_sealed at all_sealed;
        broke = fault_left faultless;
        few = all_few;
        parts = λ bytes whole.
            let s = whole_sealed bytes whole in
            parts_are laws.transfers (block_size start.part) all_sealed.before (sealed_at_end end.blocks) s.0
            (length (plan_at start.part).starts) s.1 ∙ sym s.3;
        walked = λ bytes whole files are k near.
            walked_data laws.transfers (stream_of (plan_at start.part) files) (block_size start.part)
            (sealed_at_end end.blocks) bytes k
            (rw whole at (all_sealed.known files (record {
              count = are.count;
              each = λ j there needed. are.each j there;
            }))) near;
      }

  pub is_ending : IsEnding (length (plan_at start.part).starts) (sealed_at_end end.blocks) end.feed
  is_ending =
      rw sealed (subst (λ (p : Plan). IsEnding (length p.starts) (sealed_blocks f.pass) end.feed) moved.plan
      (laws.end f.part (told f.part.inputs.now) (sealed_headers f.pass) (sealed_blocks f.pass) end.feed on.feeding
      part_end))
