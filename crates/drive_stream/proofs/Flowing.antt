-- One block more of the data of a stream.
use Rattle.std.proofs.Common.{◌≡◌, ℕ, ◌+◌, ◌<◌, ◌≤◌, ◌^◌, [], ◌∷◌, ◌++◌, None, length, take, sym, ◌∙◌, subst, arith}
use Rattle.psr_base.specs.Told.{Told}
use Rattle.psr_base.specs.Written.{SinkSeen}
use Rattle.stream_model.specs.Blocks.{joined_bytes}
use Rattle.stream_model.specs.BlockLaws.{BytesAreJoined}
use Rattle.disk_feeder.specs.declared.answers.Handed.{Handed}
use Rattle.disk_feeder.specs.declared.feeder.Feeder.{Feeder}
use Rattle.disk_feeder.specs.Feeder.{FeederFaultless, has_end, plan_at, block_size}
use Rattle.disk_feeder.specs.Handing.{FeederHands, handed_entry, block_of}
use Rattle.disk_feeder.specs.Plan.{Plan}
use Rattle.disk_feeder.specs.Resting.{FeederKept}
use Rattle.drive_stream.specs.Endings.{Failed, Midway}
use Rattle.drive_stream.specs.Flows.{TakesBlocks, BreaksFlow}
use Rattle.drive_stream.specs.Streams.{Standing, Leaving, StreamsOn, LeavesAt, most_streamed}
use Rattle.drive_stream.proofs.Blocks.{block_more, never_cut, no_bytes, handed_few, keeps_none, keeps_more}
use Rattle.drive_stream.proofs.Pieces.{none_taken, one_more, one_ends, same_bytes, same_left}

-- none yet
pub none_flowed : {I S : Type 0} (told : I → Told) (is_calm : I → Type 0) (faults : I → ℕ) (streams : Standing S)
    (f : Feeder I) (a : S) (seen : SinkSeen) → FeederHands (told f.inputs.now) f [] →
    TakesBlocks told is_calm faults streams f f a a seen seen
none_flowed told is_calm faults streams f a seen stands = record {
  kept = keeps_none told is_calm faults f;
  blocks = [];
  hands = stands;
  on = same_bytes streams a a seen seen [] (joined_bytes []) (sym no_bytes) (none_taken streams a seen);
}

-- Blocks were taken of a feeder f, which is g now, by a stream a, which is b now. One more makes the feeder h.
module _ {I S : Type 0} (told : I → Told) (is_calm : I → Type 0) (faults : I → ℕ) (streams : Standing S)
    (join : BytesAreJoined) (f g h : Feeder I) (a b : S) (before middle : SinkSeen)
    (was : TakesBlocks told is_calm faults streams f g a b before middle)
    (kept : FeederKept told is_calm faults g h) (handed : Handed) where
  pub has_room : has_end g ≡ None → (plan_at f).max_bytes ≤ 2 ^ 48 → block_size f ≤ 2 ^ 24 →
      handed.used ≤ length (block_of h) → length (joined_bytes was.blocks) + handed.used ≤ most_streamed
  has_room running limit size within =
      let few = handed_few join g _ was.blocks running was.hands in
      let limit_now : (plan_at g).max_bytes ≤ 2 ^ 48 =
      subst (λ (p : Plan). p.max_bytes ≤ 2 ^ 48) (sym was.kept.plan) limit in
      let size_now : block_size h ≤ 2 ^ 24 = subst (λ n. n ≤ 2 ^ 24) (sym (kept.size ∙ was.kept.size)) size in
      omega (arith, few, limit_now, size_now, within)

  module _ (hands : FeederHands (told h.inputs.now) h (was.blocks ++ handed_entry handed (block_of h) ∷ [])) where
    abbrev pub one_flowed : (c : S) (after : SinkSeen) →
        StreamsOn streams b (take handed.used (block_of h)) c middle after →
        TakesBlocks told is_calm faults streams f h a c before after
    one_flowed c after on =
        let all = was.blocks ++ handed_entry handed (block_of h) ∷ [] in
        let piece = take handed.used (block_of h) in
        record {
          kept = keeps_more told is_calm faults f g h was.kept kept;
          blocks = all;
          hands = hands;
          on = same_bytes streams a c before after (joined_bytes was.blocks ++ piece) (joined_bytes all)
              (sym (block_more join was.blocks handed (block_of h)))
              (one_more streams a b c (joined_bytes was.blocks) piece before middle after was.on on);
        }

    pub one_breaks : {F : Type 0} (leaves : Leaving F) (after : SinkSeen) → (has_end h ≡ None → FeederFaultless h) →
        0 < length (take handed.used (block_of h)) →
        LeavesAt streams leaves b (take handed.used (block_of h)) (Failed Midway) middle after →
        BreaksFlow told is_calm faults streams leaves f h a before after
    one_breaks leaves after quiet some left =
        let all = was.blocks ++ handed_entry handed (block_of h) ∷ [] in
        let piece = take handed.used (block_of h) in
        record {
          read = λ broken. never_cut h _ was.blocks handed hands broken some;
          quiet = quiet;
          kept = keeps_more told is_calm faults f g h was.kept kept;
          blocks = all;
          hands = hands;
          left = same_left streams leaves a (joined_bytes was.blocks ++ piece) (joined_bytes all) (Failed Midway) before
              after (sym (block_more join was.blocks handed (block_of h)))
              (one_ends streams leaves a b (joined_bytes was.blocks) piece (Failed Midway) before middle after was.on
              left);
        }
