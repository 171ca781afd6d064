-- What a feeder that ended has sealed.
use Rattle.std.proofs.Common.{◌≡◌, ◌≢◌, ℕ, ◌<◌, List, Option, Some, length, refl, sym, ap, ◌∙◌, subst}
use Rattle.psr_base.specs.Told.{Told}
use Rattle.ring_blocks.specs.declared.Entry.{Entry}
use Rattle.stream_model.specs.Blocks.{whole_stream, joined_data, abandoned_stream, joined_bytes, ended_transfers, has_cut, is_over}
use Rattle.stream_model.specs.BlockLaws.{BytesAreJoined, EndsAreCounted, StreamsStopOnce}
use Rattle.disk_feeder.specs.declared.answers.FeedEnd.{FeedEnd}
use Rattle.disk_feeder.specs.declared.answers.FeedEnd.TheVariants.{Whole}
use Rattle.disk_feeder.specs.declared.stream.Stream.{Stream}
use Rattle.disk_feeder.specs.Plan.{Plan}
use Rattle.disk_feeder.specs.Sources.{plan_of}
use Rattle.disk_feeder.specs.Feeding.{IsEnding, SealedAs, IsEnded, HasEndedAs, FeedsTo, IsFeeding}

-- of a whole stream
of_whole : BytesAreJoined → EndsAreCounted → StreamsStopOnce → (size n : ℕ) (before : List (List ℕ))
    (blocks : List Entry) (bytes : ℕ) → blocks ≡ whole_stream size before → length before ≡ n →
    bytes ≡ length (joined_data before) → IsEnding n blocks (Whole bytes)
of_whole joined ends once size n before blocks bytes is all many = record {
  over = ap (is_over n) is ∙ ap (λ (k : ℕ). is_over k (whole_stream size before)) (sym all)
      ∙ once.whole_over size before;
  once = λ front rest parts over.
      once.whole size before front rest (parts ∙ is) (ap (λ (k : ℕ). is_over k front) all ∙ over);
  all = λ k e. ap ended_transfers is ∙ ends.whole size before ∙ all;
  count = λ k e.
      let same : bytes ≡ k = cc in
      ap (λ (es : List Entry). length (joined_bytes es)) is ∙ ap (length {A = ℕ}) (joined.whole size before) ∙ sym many
      ∙ same;
  uncut = λ k e. ap has_cut is ∙ ends.whole_uncut size before;
  cut = λ other. absurd (other bytes refl);
}

-- of an abandoned one
of_cut : EndsAreCounted → StreamsStopOnce → (size max_bytes n : ℕ) (before : List (List ℕ)) (current : List ℕ)
    (blocks : List Entry) (end : FeedEnd) → blocks ≡ abandoned_stream size max_bytes before current →
    length before < n → ((bytes : ℕ) → end ≢ Whole bytes) → IsEnding n blocks end
of_cut ends once size max_bytes n before current blocks end is less other = record {
  over = ap (is_over n) is ∙ once.abandoned_over size max_bytes before current n;
  once = λ front rest parts over. once.abandoned size max_bytes before current n front rest less (parts ∙ is) over;
  all = λ k e. absurd (other k e);
  uncut = λ k e. absurd (other k e);
  count = λ k e. absurd (other k e);
  cut = λ o. ap has_cut is ∙ ends.abandoned_cut size max_bytes before current;
}

pub ending : BytesAreJoined → EndsAreCounted → StreamsStopOnce →
    (plan : Plan) (size : ℕ) (before : List (List ℕ)) (current : List ℕ)
    (headers blocks : List Entry) (end : FeedEnd) → SealedAs plan size before current headers blocks end →
    IsEnding (length plan.starts) blocks end
ending joined ends once plan size before current headers blocks (Whole bytes) s =
    of_whole joined ends once size (length plan.starts) before blocks bytes s.0 s.1 s.3
ending joined ends once plan size before current headers blocks end s =
    of_cut ends once size plan.max_bytes (length plan.starts) before current blocks end s.0 s.1 (λ k e. absurd cc)

pub has_ended : (s : Stream) (told : Told) (headers blocks : List Entry) (end : FeedEnd) → s.end ≡ Some end →
    IsFeeding s told headers blocks →
    IsEnded (plan_of s.source) told s.source.place (length s.block.items) headers blocks end
has_ended s told headers blocks end is was =
    let P : Option FeedEnd → Type 0 = λ e. FeedsTo s told headers blocks e in
    let ended : HasEndedAs s told headers blocks end = subst P is was in ended.ended
