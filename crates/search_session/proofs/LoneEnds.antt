-- The end of a lone session.
use Rattle.std.proofs.Common.{◌≡◌, ℕ, zero, suc, ◌<◌, true, [], ◌∷◌, length, Some, None, slice_get, refl, sym, ◌∙◌, arith}
use Rattle.std.specs.Prelude.{⊤, nat_lt}
use Rattle.std.proofs.lemmas.List.{append-nil}
use Rattle.std.proofs.lemmas.Option.{slice_get_within}
use Rattle.psr_base.specs.Told.{Told}
use Rattle.ring_ends.specs.Ended.{sealed_at_end}
use Rattle.dada_hdu.specs.declared.hdu.Hdu.{Hdu}
use Rattle.dada_hdu.specs.Passes.{data_shape}
use Rattle.stream_model.specs.Blocks.{ended_transfers, transfer_bytes, is_over}
use Rattle.search_engine.specs.Engine.{EngineState}
use Rattle.disk_feeder.specs.declared.answers.FeedEnd.TheVariants.{Whole}
use Rattle.disk_feeder.specs.Feeding.{IsEnding}
use Rattle.disk_feeder.specs.Resting.{feeder_over}
use Rattle.session_readers.specs.declared.shard.ShardActor.{ShardActor}
use Rattle.search_session.specs.declared.lone.LoneSession.{LoneSession}
use Rattle.search_session.specs.declared.lone.LoneEnd.{LoneEnd}
use Rattle.session_readers.specs.Banks.{HasEngine, engines_of}
use Rattle.session_readers.specs.Shards.{IsEngineAt, EnginesFollow, shard_cleared, shard_number, ShardOn}
use Rattle.search_session.specs.Feeds.{FeedOn}
use Rattle.search_session.specs.Ends.{IsDone, AreDone}
use Rattle.search_session.specs.Sessions.{FeedAnswers}
use Rattle.search_session.specs.Lone.{feed_over, lone_feeder, lone_bank, transfers_at, LoneOn, LoneMoved, LoneBegins, HasLoneEnded}
use Rattle.search_session.specs.LoneEnds.{IsLoneEnd, session_end, WentThrough, BankAnswers, LoneAnswers}
use Rattle.search_session.proofs.Rows.{one_at}
use Rattle.search_session.proofs.Ending.{none_stands, below_true}
use Rattle.search_session.proofs.FeedEnds.{SessionLaws, feed_answers, is_ending}
use Rattle.search_session.proofs.LoneTurns.{feed_on}

-- the one shard is all readers
pub one_done : (hdu : Hdu) (x : ShardActor) → (data_shape hdu).readers ≡ 1 → shard_number x ≡ 0 → ShardOn hdu x →
    x.ended ≡ true → AreDone {F = ⊤} hdu (length (engines_of x.part)) (Some x ∷ []) None
one_done hdu x alone number on ended = record {
  all = sym alone;
  each = at;
  last = tt;
}
  where
    at : (s : ℕ) → s < 1 → (y : ShardActor) × (slice_get (Some x ∷ []) s ≡ Some (Some y))
        × IsDone hdu (length (engines_of x.part)) s y
    at zero near = (x, refl, record { number = number; on = on; ended = ended; count = refl })
    at (suc s) near = absurd (omega arith)

module _ {I : Type 0} {is_calm : I → Type 0} (laws : SessionLaws I) (told : I → Told) (faults : I → ℕ)
    (start now : LoneSession) (before after : I) (n : ℕ) (end : LoneEnd) (begins : LoneBegins (told before) start)
    (moved : LoneMoved told is_calm faults n before start after now) (on : LoneOn (told after) now)
    (ended : HasLoneEnded now) (is : IsLoneEnd now end) where
  abbrev anywhere : I → Type 0
  anywhere lent = ⊤

  stands : FeedOn told anywhere now.hdu (feed_over after now.feed)
  stands = feed_on told anywhere is_calm faults after now on (λ opened. tt)

  feed_is : FeedAnswers told is_calm faults (feeder_over before (lone_feeder start)) (session_end after end)
  feed_is = feed_answers laws told anywhere faults now.hdu (feed_over before start.feed)
      (feed_over after now.feed) n moved.feed stands (session_end after end) is.feed refl is.sealed refl
      (sym begins.on.feed.end ∙ begins.running) begins.faultless

  ending : IsEnding (transfers_at (lone_feeder start)) (sealed_at_end end.blocks) end.feed
  ending = is_ending laws told anywhere faults now.hdu (feed_over before start.feed)
      (feed_over after now.feed) n moved.feed stands (session_end after end) is.feed refl is.sealed

  follow : EnginesFollow [] (shard_cleared now.shard) (engines_of (lone_bank start))
      (engines_of now.shard.part)
  follow = rw begins.unread at moved.shard.engines

  over : is_over (transfers_at (lone_feeder start)) (shard_cleared now.shard) ≡ true
  over = rw (follow.count, begins.engines) at (sym on.shard.over ∙ ended.shard)

  cleared_all : shard_cleared now.shard ≡ sealed_at_end end.blocks
  cleared_all =
      let none = ending.once (shard_cleared now.shard) is.begins.0 (sym is.begins.1) over in
      sym (rw (none, append-nil) at is.begins.1)

  went : (bytes : ℕ) → end.feed ≡ Whole bytes → (transfer : ℕ) (e : EngineState) →
      HasEngine (engines_of (lone_bank start)) transfer e →
      (f : EngineState) × HasEngine (engines_of now.shard.part) transfer f
      × WentThrough e (transfer_bytes transfer (sealed_at_end end.blocks)) f
  went bytes whole transfer e has =
      let f = follow.each transfer e has in
      let near = slice_get_within (engines_of (lone_bank start)) transfer (Some e) has in
      let count = follow.count in
      let counted = begins.engines in
      let all = ending.all bytes whole in
      let below : nat_lt transfer (ended_transfers (sealed_at_end end.blocks)) ≡ true =
      below_true transfer (ended_transfers (sealed_at_end end.blocks)) (omega arith) in
      let there = on.shard.engines transfer (omega arith) in
      let this = one_at (engines_of now.shard.part) transfer there.0 f.0 there.1 f.1 in
      let at : IsEngineAt (data_shape now.hdu).size (sealed_at_end end.blocks) transfer f.0 =
      rw (cleared_all, this) at there.2 in (
        f.0,
        f.1,
        record {
          same = f.2.same;
          scope = f.2.scope;
          fed = at.fed;
          ended = at.ended ∙ below;
          stands = λ o stood.
              rw (cleared_all, below) at (f.2.stands o (none_stands o transfer e stood));
        },
      )

  bank_is : BankAnswers (lone_bank start) end
  bank_is = record {
    cleared = is.cleared ∙ cleared_all;
    engines = rw (is.bank, ← cleared_all) follow;
    searched = rw is.bank went;
  }

  pub lone_answers : LoneAnswers told is_calm faults start before after end
  lone_answers = record { feed = feed_is; bank = bank_is }
