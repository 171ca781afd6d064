-- Turns of a feeder that follow one another.
use Rattle.std.proofs.Common.{◌≡◌, ℕ, zero, suc, ◌+◌, ◌<◌, ◌^◌, min, Option, Some, None, refl, sym, ◌∙◌, subst, arith, rules}
use Rattle.std.specs.Prelude.{IsSome}
use Rattle.psr_base.specs.Told.{Told}
use Rattle.ring_core.specs.Machine.{greatest}
use Rattle.dada_hdu.specs.declared.passes.HduWriter.{HduWriter}
use Rattle.disk_feeder.specs.declared.answers.FeedEnd.{FeedEnd}
use Rattle.disk_feeder.specs.declared.answers.FeedTurn.{FeedTurn}
use Rattle.disk_feeder.specs.Feeder.{has_end}
use Rattle.disk_feeder.specs.Resting.{FeederKept}
use Rattle.disk_feeder.specs.Turns.{TurnAnswers}
use Rattle.search_session.specs.declared.feed.FeedActor.{FeedActor}
use Rattle.search_session.specs.Feeds.{HasWritten, Writes, InputsKept, FeedMoved}

-- ---- writes

no_writes : (p : HduWriter) (end : Option FeedEnd) → Writes 0 p end p end
unfolding Writes
no_writes p end = (refl, refl)

one_write : (p q : HduWriter) (before after : Option FeedEnd) → before ≡ None → HasWritten p q after →
    Writes 1 p before q after
unfolding Writes
one_write p q before after running written = (p, (refl, sym running), written)

writes_more : (n m : ℕ) (p q r : HduWriter) (a b c : Option FeedEnd) → Writes n p a q b → Writes m q b r c →
    Writes (n + m) p a r c
unfolding Writes
writes_more n zero p q r a b c first second =
    let same : n + 0 ≡ n = omega arith in
    rw (same, second.0, second.1) first
writes_more n (suc m) p q r a b c first second =
    subst (λ (k : ℕ). Writes k p a r c) (let same : suc (n + m) ≡ n + suc m = omega arith in same)
    (second.0, writes_more n m p q second.0 a b None first second.1, second.2)

-- ---- turns

pub some_not_none : {A : Type 0} (slot : Option A) → IsSome slot → slot ≡ None → ⊥
some_not_none None some none = cc
some_not_none (Some x) some none = cc

module _ {I : Type 0} (told : I → Told) (is_calm : I → Type 0) (faults : I → ℕ) where
  keeps_itself : (f : FeedActor I) → InputsKept told is_calm faults f f
  keeps_itself f = record {
    same_reference = refl;
    names = refl;
    count = omega arith;
    since = λ k was. was;
    reads_on = λ before was. was;
    calm = λ was. was;
    missing = λ calm was. was;
    unopened = λ calm before read was. was;
  }

  keeps_more : (f g h : FeedActor I) → InputsKept told is_calm faults f g → InputsKept told is_calm faults g h →
      InputsKept told is_calm faults f h
  keeps_more f g h a b =
      let first = a.count in
      let second = b.count in
      record {
        same_reference = b.same_reference ∙ a.same_reference;
        names = b.names ∙ a.names;
        count = omega arith;
        since = λ k was. b.since k (a.since k was);
        reads_on = λ before was. b.reads_on before (a.reads_on before was);
        calm = λ was. b.calm (a.calm was);
        missing = λ calm was. b.missing (a.calm calm) (a.missing calm was);
        unopened = λ calm before read was.
            b.unopened (a.calm calm) before (a.reads_on before read) (a.unopened calm before read was);
      }

  stands : (n : ℕ) (f : FeedActor I) → f.turns < 2 ^ 64 → (f.end ≡ None → 0 ≡ n) →
      FeedMoved told is_calm faults n f f
  stands n f small all =
      let turns : f.turns ≡ min greatest (f.turns + 0) = omega arith in
      record {
        inputs = keeps_itself f;
        plan = refl;
        size = refl;
        made = 0;
        most = omega arith;
        all = all;
        none = λ ended. refl;
        stays = λ ended. refl;
        turns = turns;
        writes = no_writes f.pass f.end;
      }

  pub feed_none : (f : FeedActor I) → f.turns < 2 ^ 64 → FeedMoved told is_calm faults 0 f f
  feed_none f small = stands 0 f small (λ running. refl)

  pub feed_still : (n : ℕ) (f : FeedActor I) → f.turns < 2 ^ 64 → IsSome f.end → FeedMoved told is_calm faults n f f
  feed_still n f small ended = stands n f small (λ running. absurd (some_not_none f.end ended running))

  -- a turn and its write
  pub feed_turned : (f h : FeedActor I) (answer : FeedTurn) → f.end ≡ None → h.end ≡ has_end h.part →
      FeederKept told is_calm faults f.part h.part → h.part.inputs.ghost_name ≡ f.part.inputs.ghost_name →
      TurnAnswers f.pass h.pass (has_end h.part) answer → h.turns ≡ min greatest (f.turns + 1) →
      FeedMoved told is_calm faults 1 f h
  feed_turned f h answer running is kept same did turns = record {
    inputs = record {
      same_reference = same;
      names = kept.names;
      count = kept.count;
      since = kept.since;
      reads_on = kept.reads_on;
      calm = kept.calm;
      missing = kept.missing;
      unopened = kept.unopened;
    };
    plan = kept.plan;
    size = kept.size;
    made = 1;
    most = omega arith;
    all = λ on. refl;
    none = λ ended. absurd (some_not_none f.end ended running);
    stays = λ ended. absurd (some_not_none f.end ended running);
    turns = turns;
    writes = one_write f.pass h.pass f.end h.end running (record {
      answer = answer;
      did = rw is did;
    });
  }

  pub feed_more : (n m : ℕ) (f g h : FeedActor I) → FeedMoved told is_calm faults n f g →
      FeedMoved told is_calm faults m g h → FeedMoved told is_calm faults (n + m) f h
  feed_more n m f g h a b =
      let made_a = a.most in
      let made_b = b.most in
      let turns_a = a.turns in
      let turns_b = b.turns in
      record {
        inputs = keeps_more f g h a.inputs b.inputs;
        plan = b.plan ∙ a.plan;
        size = b.size ∙ a.size;
        made = a.made + b.made;
        most = omega arith;
        all = λ on. all_made g.end refl on;
        none = λ ended.
            let none_a = a.none ended in
            let none_b = b.none (stays_some ended) in
            omega arith;
        stays = λ ended. b.stays (stays_some ended) ∙ a.stays ended;
        turns = omega arith;
        writes = writes_more a.made b.made f.pass g.pass h.pass f.end g.end h.end a.writes b.writes;
      }
    where
      stays_some : IsSome f.end → IsSome g.end
      stays_some ended = rw (a.stays ended) ended

      all_made : (e : Option FeedEnd) → g.end ≡ e → h.end ≡ None → a.made + b.made ≡ n + m
      all_made None is on = let all_a = a.all is in let all_b = b.all on in omega arith
      all_made (Some e) is on = let same = sym on ∙ b.stays (rw is (search rules)) ∙ is in absurd cc
