-- Turns that follow one another, of shards and of slots.
use Rattle.std.proofs.Common.{◌≡◌, ℕ, ◌+◌, ◌<◌, ◌^◌, min, Bool, true, false, List, length, Option, Some, None, slice_index_or, refl, sym, ◌∙◌, arith}
use Rattle.ring_core.specs.Machine.{greatest}
use Rattle.dada_hdu.specs.Passes.{tries_of}
use Rattle.session_readers.specs.declared.shard.ShardActor.{ShardActor}
use Rattle.session_readers.specs.Reads.{HasMore}
use Rattle.session_readers.specs.Shards.{shard_cleared, ShardMoved}
use Rattle.search_session.specs.Hands.{SlotMoved, EachMoved}
use Rattle.search_session.proofs.ManyReads.{begins_itself, begins_more, rested_itself, no_reads, reads_more}
use Rattle.search_session.proofs.Engines.{follow_still, follow_more}
use Rattle.session_readers.specs.Banks.{engines_of}

-- ---- shards

-- no turn was made
stands : (n : ℕ) (x : ShardActor) → x.turns < 2 ^ 64 → (x.ended ≡ false → 0 ≡ n) → ShardMoved n x x
stands n x small all =
    let turns : x.turns ≡ min greatest (x.turns + 0) = omega arith in
    let tries : tries_of x.pass ≡ tries_of x.pass + 0 = omega arith in
    record {
      number = refl;
      made = 0;
      most = omega arith;
      all = all;
      none = λ ended. refl;
      stays = λ ended. ended;
      turns = turns;
      reads = no_reads (HasMore (length (engines_of x.part))) x.pass x.pass (rested_itself x.pass);
      tries = tries;
      grown = begins_itself (shard_cleared x);
      engines = follow_still (shard_cleared x) (shard_cleared x) (engines_of x.part) refl;
    }

pub shard_none : (x : ShardActor) → x.turns < 2 ^ 64 → ShardMoved 0 x x
shard_none x small = stands 0 x small (λ running. refl)

pub shard_still : (n : ℕ) (x : ShardActor) → x.turns < 2 ^ 64 → x.ended ≡ true → ShardMoved n x x
shard_still n x small ended = stands n x small (λ running. let both = sym ended ∙ running in absurd cc)

pub shard_more : (n m : ℕ) (x y z : ShardActor) → ShardMoved n x y → ShardMoved m y z → ShardMoved (n + m) x z
shard_more n m x y z a b =
    let made_a = a.most in
    let made_b = b.most in
    let turns_a = a.turns in
    let turns_b = b.turns in
    let tries_a = a.tries in
    let tries_b = b.tries in
    record {
      number = b.number ∙ a.number;
      made = a.made + b.made;
      most = omega arith;
      all = λ on. all_made y.ended refl on;
      none = λ ended. let none_a = a.none ended in let none_b = b.none (a.stays ended) in omega arith;
      stays = λ ended. b.stays (a.stays ended);
      turns = omega arith;
      reads = reads_more (HasMore (length (engines_of x.part))) (HasMore (length (engines_of y.part)))
          (λ p more. rw a.engines.count at more)
          a.made b.made x.pass y.pass z.pass a.reads b.reads;
      tries = omega arith;
      grown = begins_more (shard_cleared x) (shard_cleared y) (shard_cleared z) a.grown b.grown;
      engines = follow_more (shard_cleared x) (shard_cleared y) (shard_cleared z) (engines_of x.part)
          (engines_of y.part) (engines_of z.part) a.engines b.engines;
    }
  where
    all_made : (c : Bool) → y.ended ≡ c → z.ended ≡ false → a.made + b.made ≡ n + m
    all_made true is on = let both = sym (b.stays is) ∙ on in absurd cc
    all_made false is on = let all_a = a.all is in let all_b = b.all on in omega arith

-- ---- slots

module _ {A : Type 0} (R S T : A → A → Type 0) (both : (x y z : A) → R x y → S y z → T x z) where
  pub slot_more : (a b c : Option A) → SlotMoved R a b → SlotMoved S b c → SlotMoved T a c
  slot_more (Some x) (Some y) (Some z) first second = both x y z first second
  slot_more None (Some y) c first second = absurd first
  slot_more (Some x) None c first second = absurd first
  slot_more a b c first second = second

  pub each_more : (xs ys zs : List A) → EachMoved R xs ys → EachMoved S ys zs → EachMoved T xs zs
  each_more xs ys zs first second = record {
    count = second.count ∙ first.count;
    each = λ k d near.
        let count = first.count in
        both (slice_index_or xs k d) (slice_index_or ys k d) (slice_index_or zs k d) (first.each k d near)
        (second.each k d (omega arith));
  }
