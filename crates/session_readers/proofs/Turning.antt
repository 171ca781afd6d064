-- One read of a shard.
use Rattle.std.proofs.Common.{◌≡◌, ℕ, ◌+◌, ◌*◌, ◌<◌, ◌≤◌, ◌^◌, Bool, true, false, ◌||◌, List, [], ◌∷◌, ◌++◌, length, length-append, vec_len, refl, sym, ap, ◌∙◌, arith}
use Rattle.std.specs.Prelude.{if◌then◌else◌, nat_le}
use Rattle.std.proofs.lemmas.Bool.{false≢true}
use Rattle.std.proofs.lemmas.Bool.Decides.{nat_tests}
use Rattle.std.proofs.Math.Nat.{mul-le-mul_right}
use Rattle.ring_blocks.specs.declared.Entry.{Entry}
use Rattle.ring_blocks.specs.declared.Mark.{Mark}
use Rattle.ring_ends.specs.Passes.{reader_knows}
use Rattle.dada_hdu.specs.declared.hdu.Hdu.{Hdu}
use Rattle.dada_hdu.specs.declared.passes.HduReader.{HduReader}
use Rattle.dada_hdu.specs.declared.ended.HduEnded.{HduEnded}
use Rattle.dada_hdu.specs.declared.ended.HduEnded.TheVariants.{Here, Away, Retired}
use Rattle.dada_hdu.specs.Passes.{data_shape, ReadsBoth, EndedFromBoth}
use Rattle.stream_model.specs.Blocks.{is_end, is_cut, ended_transfers, has_cut, is_over}
use Rattle.stream_model.specs.BlockLaws.{EndsAreCounted, EntriesAreOfTransfers}
use Rattle.search_engine.specs.Engine.{EngineState, most_fed}
use Rattle.session_readers.specs.declared.shard.ShardActor.{ShardActor}
use Rattle.session_readers.specs.Banks.{HasEngine, WasFedAt, engines_of}
use Rattle.session_readers.specs.Reads.{TriesNext, header_is_next, ReadsRing, ReadsNext, HasMore, HasRested}
use Rattle.session_readers.specs.Shards.{EnginesFollow, blocks_cleared, shard_cleared, IsHere, IsHereOrRetired, IsRetired, ShardOn, ShardStepped, ShardMoved}
use Rattle.session_readers.proofs.OneRead.{begins_same, pass_rests, rested_tries, no_reads}
use Rattle.session_readers.proofs.Engines.{ended_more, not_below_itself, engines_at, engines_follow, follow_still}

-- ---- ends

over_parts : (a b : Bool) → (a || b) ≡ false → (a ≡ false) × (b ≡ false)
over_parts true b off = absurd cc
over_parts false b off = (refl, off)

le_false : (a b : ℕ) → nat_le a b ≡ false → b < a
le_false a b off = grind (arith, nat_tests)

-- until a stream of transfers is over, fewer have ended
pub few_ended : (n : ℕ) (xs : List Entry) → is_over n xs ≡ false → ended_transfers xs < n
few_ended n xs off =
    le_false n (ended_transfers xs) (over_parts (nat_le n (ended_transfers xs)) (has_cut xs) off).0

cut_one : (e : Entry) → has_cut (e ∷ []) ≡ (is_cut e.mark || false)
unfolding has_cut
cut_one e = refl

or_false : (b : Bool) → (b || false) ≡ b
or_false true = refl
or_false false = refl

-- whether it is over with one block more
pub over_more : EndsAreCounted → (n d : ℕ) (xs : List Entry) (e : Entry) → is_over n xs ≡ false →
    d ≡ ended_transfers (xs ++ e ∷ []) → is_over n (xs ++ e ∷ []) ≡ (nat_le n d || is_cut e.mark)
over_more counted n d xs e off is =
    let uncut = (over_parts (nat_le n (ended_transfers xs)) (has_cut xs) off).1 in
    rw (sym is, counted.cut_append xs (e ∷ []), uncut, cut_one e, or_false (is_cut e.mark)) refl

-- ---- a shard whose engines stand as they stood

module _ (x y : ShardActor) (cleared : shard_cleared y ≡ shard_cleared x) (part : y.part ≡ x.part) where
  on_kept : (hdu : Hdu) → EndedFromBoth hdu y.pass → (y.ended ≡ false → IsHere y.pass) → IsHereOrRetired y.pass →
      vec_len y.space ≡ vec_len x.space → y.turns ≡ x.turns → y.done ≡ x.done → y.ended ≡ x.ended → ShardOn hdu x →
      ShardOn hdu y
  on_kept hdu reads here stays space turns done ended on =
      let header_room = on.header_room in
      let count = on.count in
      record {
        reads = reads;
        here = here;
        stays = stays;
        header_room = omega arith;
        few = on.few;
        done = rw cleared (done ∙ on.done);
        over = rw (part, cleared) (ended ∙ on.over);
        engines = rw (part, cleared) on.engines;
        count = omega arith;
      }

  follow_kept : EnginesFollow (shard_cleared x) (shard_cleared y) (engines_of x.part) (engines_of y.part)
  follow_kept = rw part (follow_still (shard_cleared x) (shard_cleared y) (engines_of x.part) cleared)

-- ---- a shard before and after a read

module _ (hdu : Hdu) (x y : ShardActor) (reader reader' : HduReader) (was : x.pass ≡ Here reader)
    (now : y.pass ≡ Here reader') where
  -- the read, as one of the shard's pass
  pass_read : (next : Bool) → header_is_next x.pass ≡ next → ReadsRing next (Here reader) (Here reader') →
      ReadsNext x.pass y.pass
  pass_read next is read = rw (is, was, now) read

  -- ---- nothing was fed

  cleared_same : blocks_cleared reader' ≡ blocks_cleared reader → shard_cleared y ≡ shard_cleared x
  cleared_same same = rw (was, now) same

  pub on_still : ReadsBoth hdu reader' → blocks_cleared reader' ≡ blocks_cleared reader → y.part ≡ x.part →
      vec_len y.space ≡ vec_len x.space → y.turns ≡ x.turns → y.done ≡ x.done → y.ended ≡ x.ended → ShardOn hdu x →
      ShardOn hdu y
  on_still reads same part = on_kept x y (cleared_same same) part hdu (rw now reads) (λ running. (reader', now))
      (rw now tt)

  pub stepped_still : (next : Bool) → header_is_next x.pass ≡ next → ReadsRing next (Here reader) (Here reader') →
      blocks_cleared reader' ≡ blocks_cleared reader → y.part ≡ x.part → y.done ≡ x.done → y.ended ≡ x.ended →
      y.turns ≡ x.turns → ShardStepped x y
  stepped_still next is read same part done ended turns = record {
    turns = turns;
    read = pass_read next is read;
    idle = λ none. record { part = part; done = done; ended = ended };
    engines = follow_kept x y (cleared_same same) part;
  }

  -- ---- a block was fed

  module _ (counted : EndsAreCounted) (of : EntriesAreOfTransfers) (e : Entry)
      (more : blocks_cleared reader' ≡ blocks_cleared reader ++ e ∷ []) (fits : length e.bytes ≤ (data_shape hdu).size)
      (on : ShardOn hdu x)
      (fed : WasFedAt (engines_of x.part) x.done e.bytes (is_end e.mark) (engines_of y.part))
    where
      cleared_more : shard_cleared y ≡ shard_cleared x ++ e ∷ []
      cleared_more = rw (was, now) more

      fed_at : WasFedAt (engines_of x.part) (ended_transfers (shard_cleared x)) e.bytes (is_end e.mark)
          (engines_of y.part)
      fed_at = rw (sym on.done) fed

      pub on_fed : ReadsBoth hdu reader' → vec_len y.space ≡ vec_len x.space → y.turns ≡ x.turns →
          x.ended ≡ false → y.done ≡ x.done + (if is_end e.mark then 1 else 0) →
          y.ended ≡ (nat_le (length (engines_of y.part)) y.done || is_cut e.mark) → ShardOn hdu y
      on_fed reads space turns running done ended =
          let header_room = on.header_room in
          let count = on.count in
          let off : is_over (length (engines_of y.part)) (shard_cleared x) ≡ false =
          rw fed.count (sym on.over ∙ running) in
          let done_is : y.done ≡ ended_transfers (shard_cleared x ++ e ∷ []) =
          done ∙ rw on.done (sym (ended_more counted (shard_cleared x) e)) in
          record {
            reads = rw now reads;
            here = λ running. (reader', now);
            stays = rw now tt;
            header_room = omega arith;
            few = on.few;
            done = rw cleared_more done_is;
            over = rw cleared_more (ended
                ∙ sym (over_more counted (length (engines_of y.part)) y.done (shard_cleared x) e off done_is));
            engines = rw cleared_more (engines_at counted of (data_shape hdu).size (shard_cleared x) e fits
                (engines_of x.part) (engines_of y.part) on.engines fed_at);
            count = omega arith;
          }

      pub stepped_fed : (next : Bool) → header_is_next x.pass ≡ next → ReadsRing next (Here reader) (Here reader') →
          y.turns ≡ x.turns → ShardStepped x y
      stepped_fed next is read turns = record {
        turns = turns;
        read = pass_read next is read;
        idle = λ none.
            let more = ap length cleared_more ∙ length-append (shard_cleared x) (e ∷ []) in
            let same = ap length none in
            absurd (omega arith);
        engines = rw cleared_more (engines_follow counted of (data_shape hdu).size (shard_cleared x) e fits
            (engines_of x.part) (engines_of y.part) fed_at);
      }

-- ---- a block that was read and is cleared

-- the reader of a shard that takes one block more
pub within_was : (x : ShardActor) (reader : HduReader) (m : ℕ) → x.pass ≡ Here reader →
    length (blocks_cleared reader) < m → length (shard_cleared x) < m
within_was x reader m was within = rw was within

-- a read of the header ring
pub read_header : (old new : HduReader) → TriesNext (reader_knows old.header) (reader_knows new.header) →
    new.blocks ≡ old.blocks → ReadsRing true (Here old) (Here new)
read_header old new tried blocks = (tried, pass_rests old.blocks new.blocks blocks)

pub ended_as : (r : Bool) (a a' d : ℕ) (m m' : Mark) → r ≡ (nat_le a d || is_cut m) → a ≡ a' → m ≡ m' →
    r ≡ (nat_le a' d || is_cut m')
ended_as r a a' d m m' is count mark = is ∙ rw (count, mark) refl

-- ---- the engine that is fed

-- the transfer that goes on is one of those searched
pub done_below : (hdu : Hdu) (x : ShardActor) → ShardOn hdu x → x.ended ≡ false →
    x.done < length (engines_of x.part)
done_below hdu x on running =
    let less = few_ended (length (engines_of x.part)) (shard_cleared x) (sym on.over ∙ running) in
    let done = on.done in
    omega arith

pub one_most : (b : Bool) → (if b then 1 else 0) ≤ 1
one_most true = omega arith
one_most false = omega arith

most_more : (n m z a b c : ℕ) → a ≤ n * z → b ≤ z → n < m → m * z ≤ c → a + b ≤ c
most_more n m z a b c fed fits within few =
    let most : (n + 1) * z ≤ m * z = mul-le-mul_right z (omega arith) in
    let next : (n + 1) * z ≡ n * z + z = grind arith in
    omega arith

-- the engine of the transfer that goes on takes one block more
pub takes_block : (hdu : Hdu) (x : ShardActor) (used : ℕ) → ShardOn hdu x → x.ended ≡ false →
    used ≤ (data_shape hdu).size → length (shard_cleared x) < (data_shape hdu).max_blocks →
    (e : EngineState) × HasEngine (engines_of x.part) x.done e × (e.has_ended ≡ false)
    × (e.fed + used ≤ most_fed)
takes_block hdu x used on running fits within =
    let d = ended_transfers (shard_cleared x) in
    let less = few_ended (length (engines_of x.part)) (shard_cleared x) (sym on.over ∙ running) in
    let h = on.engines d less in (
      h.0,
      rw on.done h.1,
      h.2.ended ∙ not_below_itself d,
      most_more (length (shard_cleared x)) (data_shape hdu).max_blocks (data_shape hdu).size h.0.fed used most_fed
          h.2.most fits within on.few,
    )

-- ---- a shard that retired

retired_stays : (pass : HduEnded) → IsRetired pass → IsHereOrRetired pass
retired_stays (Here reader) retired = absurd retired
retired_stays (Away reader) retired = absurd retired
retired_stays (Retired reader) retired = tt

module _ (hdu : Hdu) (x y : ShardActor) (same : HasRested x.pass y.pass) (part : y.part ≡ x.part)
    (turns : y.turns ≡ x.turns) where
  pub on_retired : EndedFromBoth hdu y.pass → IsRetired y.pass → vec_len y.space ≡ vec_len x.space → y.done ≡ x.done →
      y.ended ≡ x.ended → x.ended ≡ true → ShardOn hdu x → ShardOn hdu y
  on_retired reads retired space done ended over = on_kept x y same.blocks.cleared part hdu reads
      (λ running. absurd (false≢true (sym running ∙ ended ∙ over))) (retired_stays y.pass retired) space turns done
      ended

  pub moved_retired : x.turns < 2 ^ 64 → y.ended ≡ x.ended → ShardMoved 0 x y
  moved_retired small ended =
      let tries = rested_tries x.pass y.pass same in
      record {
        number = same.blocks.number;
        made = 0;
        most = omega arith;
        all = λ running. refl;
        none = λ was. refl;
        stays = λ was. ended ∙ was;
        turns = omega arith;
        reads = no_reads (HasMore (length (engines_of x.part))) x.pass y.pass same;
        tries = omega arith;
        grown = begins_same (shard_cleared x) (shard_cleared y) same.blocks.cleared;
        engines = follow_kept x y same.blocks.cleared part;
      }
