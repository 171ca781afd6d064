-- The engines of a shard, and a block that it cleared.
use Rattle.std.proofs.Common.{◌≡◌, ◌≢◌, ℕ, zero, suc, ◌+◌, ◌-◌, ◌*◌, ◌<◌, ◌≤◌, Bool, true, false, List, [], ◌∷◌, ◌++◌, length, length-append, slice_set, Option, Some, refl, sym, ap, ◌∙◌, arith}
use Rattle.std.specs.Prelude.{if◌then◌else◌, nat_lt}
use Rattle.std.proofs.lemmas.List.{append-nil, length-set}
use Rattle.std.proofs.lemmas.Option.{slice_get_within}
use Rattle.std.proofs.lemmas.Bool.Decides.{nat_tests}
use mathlib.Core.Logic.{dite}
use native.Mathlib.Decide.{ℕ_discrete, dec_le}
use Rattle.dada_model.specs.Observation.{Observation}
use Rattle.ring_blocks.specs.declared.Entry.{Entry}
use Rattle.stream_model.specs.Blocks.{is_end, ended_transfers, transfer_bytes}
use Rattle.stream_model.specs.BlockLaws.{EndsAreCounted, EntriesAreOfTransfers}
use Rattle.search_engine.specs.Engine.{EngineState, SameShard, StandsForPart, scope_of}
use Rattle.session_readers.specs.Banks.{HasEngine, Stands, WasFed, WasFedAt, CanFeedAt}
use Rattle.session_readers.proofs.Rows.{get_set_same, get_set_other}
use Rattle.session_readers.specs.Shards.{StandsAt, IsEngineAt, AreEnginesAt, EngineFollows, EnginesFollow}

-- ---- one block more

pub nothing : (k : ℕ) → transfer_bytes k [] ≡ []
unfolding transfer_bytes
nothing zero = refl
nothing (suc k) = refl

-- a block has nothing of a later transfer
none_later : (m : ℕ) (e : Entry) → 0 < m → transfer_bytes m (e ∷ []) ≡ []
unfolding transfer_bytes
none_later zero e later = absurd (omega arith)
none_later (suc m) e later = nothing (if is_end e.mark then m else suc m)

ended_one : (e : Entry) → ended_transfers (e ∷ []) ≡ (if is_end e.mark then 1 else 0) + 0
unfolding ended_transfers
ended_one e = refl

-- how many transfers have ended with one block more
pub ended_more : EndsAreCounted → (xs : List Entry) (e : Entry) →
    ended_transfers (xs ++ e ∷ []) ≡ ended_transfers xs + (if is_end e.mark then 1 else 0)
ended_more counted xs e =
    let one = ended_one e in
    let all = counted.append xs (e ∷ []) in
    omega arith

lt_other : (k d m : ℕ) (b : Bool) → k ≢ d → m ≡ d + (if b then 1 else 0) → nat_lt k m ≡ nat_lt k d
lt_other k d m true other is = grind (arith, nat_tests)
lt_other k d m false other is = grind (arith, nat_tests)

lt_same : (d m : ℕ) (b : Bool) → m ≡ d + (if b then 1 else 0) → nat_lt d m ≡ b
lt_same d m true is = grind (arith, nat_tests)
lt_same d m false is = grind (arith, nat_tests)

pub not_below_itself : (d : ℕ) → nat_lt d d ≡ false
not_below_itself d = grind (arith, nat_tests)

-- a block belongs to one transfer, and the others gain nothing
bytes_other : EntriesAreOfTransfers → (k : ℕ) (xs : List Entry) (e : Entry) → k ≢ ended_transfers xs →
    transfer_bytes k (xs ++ e ∷ []) ≡ transfer_bytes k xs
bytes_other of k xs e other = dite (dec_le (ended_transfers xs) k)
    (λ after. let later : 0 < k - ended_transfers xs = omega arith in
    of.open_still k xs (e ∷ []) after ∙ rw (none_later (k - ended_transfers xs) e later)
    (append-nil (transfer_bytes k xs)))
    (λ before. of.done k xs (e ∷ []) (omega arith))

-- what an engine stands for, where the bytes of its transfer and whether that ended are the same
stands_same : (o : Observation) (k : ℕ) (xs ys : List Entry) (e : EngineState) →
    nat_lt k (ended_transfers ys) ≡ nat_lt k (ended_transfers xs) → transfer_bytes k ys ≡ transfer_bytes k xs →
    StandsAt o k xs e → StandsAt o k ys e
stands_same o k xs ys e ended bytes stands = rw (ended, bytes) stands

-- ---- the engine that is fed

module _ (counted : EndsAreCounted) (of : EntriesAreOfTransfers) (size : ℕ) (xs : List Entry) (e : Entry)
    (fits : length e.bytes ≤ size) where
  this_at : (old new : EngineState) → IsEngineAt size xs (ended_transfers xs) old →
      WasFed old e.bytes (is_end e.mark) new → IsEngineAt size (xs ++ e ∷ []) (ended_transfers xs) new
  this_at old new at fed =
      let bytes = ap (length {A = ℕ}) (of.next (ended_transfers xs) xs e refl) in
      let all = length-append (transfer_bytes (ended_transfers xs) xs) e.bytes in
      let before = at.fed in
      let most = at.most in
      let more = fed.fed in
      let long = length-append xs (e ∷ []) in
      record {
        ended = fed.ended
            ∙ sym (lt_same (ended_transfers xs) (ended_transfers (xs ++ e ∷ [])) (is_end e.mark) (ended_more counted xs
            e));
        fed = omega arith;
        most = most_more (length xs) (length (xs ++ e ∷ [])) size old.fed new.fed (length e.bytes) most more fits long;
      }
    where
      most_more : (n m z a b c : ℕ) → a ≤ n * z → b ≡ a + c → c ≤ z → m ≡ n + 1 → b ≤ m * z
      most_more n m z a b c most more fits long = rw long (grind arith)

  this_follows : (old new : EngineState) → WasFed old e.bytes (is_end e.mark) new →
      EngineFollows (ended_transfers xs) xs (xs ++ e ∷ []) old new
  this_follows old new fed = record {
    same = fed.same;
    scope = fed.scope;
    stands = λ o stands.
        let d = ended_transfers xs in
        let was : StandsForPart o (transfer_bytes d xs) old = rw (not_below_itself d) at stands in
        rw (of.next d xs e refl, lt_same d (ended_transfers (xs ++ e ∷ [])) (is_end e.mark) (ended_more counted xs e))
        (fed.stands o (transfer_bytes d xs) was);
  }

  -- ---- the others

  ended_other : (k : ℕ) → k ≢ ended_transfers xs →
      nat_lt k (ended_transfers (xs ++ e ∷ [])) ≡ nat_lt k (ended_transfers xs)
  ended_other k other = lt_other k (ended_transfers xs) (ended_transfers (xs ++ e ∷ [])) (is_end e.mark) other
      (ended_more counted xs e)

  other_at : (k : ℕ) (f : EngineState) → k ≢ ended_transfers xs → IsEngineAt size xs k f →
      IsEngineAt size (xs ++ e ∷ []) k f
  other_at k f other at =
      let most = at.most in
      let long = length-append xs (e ∷ []) in
      record {
        ended = at.ended ∙ sym (ended_other k other);
        fed = at.fed ∙ sym (ap (length {A = ℕ}) (bytes_other of k xs e other));
        most = longer (length xs) (length (xs ++ e ∷ [])) size f.fed most long;
      }
    where
      longer : (n m z a : ℕ) → a ≤ n * z → m ≡ n + 1 → a ≤ m * z
      longer n m z a most long = rw long (grind arith)

  other_follows : (k : ℕ) (f : EngineState) → k ≢ ended_transfers xs → EngineFollows k xs (xs ++ e ∷ []) f f
  other_follows k f other = record {
    same = record { search = refl; shard = refl };
    scope = refl;
    stands = λ o stands. stands_same o k xs (xs ++ e ∷ []) f (ended_other k other) (bytes_other of k xs e other) stands;
  }

  -- ---- all

  pub engines_at : (old new : List (Option EngineState)) → AreEnginesAt size xs old →
      WasFedAt old (ended_transfers xs) e.bytes (is_end e.mark) new → AreEnginesAt size (xs ++ e ∷ []) new
  engines_at old new at fed = λ k near. dite (ℕ_discrete k (ended_transfers xs))
      (λ same.
      let count = fed.count in
      let was = at (ended_transfers xs) (omega arith) in
      let now = fed.this was.0 was.1 in
      rw same (now.0, now.1, this_at was.0 now.0 was.2 now.2))
      (λ other.
      let count = fed.count in
      let was = at k (omega arith) in
      (was.0, fed.others k other ∙ was.1, other_at k was.0 other was.2))

  pub engines_follow : (old new : List (Option EngineState)) →
      WasFedAt old (ended_transfers xs) e.bytes (is_end e.mark) new → EnginesFollow xs (xs ++ e ∷ []) old new
  engines_follow old new fed = record {
    count = fed.count;
    each = λ k f there. dite (ℕ_discrete k (ended_transfers xs))
        (λ same.
        let now = fed.this f (rw same at there) in
        rw same (now.0, now.1, this_follows f now.0 now.2))
        (λ other. (f, fed.others k other ∙ there, other_follows k f other));
  }

-- ---- no block

pub follow_still : (xs ys : List Entry) (engines : List (Option EngineState)) → ys ≡ xs →
    EnginesFollow xs ys engines engines
follow_still xs ys engines is = record {
  count = refl;
  each = λ k f there. (
    f,
    there,
    record {
      same = record { search = refl; shard = refl };
      scope = refl;
      stands = λ o stands. rw is stands;
    },
  );
}

-- ---- written in place

-- the engine of a transfer was fed
pub fed_at : (old : List (Option EngineState)) (k : ℕ) (e f : EngineState) (bytes : List ℕ) (b : Bool) →
    HasEngine old k e → WasFed e bytes b f → WasFedAt old k bytes b (slice_set old k (Some f))
fed_at old k e f bytes b there fed = record {
  count = length-set old k (Some f);
  others = λ j other. get_set_other old k j (Some f) other;
  this = λ x at.
      let same : e ≡ x = cc in (
        f,
        get_set_same old k (Some f) (slice_get_within old k (Some e) there),
        rw (sym same) fed,
      );
}

-- it was fed no bytes
pub fed_nothing : (e f : EngineState) (b : Bool) → SameShard f e → scope_of f ≡ scope_of e → f.fed ≡ e.fed →
    f.has_ended ≡ b → ((o : Observation) (before : List ℕ) → StandsForPart o before e → Stands b o before f) →
    WasFed e [] b f
fed_nothing e f b same scope fed ended stands = record {
  same = same;
  scope = scope;
  fed = omega arith;
  ended = ended;
  stands = λ o before was. rw (append-nil before) (stands o before was);
}

-- ---- fed first, and ended then

-- an engine that was fed a block, and goes on, can be ended
pub can_end : (old new : List (Option EngineState)) (k : ℕ) (bytes : List ℕ) → CanFeedAt old k bytes →
    WasFedAt old k bytes false new → CanFeedAt new k []
can_end old new k bytes can fed =
    let f = fed.this can.0 can.1 in
    let count = f.2.fed in
    let most = can.3 in
    (f.0, f.1, f.2.ended, omega arith)

fed_and_ended : (e f g : EngineState) (bytes : List ℕ) (b : Bool) → WasFed e bytes false f → WasFed f [] b g →
    WasFed e bytes b g
fed_and_ended e f g bytes b fed ended =
    let first = fed.fed in
    let second = ended.fed in
    record {
      same = record { search = ended.same.search ∙ fed.same.search; shard = ended.same.shard ∙ fed.same.shard };
      scope = ended.scope ∙ fed.scope;
      fed = omega arith;
      ended = ended.ended;
      stands = λ o before was.
          rw (append-nil (before ++ bytes)) at (ended.stands o (before ++ bytes) (fed.stands o before was));
    }

-- both are one feed of the block
pub fed_then_ended : (old mid new : List (Option EngineState)) (k : ℕ) (bytes : List ℕ) (b : Bool) →
    WasFedAt old k bytes false mid → WasFedAt mid k [] b new → WasFedAt old k bytes b new
fed_then_ended old mid new k bytes b fed ended = record {
  count = ended.count ∙ fed.count;
  others = λ j other. ended.others j other ∙ fed.others j other;
  this = λ e there.
      let f = fed.this e there in
      let g = ended.this f.0 f.1 in
      (g.0, g.1, fed_and_ended e f.0 g.0 bytes b f.2 g.2);
}
