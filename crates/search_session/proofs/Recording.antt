-- Turns of a recorder that follow one another.
use Rattle.std.proofs.Common.{◌≡◌, ℕ, ◌+◌, ◌<◌, ◌^◌, min, Option, Some, None, refl, sym, ◌∙◌, arith, rules}
use Rattle.std.specs.Prelude.{IsSome}
use Rattle.psr_base.specs.Made.{FilesSeen}
use Rattle.ring_core.specs.Machine.{greatest}
use Rattle.dada_hdu.specs.Passes.{tries_of}
use Rattle.dada_recorder.specs.declared.answers.RecordEnd.{RecordEnd}
use Rattle.session_readers.specs.declared.record.RecordActor.{RecordActor}
use Rattle.session_readers.specs.Records.{recorded_headers, recorded_blocks, FilesKept, GoesOnFrom, RecordMoved}
use Rattle.search_session.proofs.Feeding.{some_not_none}
use Rattle.search_session.proofs.ManyReads.{begins_itself, begins_more, rested_itself, no_reads, reads_more}

module _ {F : Type 0} (seen : F → FilesSeen) where
  files_themselves : (x : RecordActor F) → FilesKept seen x x
  files_themselves x = record {
    same_reference = refl;
    made = λ outset are. are;
    count = omega arith;
    since = λ k was. was;
  }

  files_more : (x y z : RecordActor F) → FilesKept seen x y → FilesKept seen y z → FilesKept seen x z
  files_more x y z a b =
      let first = a.count in
      let second = b.count in
      record {
        same_reference = b.same_reference ∙ a.same_reference;
        made = λ outset are. b.made outset (a.made outset are);
        count = omega arith;
        since = λ k was. b.since k (a.since k was);
      }

  -- no turn was made
  unmoved : (n : ℕ) (x : RecordActor F) → x.turns < 2 ^ 64 → (x.end ≡ None → 0 ≡ n) → RecordMoved seen n x x
  unmoved n x small all =
      let turns : x.turns ≡ min greatest (x.turns + 0) = omega arith in
      let tries : tries_of x.pass ≡ tries_of x.pass + 0 = omega arith in
      record {
        files = files_themselves x;
        plan = refl;
        size = refl;
        number = refl;
        made = 0;
        most = omega arith;
        all = all;
        none = λ ended. refl;
        stays = λ ended. refl;
        turns = turns;
        reads = no_reads (GoesOnFrom seen x) x.pass x.pass (rested_itself x.pass);
        tries = tries;
        headers = begins_itself (recorded_headers x);
        blocks = begins_itself (recorded_blocks x);
      }

  pub record_none : (x : RecordActor F) → x.turns < 2 ^ 64 → RecordMoved seen 0 x x
  record_none x small = unmoved 0 x small (λ running. refl)

  pub record_still : (n : ℕ) (x : RecordActor F) → x.turns < 2 ^ 64 → IsSome x.end → RecordMoved seen n x x
  record_still n x small ended = unmoved n x small (λ running. absurd (some_not_none x.end ended running))

  pub record_more : (n m : ℕ) (x y z : RecordActor F) → RecordMoved seen n x y → RecordMoved seen m y z →
      RecordMoved seen (n + m) x z
  record_more n m x y z a b =
      let made_a = a.most in
      let made_b = b.most in
      let turns_a = a.turns in
      let turns_b = b.turns in
      let tries_a = a.tries in
      let tries_b = b.tries in
      record {
        files = files_more x y z a.files b.files;
        plan = b.plan ∙ a.plan;
        size = b.size ∙ a.size;
        number = b.number ∙ a.number;
        made = a.made + b.made;
        most = omega arith;
        all = λ on. all_made y.end refl on;
        none = λ ended.
            let none_a = a.none ended in
            let none_b = b.none (stays_some ended) in
            omega arith;
        stays = λ ended. b.stays (stays_some ended) ∙ a.stays ended;
        turns = omega arith;
        reads = reads_more (GoesOnFrom seen x) (GoesOnFrom seen y)
            (λ p goes. record {
              actor = goes.actor;
              pass_is = goes.pass_is;
              running = goes.running;
              end = goes.end;
              plan = goes.plan ∙ a.plan;
              stands = goes.stands;
              files = files_more x y goes.actor a.files goes.files;
            }) a.made b.made x.pass y.pass z.pass a.reads b.reads;
        tries = omega arith;
        headers = begins_more (recorded_headers x) (recorded_headers y) (recorded_headers z) a.headers b.headers;
        blocks = begins_more (recorded_blocks x) (recorded_blocks y) (recorded_blocks z) a.blocks b.blocks;
      }
    where
      stays_some : IsSome x.end → IsSome y.end
      stays_some ended = rw (a.stays ended) ended

      all_made : (e : Option RecordEnd) → y.end ≡ e → z.end ≡ None → a.made + b.made ≡ n + m
      all_made None is on = let all_a = a.all is in let all_b = b.all on in omega arith
      all_made (Some e) is on = let same = sym on ∙ b.stays (rw is (search rules)) ∙ is in absurd cc
