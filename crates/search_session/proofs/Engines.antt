-- The engines of a shard, and blocks that it cleared one after another.
use Rattle.std.proofs.Common.{◌≡◌, ℕ, zero, suc, List, [], Option, refl, ◌∙◌}
use Rattle.ring_blocks.specs.declared.Entry.{Entry}
use Rattle.stream_model.specs.Blocks.{transfer_bytes}
use Rattle.search_engine.specs.Engine.{EngineState}
use Rattle.session_readers.specs.Shards.{EnginesFollow}

pub nothing : (k : ℕ) → transfer_bytes k [] ≡ []
unfolding transfer_bytes
nothing zero = refl
nothing (suc k) = refl

-- ---- no block, and blocks after blocks

pub follow_still : (xs ys : List Entry) (engines : List (Option EngineState)) → ys ≡ xs →
    EnginesFollow xs ys engines engines
follow_still xs ys engines is = record {
  count = refl;
  each = λ k f there. (
    f,
    there,
    record {
      same = record { search = refl; shard = refl };
      scope = refl;
      stands = λ o stands. rw is stands;
    },
  );
}

pub follow_more : (xs ys zs : List Entry) (a b c : List (Option EngineState)) → EnginesFollow xs ys a b →
    EnginesFollow ys zs b c → EnginesFollow xs zs a c
follow_more xs ys zs a b c first second = record {
  count = second.count ∙ first.count;
  each = λ k e there.
      let f = first.each k e there in
      let g = second.each k f.0 f.1 in (
        g.0,
        g.1,
        record {
          same = record {
            search = g.2.same.search ∙ f.2.same.search;
            shard = g.2.same.shard ∙ f.2.same.shard;
          };
          scope = g.2.scope ∙ f.2.scope;
          stands = λ o stands. g.2.stands o (f.2.stands o stands);
        },
      );
}
