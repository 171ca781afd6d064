use Rattle.std.proofs.Common.{subst, sym}
use Rattle.search_engine.specs.Engine.{HasFoundIn}
use Rattle.search_engine.specs.Scope.{Scope}
use Rattle.warm_restart.specs.Warm.{SearchesPart}
use Rattle.warm_restart.specs.declared.warm.Warm.{Warm}
use Rattle.warm_restart.proofs.PartFound.{book_found}
use Rattle.warm_restart.proofs.warm.Warm.of_engine.Goals as goal

pub returns-clause-found : goal.returns-clause-found
returns-clause-found c = λ o bytes is.
    let w : Warm = record {
      search = c.args.search.now;
      checkpoint = c.args.checkpoint;
      until = c.args.until;
      engine = c.args.engine;
    } in
    let searches : SearchesPart o w = record {
      range = is.range;
      unfolded = is.unfolded;
      part = is.part;
      search = is.search;
      shard = is.shard;
      scope = is.scope;
    } in
    let found = subst (λ (x : Scope). HasFoundIn o x bytes c.args.engine) (sym is.scope) is.found in
    record {
      searches = searches;
      book = book_found c.scopes_are_found.ensures c.one_shard_is_all.ensures o bytes w searches found;
      spectra = found.all;
    }
