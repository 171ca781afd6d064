use Rattle.warm_restart.specs.Warm.{SearchesPart}
use Rattle.warm_restart.specs.declared.warm.Warm.{Warm}
use Rattle.warm_restart.proofs.PartFound.{book_found, searches_on}
use Rattle.warm_restart.proofs.warm.Warm.end.Goals as goal

pub returns-clause-found : goal.returns-clause-found
returns-clause-found c = λ o bytes was.
    let new : Warm = record c.args.self.now { engine = c.end.new.self } in
    let same = c.end.ensures.same in
    let searches : SearchesPart o new =
    searches_on o c.args.self.now c.end.new.self was.searches same.search same.shard c.end.ensures.scope in
    let found = c.end.ensures.found o bytes was.fed in
    record {
      searches = searches;
      book = book_found c.scopes_are_found.ensures c.one_shard_is_all.ensures o bytes new searches found;
      spectra = found.all;
    }
