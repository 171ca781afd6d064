use Rattle.warm_restart.proofs.PartFound.{searches_on}
use Rattle.warm_restart.proofs.warm.Warm.feed.Goals as goal

pub returns-clause-takes : goal.returns-clause-takes
returns-clause-takes c = λ o before was.
    let same = c.feed.ensures.same in
    record {
      searches = searches_on o c.args.self.now c.feed.new.self was.searches same.search same.shard c.feed.ensures.scope;
      fed = c.feed.ensures.part o before was.fed;
    }
