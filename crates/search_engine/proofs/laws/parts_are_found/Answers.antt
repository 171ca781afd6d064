use Rattle.search_engine.proofs.PartsFound.{chunks_searched, found_all, found_so_far}
use Rattle.search_engine.proofs.laws.parts_are_found.Goals as goal

pub returns : goal.returns
returns c = record {
  chunks = chunks_searched;
  book = λ o bytes more e needed place until off less within scope numbers stands.
      found_so_far c.samples_of_bytes.ensures c.shards_are_listed.ensures c.edges_fall.ensures o bytes more e needed
      place until off less within scope numbers stands;
  ended = found_all c.samples_of_bytes.ensures c.shards_are_listed.ensures c.edges_fall.ensures;
}
