use Rattle.search_engine.proofs.PartFound.{channel_samples, channels_found, part_found}
use Rattle.search_engine.proofs.laws.scopes_are_found.Goals as goal

pub returns : goal.returns
returns c = record {
  samples = channel_samples;
  channels = channels_found c.cells_agree.ensures;
  part = λ o bytes e place until off found.
      part_found c.samples_of_bytes.ensures o bytes e place until found c.shards_are_listed.ensures off;
}
