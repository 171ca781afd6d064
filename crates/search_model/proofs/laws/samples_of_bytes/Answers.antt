use Rattle.search_model.proofs.Samples.{plain_samples, samples_kept, samples_below}
use Rattle.search_model.proofs.laws.samples_of_bytes.Goals as goal

pub returns : goal.returns
returns c = record { plain = plain_samples; kept = samples_kept; bounded = samples_below }
