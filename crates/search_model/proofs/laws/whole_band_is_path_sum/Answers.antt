use Rattle.search_model.proofs.Subbands.{whole_band}
use Rattle.search_model.proofs.laws.whole_band_is_path_sum.Goals as goal

pub returns : goal.returns
returns c = whole_band
