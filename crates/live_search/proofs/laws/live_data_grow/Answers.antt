use Rattle.live_search.proofs.Growing.{data_before, data_begins, data_grow}
use Rattle.live_search.proofs.laws.live_data_grow.Goals as goal

pub returns : goal.returns
returns c =
    let o = c.args.observation.now in
    let range = c.lies_in_range.ensures in
    record {
      whole = λ t bytes more some. data_grow o range t some bytes more;
      begins = λ t all some. data_begins o range t some all;
      before = λ t all bytes some few. data_before o range t some all bytes few;
    }
