use Rattle.std.proofs.Common.{refl}
use Rattle.live_search.proofs.live.LiveSearch.end_data.Goals as goal

pub returns : goal.returns
returns c = record {
  ended = λ o t bytes was. record {
    was = was;
    state = refl;
    same = c.end.ensures.same;
    scope = c.end.ensures.scope;
    found = c.end.ensures.found o bytes was.fed;
    count = c.whole_spectra.ensures.value;
  };
}
