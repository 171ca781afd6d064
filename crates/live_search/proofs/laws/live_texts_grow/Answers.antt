use Rattle.live_search.proofs.Growing.{nothing_yet, so_far_grows, stopped_grows, whole_grows}
use Rattle.live_search.proofs.laws.live_texts_grow.Goals as goal

pub returns : goal.returns
returns c = record {
  so_far = λ l from few spectra list some less. so_far_grows l some from list few spectra less;
  whole = λ l from few spectra list some less. whole_grows l some from list few spectra less;
  stopped = λ l from few spectra list some less. stopped_grows l some from list few spectra less;
  none = λ l from spectra list some few. nothing_yet l some from list spectra few;
}
