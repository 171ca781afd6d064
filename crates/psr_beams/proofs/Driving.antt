-- What a search of beams leaves, said of the words that say its settings.
use Rattle.std.proofs.Common.{◌≡◌, ℕ, ◌≤◌, List, length, get_or, sym, ap, subst, ◌∙◌, inl, inr, Option, Some, true, arith}
use Rattle.std.specs.Option.{unwrap_or}
use Rattle.std.proofs.lemmas.Bool.Decides.{nat_tests}
use Rattle.psr_base.specs.Told.{Told}
use Rattle.psr_base.specs.Written.{SinkSeen}
use Rattle.dada_model.specs.Laws.{AcceptedByRows}
use Rattle.search_words.specs.Settings.{SettingsSeen}
use Rattle.stream_model.specs.WalkLaws.{FirstFilesContinue}
use Rattle.beam_set.specs.Later.{LaterHeadersAgree}
use Rattle.run_outcome.specs.declared.stop.Stop.{Stop}
use Rattle.run_outcome.specs.Ends.{WordsSayOnce}
use Rattle.psr_beams.specs.Words.{SayBeams, searching_beams, is_beam_count, within_in, more_in}
use Rattle.psr_beams.specs.Driven.{IsDriven}
use Rattle.psr_beams.specs.Ends.{Leaves}
use Rattle.psr_beams.proofs.Builders.{Over}
use Rattle.psr_beams.proofs.Stopped.{reading_ends, not_opened}
use Rattle.psr_beams.proofs.Through.{through}

-- ---- what the words say

count_within : (n : ℕ) → is_beam_count n ≡ true → (2 ≤ n) × (n ≤ 7)
count_within n is = (grind (arith, nat_tests), grind (arith, nat_tests))

-- how many beams they may name
pub beams_within : (words : List (List ℕ)) (s : SettingsSeen) → SayBeams words s →
    (2 ≤ length s.names) × (length s.names ≤ 7)
beams_within words s says = count_within (length s.names) says.made

-- the number that an optional one is
pub number_is : (o : Option ℕ) (n : ℕ) → o ≡ Some n → n ≡ unwrap_or o 0
number_is o n is = sym (ap (λ x. unwrap_or x 0) is)

-- ---- the search

module _ {I : Type 0} (told : I → Told) (is_calm : I → Type 0) (faults : I → ℕ) (words : List (List ℕ))
    (once : WordsSayOnce) (s : SettingsSeen) (says : SayBeams words s) (before after : List I)
    (seven : length before ≡ 7) (out out' : SinkSeen) where
  run : Over told is_calm faults words s before
  run =
      let least = (beams_within words s says).0 in
      let most = (beams_within words s says).1 in
      record { once = once; says = says; some = omega (arith, least); enough = omega (arith, most, seven) }

  abbrev LeftAt : Option Stop → Type 0
  LeftAt stop = Leaves told is_calm faults words before after out out' stop

  pub driven_leaves : AcceptedByRows → FirstFilesContinue → LaterHeadersAgree → (within more : ℕ) →
      within ≡ within_in words → more ≡ more_in words → (stop : Option Stop) →
      IsDriven told is_calm faults s within more before after out out' stop → LeftAt stop
  driven_leaves rows continue agree within more a b stop (inl (early, is, r, same)) =
      subst LeftAt (sym is) (reading_ends run same early r)
  driven_leaves rows continue agree within more a b stop (inr (inl (early, is, r, same))) =
      subst LeftAt (sym is) (not_opened run rows r.read same early r.stops)
  driven_leaves rows continue agree within more a b stop (inr (inr g)) =
      through run rows continue agree g.read g.accepted g.fits g.come out out' g.broken stop (rw (a, b) at g.ended)

  -- ---- inputs past the beams

  pub driven_others : (within more : ℕ) (stop : Option Stop) →
      IsDriven told is_calm faults s within more before after out out' stop → (t : SettingsSeen) (k : ℕ) (x : I) →
      SayBeams words t → length t.names ≤ k → get_or after k x ≡ get_or before k x
  driven_others within more stop is t k x said over =
      stand is (subst (λ (u : SettingsSeen). length u.names ≤ k) (once searching_beams words t s said says) over)
    where
      stand : IsDriven told is_calm faults s within more before after out out' stop → length s.names ≤ k →
          get_or after k x ≡ get_or before k x
      stand (inl (early, at, r, same)) past = let there = r.there in r.others k x (omega (arith, there, past))
      stand (inr (inl (early, at, r, same))) past = r.read.read.others k x past
      stand (inr (inr g)) past = g.come.others k x past ∙ g.read.read.others k x past
