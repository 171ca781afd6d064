use Rattle.std.proofs.Common.{◌≡◌, ◌+◌, ℕ, drop, length}
use Rattle.psr_base.specs.Told.{Told}
use Rattle.search_words.specs.Settings.{settings_seen}
use Rattle.psr_beams.specs.Engines.{HaveEngines}
use Rattle.psr_beams.specs.Joined.{CanJoinAll, AreJoined}
use Rattle.psr_beams.proofs.opened.open_beams.Given as goal

-- the beams before are opened, and the engines and the feeders of the others are left
abbrev pub invariant-loop-place : goal.invariant-loop-place
invariant-loop-place l = record {
  left : length l.engines.items + l._place ≡ length l.fn.feeders.items;
  feeders : l.feeders.items ≡ drop l._place l.fn.feeders.items;
  count : length l.beams.items ≡ l._place;
  engines : HaveEngines l.settings.search l.observation l.engines.items;
  joined : (told : ℕ → Told) (count : ℕ) →
      CanJoinAll told (settings_seen l.settings) l.observation count l.fn.feeders.items →
      AreJoined told (settings_seen l.settings) l.observation l._place l.fn.feeders.items l.beams.items;
}
