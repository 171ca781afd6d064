-- Beams that were joined begin their turns, and what they answer is said of their files.
use Rattle.std.proofs.Common.{◌≡◌, ℕ, ◌<◌, ◌≤◌, List, [], ◌∷◌, length, get_or, Option, Some, None, subst, ◌∙◌, arith}
use Rattle.std.proofs.lemmas.List.{get_or_default}
use Rattle.psr_base.specs.Told.{Told, nothing_told}
use Rattle.dada_model.specs.Observation.{Observation}
use Rattle.search_words.specs.Settings.{SettingsSeen}
use Rattle.disk_feeder.specs.declared.feeder.FeederSpace.{FeederSpace}
use Rattle.beam_set.specs.declared.beam.Beam.{Beam}
use Rattle.beam_set.specs.declared.ended.BeamEnd.{BeamEnd}
use Rattle.beam_set.specs.Sets.{SlotBegins, SetBegins, SetAnswers}
use Rattle.psr_beams.specs.Seen.{told_at}
use Rattle.psr_beams.specs.Files.{beam_name}
use Rattle.psr_beams.specs.Feeders.{SlotBegun, AreBegun}
use Rattle.psr_beams.specs.Joined.{IsSlotJoined, AreJoined}
use Rattle.psr_beams.specs.Driven.{HaveCome, HaveBroken}
use Rattle.psr_beams.proofs.Counting.{seen_there}
use Rattle.psr_beams.proofs.Coming.{slot_come, slot_breaks}

module _ {I : Type 0} (told : I → Told) (is_open : I → Type 0) (s : SettingsSeen) (o : Observation) where
  slot_begins : (name : List ℕ) (start x : I) (slot : Option FeederSpace) (beam : Option Beam) →
      IsSlotJoined (told x) s o name slot beam → SlotBegun told is_open s name start x slot →
      SlotBegins told is_open beam x
  slot_begins name start x None beam is begun = absurd is
  slot_begins name start x (Some f) None is begun = absurd is
  slot_begins name start x (Some f) (Some b) is begun = (is.beam_is.begins, λ has. begun.file (is.file has))

  module _ (starts : s.starts ≡ 0 ∷ []) (count : ℕ) (before lent : List I) (enough : count ≤ length lent)
      (slots : List (Option FeederSpace)) (begun : AreBegun told is_open s count before lent slots)
      (beams : List (Option Beam)) (joined : AreJoined (told_at told lent) s o count slots beams) where
    -- the beam at a place is joined over what the inputs there tell
    joined_there : (k : ℕ) (x : I) → k < count →
        IsSlotJoined (told (get_or lent k x)) s o (beam_name s k) (get_or slots k None) (get_or beams k None)
    joined_there k x less =
        subst (λ t. IsSlotJoined t s o (beam_name s k) (get_or slots k None) (get_or beams k None))
        (seen_there told nothing_told lent k x (omega (arith, less, enough))) (joined.each k less)

    pub set_begins : SetBegins told is_open beams lent
    set_begins = record {
      count = let many = joined.many in omega (arith, many, enough);
      each = λ k b x within.
          let many = joined.many in
          let less : k < count = omega (arith, within, many) in
          subst (λ p. SlotBegins told is_open p (get_or lent k x)) (get_or_default beams k None b within)
          (slot_begins (beam_name s k) (get_or before k x) (get_or lent k x) (get_or slots k None)
          (get_or beams k None) (joined_there k x less) (begun.each k x less));
    }

    module _ (is_calm : I → Type 0) (faults : I → ℕ) (after : List I) (ends : List (Option BeamEnd))
        (answers : SetAnswers told is_calm faults beams lent after ends) where
      pub have_come : HaveCome told is_calm faults s o count lent after ends
      have_come = record {
        many = answers.count ∙ joined.many;
        lent = answers.inputs_count;
        each = λ k x less.
            let many = joined.many in
            slot_come told is_calm faults s o (beam_name s k) (get_or lent k x) (get_or after k x)
            (get_or slots k None) (get_or beams k None) (get_or ends k None) starts (joined_there k x less)
            (answers.each k x (omega (arith, less, many)));
        others = λ k x over. let many = joined.many in answers.others k x (omega (arith, over, many));
      }

      -- and what a fault of its inputs leaves of each
      pub have_broken : HaveBroken told s count before lent after ends
      have_broken k x less =
          let many = joined.many in
          slot_breaks told is_calm faults s o (beam_name s k) (get_or lent k x) (get_or after k x) is_open
          (get_or before k x) (get_or slots k None) (get_or beams k None) (get_or ends k None) starts
          (joined_there k x less) (answers.each k x (omega (arith, less, many))) (begun.each k x less)
