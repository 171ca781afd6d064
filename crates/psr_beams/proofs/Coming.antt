-- What a beam came to, said of its file.
use Rattle.std.proofs.Common.{◌≡◌, ◌≢◌, ℕ, List, [], ◌∷◌, length, Option, Some, None, refl, sym, ap, subst, ◌∙◌, arith}
use Rattle.psr_base.specs.Told.{Told}
use Rattle.dada_model.specs.Observation.{Observation}
use Rattle.search_words.specs.Settings.{SettingsSeen}
use Rattle.stream_model.specs.Blocks.{joined_data}
use Rattle.stream_model.specs.Walk.{FileStream, transfer_data, walk_data, walk_stop}
use Rattle.disk_feeder.specs.declared.answers.FeedEnd.{FeedEnd}
use Rattle.disk_feeder.specs.declared.answers.FeedEnd.TheVariants.{ReadFault, TooLong}
use Rattle.disk_feeder.specs.Ends.{end_of}
use Rattle.disk_feeder.specs.declared.feeder.FeederSpace.{FeederSpace}
use Rattle.disk_feeder.specs.Feeder.{plan_at, FeederRead}
use Rattle.disk_feeder.specs.Feeding.{EndIs, IsWalkEnd, SealedAs}
use Rattle.disk_feeder.specs.Plan.{Plan, stream_of, AreTold}
use Rattle.disk_feeder.specs.Resting.{at_rest}
use Rattle.beam_set.specs.declared.beam.Beam.{Beam}
use Rattle.beam_set.specs.declared.ended.BeamEnd.{BeamEnd}
use Rattle.beam_set.specs.Beam.{feeder_in}
use Rattle.beam_set.specs.Answers.{BeamAnswers, session_of}
use Rattle.beam_set.specs.Sets.{SlotAnswers}
use Rattle.search_session.specs.Sessions.{data_through}
use Rattle.psr_beams.specs.Feeders.{SlotBegun}
use Rattle.psr_beams.specs.Engines.{IsBeamOf}
use Rattle.psr_beams.specs.Joined.{IsSlotJoined}
use Rattle.psr_beams.specs.Driven.{HasCome, HasSlotCome, SlotBreaks}
use Rattle.psr_beams.proofs.OneFile.{one_told, one_needed, holds_one, stream_is, one_data, one_broken}

-- the end is that of the walk where the inputs did not fail
walk_end : (w : FileStream) (size : ℕ) (blocks : _) (end : FeedEnd) → EndIs w size blocks end →
    end ≢ ReadFault → IsWalkEnd w size blocks end
walk_end w size blocks ReadFault is not = absurd (not refl)
walk_end w size blocks end is not = is

-- the limit of an end at too many data is that of the plan
told_limit : (plan : Plan) (size : ℕ) (before : List (List ℕ)) (current : List ℕ) (headers blocks : _)
    (end : FeedEnd) (limit : ℕ) → SealedAs plan size before current headers blocks end → end ≡ TooLong limit →
    limit ≡ plan.max_bytes
told_limit plan size before current headers blocks end limit sealed is =
    (subst (λ e. SealedAs plan size before current headers blocks e) is sealed).3

module _ {I : Type 0} (told : I → Told) (is_calm : I → Type 0) (faults : I → ℕ) (s : SettingsSeen) (o : Observation)
    (name : List ℕ) (before after : I) where
  pub has_come : (beam : Beam) (end : BeamEnd) → s.starts ≡ 0 ∷ [] → IsBeamOf (told before) s o name beam →
      BeamAnswers told is_calm faults beam before after end →
      HasCome told is_calm faults s o name before after end
  has_come beam end one is answers =
      let plan = plan_at (at_rest (feeder_in beam)) in
      let feed = answers.feed in
      let starts : plan.starts ≡ 0 ∷ [] = is.plan.transfers ∙ one in
      let Under : (List ℕ → Option (List ℕ)) → List ℕ → Type 0 = λ under file. under name ≡ Some file in
      record {
        read = record {
          names = feed.names;
          count = feed.count;
          rose = feed.failed;
          quiet = feed.quiet;
          calm = feed.calm;
        };
        serves = λ calm there. feed.serves calm
            (rw is.plan.files (holds_one name (told before) there));
        walked = λ not file at.
            let now = subst (λ under. Under under file) (sym feed.names) at in
            let ended = walk_end (stream_of plan (file ∷ [])) _ _ end.feed (feed.sealed.known (file ∷ [])
            (one_needed plan.names name file (told after) is.plan.files now)) not in
            let same = stream_is plan s file starts is.plan.limit in
            let walk = stream_of plan (file ∷ []) in
            let total = length (joined_data (walk_data walk)) in (
              total,
              ended.is ∙ ap (λ n. end_of total n (walk_stop walk)) is.plan.limit
                  ∙ ap (λ (w : FileStream). end_of total s.max_bytes (walk_stop w)) same,
            );
        limit = λ limit is_long. told_limit plan _ _ _ _ _ end.feed limit feed.sealed.sealed is_long ∙ is.plan.limit;
        bytes = data_through (session_of after end answers.blocks) 0;
        held = λ n whole. answers.held s.search o n whole is.searches;
        known = λ n whole file at.
            let now = subst (λ under. Under under file) (sym feed.names) at in
            let are : AreTold (told after) plan.names (file ∷ []) =
            rw is.plan.files (one_told name file (told after) now) in
            let count : length plan.starts ≡ 1 = ap length starts in
            let same = stream_is plan s file starts is.plan.limit in
            feed.walked n whole (file ∷ []) are 0 (omega (arith, count))
            ∙ ap (λ (w : FileStream). transfer_data w 0) same ∙ one_data s file;
      }

  -- what is left where its inputs failed, of what they told at its start
  beam_breaks : (start : Told) (beam : Beam) (end : BeamEnd) → s.starts ≡ 0 ∷ [] →
      IsBeamOf (told before) s o name beam → BeamAnswers told is_calm faults beam before after end →
      FeederRead start (told before) (at_rest (feeder_in beam)) →
      SlotBreaks s.max_bytes start (told before) name (told after) (Some end)
  beam_breaks start beam end one is answers reads failed file at =
      let plan = plan_at (at_rest (feeder_in beam)) in
      let feed = answers.feed in
      let Under : (List ℕ → Option (List ℕ)) → List ℕ → Type 0 = λ under f. under name ≡ Some f in
      let now = subst (λ under. Under under file) (sym feed.names) at in
      one_broken plan s name file is.plan.files (is.plan.transfers ∙ one) is.plan.limit start (told after) now
      (is_calm before) feed.place _ _ (feed.broke failed start reads)

  pub slot_breaks : (is_open : I → Type 0) (start : I) (slot : Option FeederSpace) (beam : Option Beam)
      (end : Option BeamEnd) → s.starts ≡ 0 ∷ [] → IsSlotJoined (told before) s o name slot beam →
      SlotAnswers told is_calm faults beam before after end → SlotBegun told is_open s name start before slot →
      SlotBreaks s.max_bytes (told start) (told before) name (told after) end
  slot_breaks is_open start (Some f) (Some b) (Some e) one joined answers begun =
      beam_breaks (told start) b e one joined.beam_is answers (joined.reads_on (told start) (told before) begun.reads)
  slot_breaks is_open start None beam end one joined answers begun = absurd joined
  slot_breaks is_open start (Some f) None end one joined answers begun = absurd joined
  slot_breaks is_open start (Some f) (Some b) None one joined answers begun = tt

  pub slot_come : (slot : Option FeederSpace) (beam : Option Beam) (end : Option BeamEnd) → s.starts ≡ 0 ∷ [] →
      IsSlotJoined (told before) s o name slot beam → SlotAnswers told is_calm faults beam before after end →
      HasSlotCome told is_calm faults s o name before after end
  slot_come None beam end one joined answers = absurd joined
  slot_come (Some f) None end one joined answers = absurd joined
  slot_come (Some f) (Some b) None one joined answers = absurd answers
  slot_come (Some f) (Some b) (Some e) one joined answers = has_come b e one joined.beam_is answers
