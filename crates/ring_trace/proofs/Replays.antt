-- A replay goes on by one line.
use Rattle.std.specs.Prelude.{ℕ, List, [], ◌∷◌, ◌++◌}
use Rattle.std.specs.List.{flat_map}
use Rattle.std.proofs.Common.{refl, sym, ap, subst, ◌∙◌}
use Rattle.std.proofs.lemmas.List.{append-nil}
use Rattle.std.proofs.lemmas.Grind.{flat_map-append}
use Rattle.ring_core.specs.Machine.{Machine, Event, Answer, Does, Runs}
use Rattle.ring_core.specs.State.{CoreState}
use Rattle.ring_core.specs.declared.Shape.{Shape}
use Rattle.ring_trace.specs.Events.{AsksFor, answer_line}
use Rattle.ring_trace.specs.Trace.{AskFor}
use Rattle.ring_trace.specs.Replay.{IsStep, IsReplayed}

ask_on : (readers : ℕ) (lines : List (List ℕ)) (events : List (Event ℕ)) (line : List ℕ) (event : Event ℕ) →
    AskFor readers lines events → AsksFor readers line event →
    AskFor readers (lines ++ line ∷ []) (events ++ event ∷ [])
ask_on readers [] [] line event asked asks = (asks, tt)
ask_on readers [] (e ∷ events) line event asked asks = absurd asked
ask_on readers (l ∷ lines) [] line event asked asks = absurd asked
ask_on readers (l ∷ lines) (e ∷ events) line event asked asks =
    (asked.0, ask_on readers lines events line event asked.1 asks)

runs_on : (buffers limit : ℕ) (m : Machine ℕ) (events : List (Event ℕ)) (answers : List (Answer ℕ)) (n : Machine ℕ)
    (e : Event ℕ) (a : Answer ℕ) (after : Machine ℕ) →
    Runs buffers limit m events answers n → Does buffers limit n e a after →
    Runs buffers limit m (events ++ e ∷ []) (answers ++ a ∷ []) after
runs_on buffers limit m [] [] n e a after is does = (
  after,
  (let P : Machine ℕ → Type 0 = λ x. Does buffers limit x e a after in subst P is does),
  refl,
)
runs_on buffers limit m [] (b ∷ answers) n e a after runs does = absurd runs
runs_on buffers limit m (f ∷ events) [] n e a after runs does = absurd runs
runs_on buffers limit m (f ∷ events) (b ∷ answers) n e a after (k, first, runs) does =
    (k, first, runs_on buffers limit k events answers n e a after runs does)

pub replay_none : (readers : ℕ) (ring : CoreState) → IsReplayed readers ring [] ring []
replay_none readers ring = record { events = []; answers = []; asked = tt; shape = refl; runs = refl; said = refl }

pub replay_on : (readers : ℕ) (old : CoreState) (lines : List (List ℕ)) (mid : CoreState) (text : List ℕ)
    (line : List ℕ) (new : CoreState) (longer : List ℕ) →
    IsReplayed readers old lines mid text → IsStep readers line mid new text longer →
    IsReplayed readers old (lines ++ line ∷ []) new longer
replay_on readers old lines mid text line new longer r s = record {
  events = r.events ++ s.event ∷ [];
  answers = r.answers ++ s.answer ∷ [];
  asked = ask_on readers lines r.events line s.event r.asked s.asked;
  shape = s.steps.shape ∙ r.shape;
  runs = runs_on old.shape.buffers old.shape.max_blocks old.machine r.events r.answers mid.machine s.event s.answer
      new.machine r.runs
      (let P : Shape → Type 0 = λ x. Does x.buffers x.max_blocks mid.machine s.event s.answer new.machine in
      subst P r.shape s.steps.does);
  said = s.said ∙ (ap (λ t. t ++ answer_line s.answer) r.said
      ∙ (ap (λ t. flat_map answer_line r.answers ++ t) (sym (append-nil (answer_line s.answer)))
      ∙ sym (flat_map-append answer_line r.answers (s.answer ∷ []))));
}
