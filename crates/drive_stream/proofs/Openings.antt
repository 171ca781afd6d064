-- What is opened of the first file, or why nothing is.
use Rattle.std.proofs.Common.{◌≡◌, ℕ, ◌≤◌, true, List, [], ◌∷◌, Option, Some, Result, Ok, Err, length, map, refl, sym, ap, ◌∙◌, subst, arith}
use Rattle.std.specs.Prelude.{IfErr, min, slice_get}
use Rattle.std.proofs.lemmas.List.{length-map}
use Rattle.psr_base.specs.Told.{Told}
use Rattle.dada_model.specs.Bounds.{ObservationInRange}
use Rattle.dada_model.specs.Fields.{HeaderText}
use Rattle.dada_model.specs.Observation.{Observation}
use Rattle.dada_recorder.specs.Blocks.{header_or_none}
use Rattle.search_words.specs.Settings.{RunSeen}
use Rattle.stream_model.specs.Walk.{FileStream}
use Rattle.disk_feeder.specs.declared.feeder.Feeder.{Feeder}
use Rattle.disk_feeder.specs.declared.place.Place.{Place}
use Rattle.disk_feeder.specs.Feeder.{HasPlan, IsBegun, IsCutTo, headers_of}
use Rattle.disk_feeder.specs.Plan.{Plan}
use Rattle.run_outcome.specs.declared.stop.Stop.{Stop}
use Rattle.run_outcome.specs.declared.stop.Stop.TheVariants.{Memory, ReadFault}
use Rattle.run_outcome.specs.Firsts.{ReadsFirsts, first_name}
use Rattle.run_outcome.specs.Runs.{OfEachFirst, RecordingAlone, first_observation, stream_for}
use Rattle.search_opening.specs.Begun.{HasFirsts}
use Rattle.search_opening.specs.Early.{EarlyStopsStand}
use Rattle.search_opening.specs.Ended.{FirstsStayTold}
use Rattle.search_opening.specs.Feeders.{HasAcceptedFirsts}
use Rattle.search_opening.specs.First.{AreFirsts, AreFirstsAt, AreObserved}
use Rattle.search_opening.specs.Settings.{OfRunFirsts}
use Rattle.drive_stream.specs.declared.stop.StreamStop.{StreamStop}
use Rattle.drive_stream.specs.declared.stop.StreamStop.TheVariants.{Run, Refused}
use Rattle.drive_stream.specs.Outcome.{BeginsWith, IsHeadOf, OfFirstHead, OfHead, SaysBefore}
use Rattle.drive_stream.specs.Opening.{HasSize, IsOpened, IsReady, LeavesBefore, StopsOpening}
use Rattle.drive_stream.proofs.Told.{file_still, of_head}

-- ---- the one observation

one_of : (said : List Observation) → length said ≡ 1 → (o : Observation) × (said ≡ o ∷ [])
one_of [] one = absurd (omega (arith, one))
one_of (o ∷ []) one = (o, refl)
one_of (o ∷ p ∷ more) one = absurd (omega (arith, one))

pub only_observed : (headers : List HeaderText) (observations : List (Option Observation)) →
    AreObserved headers observations → length headers ≡ 1 → (o : Observation) × (observations ≡ Some o ∷ [])
only_observed headers observations are one =
    let count : length are.said ≡ 1 =
    sym (length-map are.said Ok) ∙ sym (ap length are.accepted) ∙ length-map headers _ ∙ one in
    let only = one_of are.said count in
    (only.0, are.here ∙ ap (map (λ (x : Observation). Some x)) only.1)

pub some_observed : (observations : List (Option Observation)) (o : Observation) → observations ≡ Some o ∷ [] →
    1 ≤ length observations
some_observed observations o is = let count : length observations ≡ 1 = ap length is in omega (arith, count)

first_is : (w : FileStream) (o : Observation) → AreFirsts w (Some o ∷ []) → o ≡ first_observation w 0
first_is w o firsts =
    let one : 1 ≡ length w.starts = firsts.count in
    let at = firsts.each 0 (omega (arith, one)) in
    inside o (first_observation w 0) at
  where
    inside : (a b : Observation) → slice_get (Some a ∷ []) 0 ≡ Some (Some b) → a ≡ b
    inside a b is = cc

-- and that of each place; so is the header
one_place : (o p : Observation) (k : ℕ) → k ≡ 0 → slice_get (Some o ∷ []) k ≡ Some (Some p) → o ≡ p
one_place o p k is there = inside o p (subst (λ i. slice_get (Some o ∷ []) i ≡ Some (Some p)) is there)
  where
    inside : (a b : Observation) → slice_get (Some a ∷ []) 0 ≡ Some (Some b) → a ≡ b
    inside a b at = cc

one_header : (headers : List HeaderText) (h g : HeaderText) (k : ℕ) → k ≡ 0 → slice_get headers 0 ≡ Some h →
    slice_get headers k ≡ Some g → g ≡ h
one_header headers h g k is first there =
    inside (sym (subst (λ i. slice_get headers i ≡ Some g) is there) ∙ first)
  where
    inside : Some g ≡ Some h → g ≡ h
    inside at = cc

-- ---- shorter blocks

pub ready_of : {I : Type 0} (told : I → Told) (size : ℕ) (f g j : Feeder I) → IsCutTo size f g →
    HasAcceptedFirsts told g j → IsReady told f j
ready_of told size f g j cut accepted = record {
  running = accepted.kept.running;
  faultless = accepted.kept.faultless;
  reading = λ has. subst (λ (p : Place). p.is_open ≡ true) cut.place (accepted.kept.reading has);
  hands = (_, accepted.feeds);
  reads_on = λ before now was. accepted.kept.reads_on before now (cut.reads_on before now was);
}

pub still_begun : {I : Type 0} (told : I → Told) (size : ℕ) (f g : Feeder I) → IsCutTo size f g →
    g.inputs.now ≡ f.inputs.now → IsBegun (told f.inputs.now) f → IsBegun (told g.inputs.now) g
still_begun told size f g cut same begun =
    let P : _ → Type 0 = λ i. IsBegun (told i) g in
    subst P (sym same) (cut.begun (told f.inputs.now) begun)

pub still_observed : {I : Type 0} (size : ℕ) (f g : Feeder I) (observations : List (Option Observation)) →
    IsCutTo size f g → AreObserved (headers_of f) observations → AreObserved (headers_of g) observations
still_observed size f g observations cut are =
    let P : Plan → Type 0 = λ p. AreObserved p.headers observations in subst P (sym cut.plan) are

-- ---- the first file

module _ {I : Type 0} (told : I → Told) (is_open : I → Type 0) (s : RunSeen) (f : Feeder I)
    (observations : List (Option Observation)) (begun : HasFirsts told is_open s f observations) (o : Observation)
    (h : HeaderText) (one : observations ≡ Some o ∷ []) (first : slice_get (headers_of f) 0 ≡ Some h) where
  are_first : OfRunFirsts (told f.inputs.now) s (BeginsWith o h)
  are_first files are =
      let w = stream_for s files in
      let Firsts : List (Option Observation) → Type 0 = λ os. AreFirsts w os in
      let firsts = subst Firsts one (begun.firsts files are) in
      record {
        walked = firsts.walked;
        header_is = ap header_or_none (begun.headers files are 0 h first);
        is = sym (first_is w o firsts);
      }

  -- of the file by itself
  is_head : length s.starts ≡ 1 → OfEachFirst (told f.inputs.now) s (IsHeadOf o h)
  is_head single k below file is =
      let Each : List (Option Observation) → Type 0 = λ os.
      AreFirstsAt (told f.inputs.now) s.names s.starts (headers_of f) os in
      let each : Each (Some o ∷ []) = subst Each one begun.each in
      let at = each k below file is in
      let none : k ≡ 0 = omega (arith, below, single) in
      record {
        accepted = record {
          header = at.header;
          observation = at.observation;
          is_header = at.is_header;
          is_observation = at.is_observation;
        };
        header_is = ap header_or_none at.is_header ∙ one_header (headers_of f) h at.header k none first at.there;
        is = sym (one_place o at.observation k none at.said ∙ at.is);
      }

  pub says_before : {F : Type 0} (refuses : Observation → HeaderText → F → Type 0) (stop : StreamStop F) →
      length s.starts ≡ 1 → ObservationInRange o → StopsOpening refuses o h stop →
      SaysBefore refuses s (told f.inputs.now) stop
  says_before {F} refuses (Run stop) single range memory =
      let P : Stop → Type 0 = λ x. SaysBefore refuses s (told f.inputs.now) (Run x) in
      subst P (sym memory) (tt, tt)
  says_before refuses (Refused refusal) single range why = record {
    observation = o;
    header = h;
    range = range;
    holds = why;
    first = (is_head single, are_first);
  }

  pub is_opened : {S : Type 0} (block : Observation → ℕ) (takes : Observation → HeaderText → Type 0)
      (opens : Observation → HeaderText → S → Type 0) (size : ℕ) (new : Feeder I) (stream : S) → HasSize size s.size →
      size ≡ min (block o) s.size →
      HasPlan new s.names s.starts size s.max_bytes → IsReady told f new → new.inputs.now ≡ f.inputs.now →
      takes o h → opens o h stream → IsOpened told is_open block takes opens s new o stream
  is_opened block takes opens size new stream fits cut plan ready same taken opened = record {
    size = size;
    fits = fits;
    cut = cut;
    plan = plan;
    running = ready.running;
    faultless = ready.faultless;
    file = λ has. subst is_open (sym same) (begun.file (ready.reading has));
    hands = ready.hands;
    header = h;
    taken = taken;
    opened = opened;
    firsts = subst Firsts (sym same) are_first;
  }
    where
      Firsts : I → Type 0
      Firsts i = OfRunFirsts (told i) s (BeginsWith o h)

-- want of memory is the only stop of a run at the opening
pub only_memory : {F : Type 0} (refuses : Observation → HeaderText → F → Type 0) (o : Observation) (h : HeaderText)
    (stop : StreamStop F) (what : Stop) → StopsOpening refuses o h stop → stop ≡ Run what → what ≡ Memory
only_memory refuses o h (Run stop) what memory is = let same : stop ≡ what = cc in sym same ∙ memory
only_memory refuses o h (Refused refusal) what why is = absurd cc

-- ---- what is said of the first header

-- it is so of the first file
pub of_first_head : (s : RunSeen) (told : Told) (P : Observation → HeaderText → Type 0) → OfFirstHead s told P →
    OfRunFirsts told s (OfHead P)
of_first_head s told P of files are =
    of_head of.observation of.header (stream_for s files) (of.first.1 files are) P of.holds

-- what is told stays
head_still : FirstsStayTold → (s : RunSeen) (old new : Told) (P : Observation → HeaderText → Type 0) →
    new.bytes_under ≡ old.bytes_under → OfFirstHead s new P → OfFirstHead s old P
head_still stay s old new P same of = record {
  observation = of.observation;
  header = of.header;
  range = of.range;
  holds = of.holds;
  first = (
    λ k below. file_still old new (first_name s.names s.starts k) (IsHeadOf of.observation of.header) same
        (of.first.0 k below),
    λ files are. of.first.1 files (stay s.names s.starts old new files same are),
  );
}

pub says_still : EarlyStopsStand → FirstsStayTold → {F : Type 0} (refuses : Observation → HeaderText → F → Type 0)
    (s : RunSeen) (old new : Told) (stop : StreamStop F) → new.bytes_under ≡ old.bytes_under →
    SaysBefore refuses s new stop → SaysBefore refuses s old stop
says_still stand stay refuses s old new (Run stop) names says =
    (says.0, stand RecordingAlone s old new stop names says.1)
says_still stand stay refuses s old new (Refused refusal) names was =
    head_still stay s old new (λ o header. refuses o header refusal) names was

-- ---- what was read

-- once the first header was read, it stops for want of memory, or for what the program says of it
pub leaves_opening : {I T F : Type 0} (told : I → Told) (is_calm : Type 0) (s : RunSeen) (old mid new : I)
    (r : Result T (StreamStop F)) → OfRunFirsts (told old) s (λ w. ReadsFirsts s.names w (told old) (told mid)) →
    new ≡ mid → ((stop : Stop) → r ≡ Err (Run stop) → stop ≡ Memory) →
    IfErr r (LeavesBefore s is_calm (told old) (told new))
leaves_opening told is_calm s old mid new (Ok opened) only same memory = tt
leaves_opening told is_calm s old mid new (Err (Run stop)) only same memory =
    let Reads : _ → Type 0 = λ i. OfRunFirsts (told old) s (λ w. ReadsFirsts s.names w (told old) (told i)) in
    record {
      unread = λ want. subst Reads (sym same) only;
      broke = λ failed. absurd (other stop (memory stop refl) failed);
    }
  where
    other : (stop : Stop) → stop ≡ Memory → stop ≡ ReadFault → ⊥
    other stop is failed = absurd cc
leaves_opening told is_calm s old mid new (Err (Refused refusal)) only same memory =
    let Reads : _ → Type 0 = λ i. OfRunFirsts (told old) s (λ w. ReadsFirsts s.names w (told old) (told i)) in
    subst Reads (sym same) only
