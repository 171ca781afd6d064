-- What a levelling left of its inputs, by its status.
use Rattle.std.proofs.Common.{◌≡◌, ◌≢◌, ◌⊎◌, ℕ, List, [], ◌∷◌, Option, Some, None, length, inl, inr, refl, sym, ap, ◌∙◌, subst, arith}
use Rattle.psr_base.specs.Told.{Told}
use Rattle.psr_base.specs.Written.{SinkSeen}
use Rattle.search_words.specs.Settings.{RunInRange}
use Rattle.stream_model.specs.Walk.{FileStream}
use Rattle.stream_model.specs.WalkLaws.{AreWalked}
use Rattle.run_outcome.specs.declared.stop.Stop.{Stop}
use Rattle.run_outcome.specs.declared.stop.Stop.TheVariants as halts
use Rattle.run_outcome.specs.Ends.{StatusesSayStops}
use Rattle.run_outcome.specs.Firsts.{ReadsFirsts}
use Rattle.run_outcome.specs.Runs.{stream_for}
use Rattle.run_outcome.specs.Texts.{status_of}
use Rattle.search_opening.specs.Settings.{OfRunFirsts}
use Rattle.level_words.specs.declared.fault.LevelFault.{LevelFault}
use Rattle.level_words.specs.declared.fault.LevelFault.TheVariants as faults
use Rattle.level_words.specs.Settings.{LevelSeen, SayLevel}
use Rattle.drive_stream.specs.Endings.{Refused}
use Rattle.drive_stream.specs.Laws.{IsFromOutside, RefusalsAreAnswered}
use Rattle.drive_stream.specs.Outcome.{BreaksStream, LeavesInputs, OfHead, ReadsHead}
use Rattle.drive_stream.specs.Outcome as streamed
use Rattle.drive_stream.specs.declared.stop.StreamStop.{StreamStop}
use Rattle.drive_stream.specs.declared.stop.StreamStop.TheVariants as stream
use Rattle.psr_level.specs.declared.refusal.LevelRefusal.{LevelRefusal}
use Rattle.psr_level.specs.declared.refusal.LevelRefusal.TheVariants.{LongTime}
use Rattle.psr_level.specs.Levels.{CanLevel, Leaves, Refuses, level_block}
use Rattle.psr_level.specs.Notes.{end_status, stop_of_words}
use Rattle.psr_level.specs.Outcome.{EndsLevel, LeavesFiles, ReadsRefused}
use Rattle.psr_level.proofs.Completing.{stream_status}
use Rattle.psr_level.proofs.Ending.{says_once}

-- 5 and 6 are the statuses of want of memory and of a fault of the inputs alone
five : StatusesSayStops → (o : Option (StreamStop LevelRefusal)) → stream_status o ≡ 5 →
    o ≡ Some (stream.Run halts.Memory)
five say (Some (stream.Run stop)) is = ap (λ (x : Stop). Some (stream.Run x)) (say.memory stop is)
five say (Some (stream.Refused LongTime)) is = absurd (omega (arith, is))
five say o is = absurd (omega (arith, is))

six : StatusesSayStops → (o : Option (StreamStop LevelRefusal)) → stream_status o ≡ 6 →
    o ≡ Some (stream.Run halts.ReadFault)
six say (Some (stream.Run stop)) is = ap (λ (x : Stop). Some (stream.Run x)) (say.read_fault stop is)
six say (Some (stream.Refused LongTime)) is = absurd (omega (arith, is))
six say o is = absurd (omega (arith, is))

-- 12 is the status of a mask that is refused alone, and what lies outside has none of those of a refusal
twelve : StatusesSayStops → (o : Option (StreamStop LevelRefusal)) → stream_status o ≡ 12 →
    (refusal : LevelRefusal) × (o ≡ Some (stream.Refused refusal))
twelve say None is = absurd (omega (arith, is))
twelve say (Some (stream.Run stop)) is = absurd (other stop is)
  where
    other : (stop : Stop) → status_of stop ≡ 12 → ⊥
    other halts.Words is = absurd (omega (arith, is))
    other stop is = absurd (omega (arith, is))
twelve say (Some (stream.Refused refusal)) is = (refusal, refl)

not_three : (o : Option (StreamStop LevelRefusal)) → IsFromOutside o → stream_status o ≡ 3 → ⊥
not_three o (inl out) is = let status : stream_status o ≡ 5 = ap stream_status out in absurd (omega (arith, is, status))
not_three o (inr (inl out)) is =
    let status : stream_status o ≡ 6 = ap stream_status out in absurd (omega (arith, is, status))
not_three o (inr (inr out)) is =
    let status : stream_status o ≡ 10 = ap stream_status out in absurd (omega (arith, is, status))

-- a refusal comes before the data
pub reads_refused : (s : LevelSeen) → RefusalsAreAnswered level_block (CanLevel s) (Refuses s) (Leaves s) →
    RunInRange s.run →
    s.run.starts ≡ 0 ∷ [] → (before after : Told) (out_before out_after : SinkSeen)
    (o : Option (StreamStop LevelRefusal)) → EndsLevel s before out_before out_after o →
    streamed.ReadsRefused (Leaves s) s.run before after out_before out_after o → ReadsRefused s before after o
reads_refused s answered range one before after out_before out_after o ends reads = record {
  stopped = stopped;
  refused = λ files are walked refusal refuses. by (stream_for s.run files) (λ other is. stopped other is files are)
      (answered s.run before out_before out_after o (record { range = range; one = ap (length {A = ℕ}) one }) ends files
      are walked refusal refuses);
}
  where
    stopped : (refusal : LevelRefusal) → o ≡ Some (stream.Refused refusal) → ReadsHead s.run before after
    stopped refusal is files are = by_end (reads refusal is files are)
      where
        by_end : ReadsFirsts s.run.names (stream_for s.run files) before after
            ⊎ ((bytes : List ℕ) × OfHead (λ p header. Leaves s p header bytes (Refused refusal) out_before out_after)
            (stream_for s.run files)) → ReadsFirsts s.run.names (stream_for s.run files) before after
        by_end (inl read) = read
        by_end (inr left) = absurd left.1

    by : (w : FileStream) →
        ((other : LevelRefusal) → o ≡ Some (stream.Refused other) → ReadsFirsts s.run.names w before after) →
        ((other : LevelRefusal) × (o ≡ Some (stream.Refused other))
        × OfHead (λ p header. Refuses s p header other) w) ⊎ IsFromOutside o →
        ReadsFirsts s.run.names w before after ⊎ IsFromOutside o
    by w read (inl is) = inl (read is.0 is.1)
    by w read (inr out) = inr out

pub leaves_files : StatusesSayStops → (words : List (List ℕ)) (t : LevelSeen) → SayLevel words t → (is_calm : Type 0)
    (before after : Told) (out_before out_after : SinkSeen) (o : Option (StreamStop LevelRefusal)) (status : ℕ) →
    status ≡ stream_status o →
    LeavesInputs level_block (CanLevel t) (Leaves t) t.run is_calm before after out_before out_after o →
    ReadsRefused t before after o →
    LeavesFiles words is_calm before after out_before out_after status
leaves_files say words t one is_calm before after out_before out_after o status same left reads =
    let First : LevelSeen → Type 0 = λ s. ReadsHead s.run before after in
    let Refused_by : LevelSeen → Type 0 = λ s. OfRunFirsts before s.run (λ w. AreWalked w →
    (refusal : LevelRefusal) → OfHead (λ p header. Refuses s p header refusal) w →
    ReadsFirsts s.run.names w before after) in
    let Broke : LevelSeen → Type 0 = λ s.
    BreaksStream level_block (CanLevel s) (Leaves s) s.run is_calm before after out_before out_after in
    record {
      unread = λ is. by_read First (left.unread (five say o (sym same ∙ is)));
      masked = λ is s says. let refused = twelve say o (sym same ∙ is) in
          subst First (sym (says_once words t s one says)) (reads.stopped refused.0 refused.1);
      refused = λ is s says. subst Refused_by (sym (says_once words t s one says))
          (λ files are walked refusal why. inside (sym same ∙ is) (reads.refused files are walked refusal why));
      broken = λ is s says.
          subst Broke (sym (says_once words t s one says)) (left.broken (six say o (sym same ∙ is)));
    }
  where
    by_read : (P : LevelSeen → Type 0) → (after ≡ before) ⊎ P t →
        (after ≡ before) ⊎ ((s : LevelSeen) → SayLevel words s → P s)
    by_read P (inl none) = inl none
    by_read P (inr read) = inr (λ s says. subst P (sym (says_once words t s one says)) read)

    inside : {P : Type 0} → stream_status o ≡ 3 → P ⊎ IsFromOutside o → P
    inside is (inl read) = read
    inside is (inr out) = absurd (not_three o out is)

-- words that say no settings open no file
pub leaves_unread : (words : List (List ℕ)) (is_calm : Type 0) (told : Told) (seen : SinkSeen) (fault : LevelFault)
    (status : ℕ) → status ≡ end_status (Some (stop_of_words fault)) →
    LeavesFiles words is_calm told told seen seen status
leaves_unread words is_calm told seen fault status same = record {
  unread = λ is. inl refl;
  masked = λ is s says. absurd (two_or_five fault 12 (sym same ∙ is) (λ e. omega (arith, e)) (λ e. omega (arith, e)));
  refused = λ is s says. absurd (two_or_five fault 3 (sym same ∙ is) (λ e. omega (arith, e)) (λ e. omega (arith, e)));
  broken = λ is s says. absurd (two_or_five fault 6 (sym same ∙ is) (λ e. omega (arith, e)) (λ e. omega (arith, e)));
}
  where
    two_or_five : (fault : LevelFault) (n : ℕ) → end_status (Some (stop_of_words fault)) ≡ n → n ≢ 2 → n ≢ 5 → ⊥
    two_or_five faults.Refused n is two five = two (sym is)
    two_or_five (faults.OutOfRange opt) n is two five = two (sym is)
    two_or_five faults.Memory n is two five = five (sym is)
