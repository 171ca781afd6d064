-- What stands against a levelling is answered.
use Rattle.std.proofs.Common.{◌≡◌, ◌⊎◌, ℕ, List, [], ◌∷◌, Option, Some, None, length, inl, inr, refl, sym, ap, ◌∙◌}
use Rattle.std.specs.Prelude.{option_map}
use Rattle.psr_base.specs.Told.{Told}
use Rattle.psr_base.specs.Written.{SinkSeen}
use Rattle.search_words.specs.Settings.{RunInRange}
use Rattle.stream_model.specs.Walk.{FileStream}
use Rattle.disk_feeder.specs.declared.answers.HeaderCause.{HeaderCause}
use Rattle.run_outcome.specs.declared.stop.Stop.{Stop}
use Rattle.run_outcome.specs.declared.stop.Stop.TheVariants as halts
use Rattle.run_outcome.specs.Runs.{stream_for}
use Rattle.run_outcome.specs.Texts.{status_of}
use Rattle.level_words.specs.declared.opt.Opt.{Opt}
use Rattle.level_words.specs.declared.fault.LevelFault.{LevelFault}
use Rattle.level_words.specs.declared.fault.LevelFault.TheVariants as faults
use Rattle.level_words.specs.Settings.{LevelSeen, SayLevel, ExplainsLevel}
use Rattle.drive_stream.specs.Laws.{AcceptedGoesThrough, HeadersAreAnswered, RefusalsAreAnswered, StopsAreAnswered, IsFromOutside, RefusesAtEnd}
use Rattle.drive_stream.specs.Opening.{IsOfOne}
use Rattle.drive_stream.specs.Outcome.{OfHead}
use Rattle.drive_stream.specs.Stops.{as_run}
use Rattle.drive_stream.specs.declared.stop.StreamStop.{StreamStop}
use Rattle.drive_stream.specs.declared.stop.StreamStop.TheVariants as stream
use Rattle.psr_level.specs.declared.refusal.LevelRefusal.{LevelRefusal}
use Rattle.psr_level.specs.declared.refusal.LevelRefusal.TheVariants.{LongTime, BadMask, NoRoom}
use Rattle.psr_level.specs.Complete.{IsComplete, IsOutside}
use Rattle.psr_level.specs.Levels.{CanLevel, Leaves, Refuses, level_block}
use Rattle.psr_level.specs.Notes.{end_status, stop_of_stream, stop_of_words}
use Rattle.psr_level.specs.Outcome.{EndsLevel}

-- the status of a stream
abbrev pub stream_status : Option (StreamStop LevelRefusal) → ℕ
stream_status o = end_status (option_map stop_of_stream o)

outside : (o : Option (StreamStop LevelRefusal)) → IsFromOutside o → IsOutside (stream_status o)
outside o (inl is) = inl (ap stream_status is)
outside o (inr (inl is)) = inr (inl (ap stream_status is))
outside o (inr (inr is)) = inr (inr (ap stream_status is))

refused : (o : Option (StreamStop LevelRefusal)) (refusal : LevelRefusal) → o ≡ Some (stream.Refused refusal) →
    (stream_status o ≡ 3) ⊎ ((stream_status o ≡ 12) ⊎ IsOutside (stream_status o))
refused o LongTime is = inl (ap stream_status is)
refused o (BadMask fault) is = inr (inl (ap stream_status is))
refused o (NoRoom need size) is = inl (ap stream_status is)

module _ (s : LevelSeen) (goes : AcceptedGoesThrough level_block (CanLevel s) (Refuses s) (Leaves s))
    (headed : HeadersAreAnswered level_block (CanLevel s) (Refuses s) (Leaves s))
    (refuses : RefusalsAreAnswered level_block (CanLevel s) (Refuses s) (Leaves s))
    (stops : StopsAreAnswered level_block (CanLevel s) (Refuses s) (Leaves s)) (range : RunInRange s.run)
    (one : s.run.starts ≡ 0 ∷ []) (told : Told) (before after : SinkSeen) (o : Option (StreamStop LevelRefusal))
    (ends : EndsLevel s told before after o) where
  of_one : IsOfOne s.run
  of_one = record { range = range; one = ap (length {A = ℕ}) one }

  through : (w : FileStream) →
      (o ≡ None) ⊎ (RefusesAtEnd (Leaves s) w before after o ⊎ IsFromOutside o) →
      (stream_status o ≡ 0) ⊎ IsOutside (stream_status o)
  through w (inl none) = inl (ap stream_status none)
  through w (inr (inl at_end)) = absurd at_end.2
  through w (inr (inr out)) = inr (outside o out)

  at_header : ((k : ℕ) × (other : HeaderCause) × (o ≡ Some (stream.Run (halts.Header k other)))) ⊎ IsFromOutside o →
      (stream_status o ≡ 3) ⊎ IsOutside (stream_status o)
  at_header (inl is) = inl (ap stream_status is.2)
  at_header (inr out) = inr (outside o out)

  at_refusal : (w : FileStream) → ((other : LevelRefusal) × (o ≡ Some (stream.Refused other))
      × OfHead (λ p header. Refuses s p header other) w) ⊎ IsFromOutside o →
      (stream_status o ≡ 3) ⊎ ((stream_status o ≡ 12) ⊎ IsOutside (stream_status o))
  at_refusal w (inl is) = refused o is.0 is.1
  at_refusal w (inr out) = inr (inr (outside o out))

  at_stop : (walk : Option Stop) (stop : Stop) → walk ≡ Some stop → (o ≡ as_run walk) ⊎ IsFromOutside o →
      (stream_status o ≡ status_of stop) ⊎ IsOutside (stream_status o)
  at_stop walk stop same (inl is) = inl (ap stream_status (is ∙ ap as_run same))
  at_stop walk stop same (inr out) = inr (outside o out)

  pub is_complete : IsComplete s told (stream_status o)
  is_complete = record {
    accepted = λ files are walked can whole. through (stream_for s.run files)
        (goes s.run told before after o of_one ends files are walked can whole);
    headers = λ files are file cause refused.
        at_header (headed s.run told before after o of_one ends files are file cause refused);
    refusals = λ files are walked refusal why. at_refusal (stream_for s.run files)
        (refuses s.run told before after o of_one ends files are walked refusal why);
    stops = λ file below files are walked can passed at stop is same.
        at_stop _ stop same (stops s.run told before after o of_one ends file below files are walked can passed at is);
  }

-- words that say no settings are answered, or there was no memory
pub complete_at_words : (words : List (List ℕ)) (fault : LevelFault) → ExplainsLevel words fault → (s : LevelSeen) →
    SayLevel words s → (told : Told) → IsComplete s told (end_status (Some (stop_of_words fault)))
complete_at_words words faults.Refused none s says told = absurd (none says.taken)
complete_at_words words (faults.OutOfRange opt) out s says told = absurd (never opt (sym says.in_range ∙ out.1))
  where
    never : (x : Opt) → None ≡ Some x → ⊥
    never x is = absurd cc
complete_at_words words faults.Memory none s says told = record {
  accepted = λ files are walked can whole. inr (inl refl);
  headers = λ files are file cause refused. inr (inl refl);
  refusals = λ files are walked refusal why. inr (inr (inl refl));
  stops = λ file below files are walked can passed at stop is same. inr (inl refl);
}
