-- A stop at a fault of the inputs.
use Rattle.std.proofs.Common.{◌≡◌, Some, None, Err, refl, sym, subst}
use Rattle.std.specs.Prelude.{Option}
use Rattle.search_words.specs.declared.fault.WordFault.{WordFault}
use Rattle.search_words.specs.declared.fault.WordFault.TheVariants as words_fault
use Rattle.run_outcome.specs.Conversions.{stop_of_words}
use Rattle.run_outcome.specs.declared.stop.Stop.{Stop}
use Rattle.run_outcome.specs.declared.stop.Stop.TheVariants.{ReadFault}
use Rattle.drive_lone.specs.declared.stop.LoneStop.{LoneStop}
use Rattle.drive_lone.specs.declared.stop.LoneStop.TheVariants.{Run}
use Rattle.drive_lone.specs.Stops.{FailsReading}
use Rattle.psr_mask.specs.Ends.{as_alone}
use Rattle.psr_mask.specs.declared.refusal.MaskRefusal.{MaskRefusal}

-- words that are refused are no fault of the inputs
pub not_words : (f : WordFault) (stop : Stop) → stop ≡ stop_of_words f →
    as_alone (Some stop) ≡ Some (Run ReadFault) → ⊥
not_words words_fault.Refused stop of same = absurd cc
not_words fault stop of same = absurd cc

-- a search that had no session fails reading at this stop
pub fails : (stop : LoneStop MaskRefusal) → Some stop ≡ Some (Run ReadFault) → FailsReading (Err stop)
fails stop is =
    let Fails : LoneStop MaskRefusal → Type 0 = λ x. FailsReading (Err x) in
    let same : stop ≡ Run ReadFault = cc in
    subst Fails (sym same) refl

-- a stop of any run that is this one
pub of_alone : (stop : Option Stop) → as_alone stop ≡ Some (Run ReadFault) → stop ≡ Some ReadFault
of_alone None e = absurd cc
of_alone (Some stop) e = cc
