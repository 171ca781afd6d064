-- The fault of clap's error.
use Rattle.std.proofs.Common.{◌≡◌, ◌⊎◌, inl, inr, List, refl}
use Rattle.std.specs.Prelude.{[], ◌∷◌, true}
use Rattle.clap.specs.Walk.{Text}
use Rattle.clap.specs.Kinds.{Kinds, IsAmong}
use Rattle.clap.specs.Faults.{is_simple_and_free}
use Rattle.clap.specs.declared.error.kind.ErrorKind.{ErrorKind}
use Rattle.clap.specs.declared.error.kind.ErrorKind.TheVariants.{OutOfMemory}
use Rattle.search_words.specs.declared.table.Program.{Program}
use Rattle.search_words.specs.declared.table.Program.TheVariants.{PsrSearch, PsrRecord}
use Rattle.search_words.specs.Command.{TakesWords, command_of}
use Rattle.search_words.specs.Settings.{ExplainsWords, fault_of_kind}

none_among : (kind : ErrorKind) (kinds : Kinds) → IsAmong kind kinds → ¬ (kinds ≡ [])
none_among kind [] among = absurd among
none_among kind (k ∷ kinds) among = λ e. cc

-- an error of one of the kinds
pub explained : (program : Program) (words : List Text) (kind : ErrorKind) (kinds : Kinds) →
    (TakesWords program words → kinds ≡ []) → (kind ≡ OutOfMemory) ⊎ IsAmong kind kinds →
    ExplainsWords program words (fault_of_kind kind)
explained program words OutOfMemory kinds empty has = tt
explained program words kind kinds empty (inr among) = λ taken. none_among kind kinds among (empty taken)
explained program words kind kinds empty (inl same) = cc

-- the commands are of the kind whose matches clap tells
pub simple_and_free : (program : Program) → is_simple_and_free (command_of program) ≡ true
simple_and_free PsrSearch = refl
simple_and_free PsrRecord = refl
