-- The command, and the fault of clap's error.
use Rattle.std.proofs.Common.{◌≡◌, ◌⊎◌, inl, inr, ℕ, ◌+◌, ◌<◌, List, [], ◌∷◌, ◌++◌, length, take, map, get_or, refl, ap, ◌∙◌, add-one, true}
use Rattle.std.proofs.Math.Seq.{take-suc}
use Rattle.std.proofs.lemmas.List.{map-append}
use Rattle.clap.specs.Walk.{Text}
use Rattle.clap.specs.Kinds.{Kinds, IsAmong}
use Rattle.clap.specs.Simple.{is_simple}
use Rattle.clap.specs.Faults.{is_simple_and_free}
use Rattle.clap.specs.declared.error.kind.ErrorKind.{ErrorKind}
use Rattle.clap.specs.declared.error.kind.ErrorKind.TheVariants.{OutOfMemory}
use Rattle.level_words.specs.declared.opt.Opt.{Opt}
use Rattle.level_words.specs.Command.{option_rule, level_command, TakesWords}
use Rattle.level_words.specs.Settings.{ExplainsClap, fault_of_kind}

-- one more option
pub rules_more : (opts : List Opt) (i : ℕ) (d : Opt) → i < length opts →
    map option_rule (take (i + 1) opts) ≡ map option_rule (take i opts) ++ option_rule (get_or opts i d) ∷ []
rules_more opts i d within =
    let split : take (i + 1) opts ≡ take i opts ++ get_or opts i d ∷ [] = rw add-one (take-suc opts i d within) in
    ap (map option_rule) split ∙ map-append option_rule (take i opts) (get_or opts i d ∷ [])

none_among : (kind : ErrorKind) (kinds : Kinds) → IsAmong kind kinds → ¬ (kinds ≡ [])
none_among kind [] among = absurd among
none_among kind (k ∷ kinds) among = λ e. cc

-- an error of one of the kinds
pub explained : (words : List Text) (kind : ErrorKind) (kinds : Kinds) → (TakesWords words → kinds ≡ []) →
    (kind ≡ OutOfMemory) ⊎ IsAmong kind kinds → ExplainsClap words (fault_of_kind kind)
explained words OutOfMemory kinds empty has = tt
explained words kind kinds empty (inr among) = λ taken. none_among kind kinds among (empty taken)
explained words kind kinds empty (inl same) = cc

-- the command is of the kind whose matches clap tells
pub simple_and_free : is_simple_and_free level_command ≡ true
unfolding level_command
simple_and_free = refl

pub simple : is_simple level_command ≡ true
unfolding level_command
simple = refl
