-- Worked values.
use Rattle.std.specs.Prelude.{◌≡◌, List, [], ◌∷◌, true, false, Some, None, codes, refl}
use Rattle.clap.proofs.OnLiterals.{clap_on_literals}
use Rattle.clap.specs.Walk.{Text}
use Rattle.clap.specs.Faults.{fault_of}
use Rattle.clap.specs.declared.error.kind.ErrorKind.TheVariants.{UnknownArgument, ArgumentConflict, MissingRequiredArgument}
use Rattle.dada_model.specs.Number.{number_value}
use Rattle.search_words.specs.declared.opt.Opt.TheVariants.{MinDelay, Snr, Mean}
use Rattle.search_words.specs.declared.table.Program.TheVariants.{PsrSearch, PsrRecord}
use Rattle.search_words.specs.Command.{TakesWords, IsSimpleLine, command_of, matches_on}
use Rattle.search_words.specs.Values.{first_out_of_range, option_number, files_of}
use Rattle.search_words.specs.Transfers.{file_names, starts_in, files_fit}
use Rattle.search_words.specs.Settings.{is_recording}

-- the words of a search with a mean and a deviation, and more
abbrev search_line : List Text → List Text
search_line more = codes "psr_search" ∷ codes "--mean" ∷ codes "1" ∷ codes "--sd" ∷ codes "2" ∷ more

-- an option after its `=`, and names that another option parts
abbrev snr_line : List Text
snr_line = search_line (codes "a" ∷ codes "--snr=7.129" ∷ codes "--record" ∷ codes "b" ∷ [])

snr_is_simple : IsSimpleLine PsrSearch snr_line
unfolding clap_on_literals
snr_is_simple = refl

snr_is_taken : TakesWords PsrSearch snr_line
unfolding clap_on_literals
snr_is_taken = refl

snr_in_hundredths : option_number PsrSearch (matches_on PsrSearch snr_line) Snr ≡ 712
unfolding clap_on_literals number_value
snr_in_hundredths = refl

snr_names : files_of (matches_on PsrSearch snr_line) ≡ codes "a" ∷ codes "b" ∷ []
unfolding clap_on_literals
snr_names = refl

snr_records : is_recording PsrSearch (matches_on PsrSearch snr_line) ≡ true
unfolding clap_on_literals
snr_records = refl

snr_fits : first_out_of_range PsrSearch (matches_on PsrSearch snr_line) ≡ None
unfolding clap_on_literals number_value
snr_fits = refl

-- the first in the table's order, and the least delay above the greatest
least_above_greatest : first_out_of_range PsrSearch (matches_on PsrSearch
    (search_line (codes "--snr" ∷ codes "0" ∷ codes "--min-delay=5" ∷ codes "--max-delay=4"
    ∷ codes "a" ∷ [])))
    ≡ Some MinDelay
unfolding clap_on_literals number_value
least_above_greatest = refl

-- a minus begins an option, but after `=` it is a sign
minus_begins_an_option : fault_of (command_of PsrSearch)
    (codes "psr_search" ∷ codes "--mean" ∷ codes "-1" ∷ [])
    ≡ UnknownArgument ∷ []
unfolding clap_on_literals
minus_begins_an_option = refl

minus_after_equals : first_out_of_range PsrSearch (matches_on PsrSearch
    (codes "psr_search" ∷ codes "--sd=2" ∷ codes "--mean=-1" ∷ codes "a" ∷ [])) ≡ Some Mean
unfolding clap_on_literals number_value
minus_after_equals = refl

given_twice : fault_of (command_of PsrSearch)
    (search_line (codes "--sd" ∷ codes "2" ∷ codes "a" ∷ []))
    ≡ ArgumentConflict ∷ []
unfolding clap_on_literals
given_twice = refl

mean_is_missing : fault_of (command_of PsrSearch)
    (codes "psr_search" ∷ codes "--sd" ∷ codes "2" ∷ codes "a" ∷ [])
    ≡ MissingRequiredArgument ∷ []
unfolding clap_on_literals
mean_is_missing = refl

no_mean_in_a_recording : fault_of (command_of PsrRecord)
    (codes "psr_record" ∷ codes "--mean=1" ∷ codes "a" ∷ [])
    ≡ UnknownArgument ∷ []
unfolding clap_on_literals
no_mean_in_a_recording = refl

-- two transfers, of two names and of one
two_transfers : starts_in (codes "a" ∷ codes "b" ∷ codes "+" ∷ codes "c" ∷ []) ≡ 0 ∷ 2 ∷ []
two_transfers = refl

their_names : file_names (codes "a" ∷ codes "b" ∷ codes "+" ∷ codes "c" ∷ [])
    ≡ codes "a" ∷ codes "b" ∷ codes "c" ∷ []
their_names = refl

nameless : files_fit (codes "a" ∷ codes "+" ∷ codes "+" ∷ codes "c" ∷ []) ≡ false
nameless = refl
