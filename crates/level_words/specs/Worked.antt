-- Worked values.
use Rattle.std.specs.Prelude.{◌≡◌, List, [], ◌∷◌, true, false, Some, None, codes, refl}
use Rattle.clap.proofs.OnLiterals.{clap_on_literals}
use Rattle.clap.specs.Walk.{Text}
use Rattle.clap.specs.Faults.{fault_of}
use Rattle.clap.specs.declared.error.kind.ErrorKind.TheVariants.{UnknownArgument, MissingRequiredArgument}
use Rattle.dada_model.specs.Number.{number_value}
use Rattle.level_words.specs.declared.opt.Opt.TheVariants.{Clip, Mean}
use Rattle.level_words.specs.declared.opt.Flag.TheVariants.{Fast, ZeroDm}
use Rattle.level_words.specs.Command.{TakesWords, level_command, matches_on}
use Rattle.level_words.specs.Values.{given_number, is_given, mask_text, files_of, first_out_of_range}

abbrev line : List Text
line = codes "psr_level" ∷ codes "a" ∷ codes "--mean=64.5" ∷ codes "--fast" ∷ codes "b" ∷ []

is_taken : TakesWords line
unfolding clap_on_literals level_command
is_taken = refl

mean_in_thousandths : given_number (matches_on line) Mean ≡ Some 64500
unfolding clap_on_literals level_command number_value
mean_in_thousandths = refl

not_clipped : given_number (matches_on line) Clip ≡ None
unfolding clap_on_literals level_command number_value
not_clipped = refl

is_fast : is_given (matches_on line) Fast ≡ true
unfolding clap_on_literals level_command
is_fast = refl

keeps_the_mean : is_given (matches_on line) ZeroDm ≡ false
unfolding clap_on_literals level_command
keeps_the_mean = refl

names : files_of (matches_on line) ≡ codes "a" ∷ codes "b" ∷ []
unfolding clap_on_literals level_command
names = refl

no_mask : mask_text (matches_on line) ≡ codes "none"
unfolding clap_on_literals level_command
no_mask = refl

fits : first_out_of_range (matches_on line) ≡ None
unfolding clap_on_literals level_command number_value
fits = refl

mean_out_of_range : first_out_of_range (matches_on
    (codes "psr_level" ∷ codes "--mean=-1" ∷ codes "a" ∷ [])) ≡ Some Mean
unfolding clap_on_literals level_command number_value
mean_out_of_range = refl

abbrev clipped : List Text
clipped = codes "psr_level" ∷ codes "--clip" ∷ codes "4.5" ∷ codes "--zero-dm" ∷ codes "a" ∷ []

clip_in_thousandths : given_number (matches_on clipped) Clip ≡ Some 4500
unfolding clap_on_literals level_command number_value
clip_in_thousandths = refl

zero_dm_is_given : is_given (matches_on clipped) ZeroDm ≡ true
unfolding clap_on_literals level_command
zero_dm_is_given = refl

greatest_clip : first_out_of_range (matches_on
    (codes "psr_level" ∷ codes "--clip=1000000" ∷ codes "a" ∷ [])) ≡ None
unfolding clap_on_literals level_command number_value
greatest_clip = refl

clip_out_of_range : first_out_of_range (matches_on
    (codes "psr_level" ∷ codes "--clip=1000000.001" ∷ codes "a" ∷ [])) ≡ Some Clip
unfolding clap_on_literals level_command number_value
clip_out_of_range = refl

no_file : fault_of level_command (codes "psr_level" ∷ codes "--fast" ∷ [])
    ≡ MissingRequiredArgument ∷ []
unfolding clap_on_literals level_command
no_file = refl

no_search : fault_of level_command (codes "psr_level" ∷ codes "--sd=1" ∷ codes "a" ∷ [])
    ≡ UnknownArgument ∷ []
unfolding clap_on_literals level_command
no_search = refl
