-- Laws of rows.
-- Source: this project's choice.
use Rattle.std.specs.Prelude.{◌≡◌, ℕ, ◌<◌, Bool, not, true, List, length, find, get_or, Option, None, is_some, unwrap_or}
use Rattle.option_rows.specs.declared.row.Row.{Row}
use Rattle.option_rows.specs.Rows.{limits_allow, value_of_word}

-- a value in a row is a number that its limits allow, where they allow the one that stands without a word
abbrev pub ValuesAreAllowed : Type 0
ValuesAreAllowed = (row : Row) (word : Option (List ℕ)) →
    limits_allow row.limits row.default ≡ true → is_some (value_of_word row word) ≡ true →
    limits_allow row.limits (unwrap_or (value_of_word row word) 0) ≡ true

-- where none of some options is the first that fails a test, each passes it
abbrev pub NoneFails : Type 0 → Type 0
NoneFails Opt = (test : Opt → Bool) (options : List Opt) →
    find (λ opt. not (test opt)) options ≡ None →
    (i : ℕ) (d : Opt) → i < length options → test (get_or options i d) ≡ true
