-- A program that searches one transfer alone, on one thread and without recording: its words, and what it finds.
-- Source: this project's choice.
use Rattle.std.specs.Prelude.{◌≡◌, ◌≢◌, ℕ, ◌⊎◌, Bool, true, false, List, length, drop}
use Rattle.search_words.specs.declared.fault.WordFault.{WordFault}
use Rattle.search_words.specs.declared.fault.WordFault.TheVariants.{Refused, OutOfRange, Memory}
use Rattle.search_words.specs.Settings.{SettingsSeen, SaySearch, ExplainsSearch}
use Rattle.stream_model.specs.Walk.{FileStream}

-- What tells such a program from others: how many words stand before those of a search, of which the first stands where
-- a program's name does; whether the words have the form that it asks for; whether it makes a search of such settings;
-- and how many candidates the files have by its own account.
pub record LoneSearch : Type 0 where
  pub before : ℕ
  pub has_form : List (List ℕ) → Bool
  pub makes : SettingsSeen → Bool
  pub total : SettingsSeen → FileStream → ℕ

-- ---- the words of a search that stand after others

-- settings of one transfer that is not recorded
pub record IsOfOne (s : SettingsSeen) : Type 0 where
  pub transfer : length s.starts ≡ 1
  pub unrecorded : s.recording ≡ false

-- settings of another search: of several transfers, or with a recording
abbrev pub IsOfOther : SettingsSeen → Type 0
IsOfOther s = (length s.starts ≢ 1) ⊎ (s.recording ≡ true)

-- the words say the settings of a search of one transfer, without recording
pub record SayOneSearch (before : ℕ) (words : List (List ℕ)) (s : SettingsSeen) : Type 0 where
  pub says : SaySearch (drop before words) s
  pub one : IsOfOne s

-- what a fault says of them: that they are of another search is seen once all of them are in their ranges
abbrev pub ExplainsOneSearch : ℕ → List (List ℕ) → WordFault → Type 0
ExplainsOneSearch before words Refused = ExplainsSearch (drop before words) Refused
    ⊎ ((s : SettingsSeen) × SaySearch (drop before words) s × IsOfOther s)
ExplainsOneSearch before words fault = ExplainsSearch (drop before words) fault

-- ---- the words of the program

-- they have its form and say settings, of which it makes a search
pub record SayAlone (lone : LoneSearch) (words : List (List ℕ)) (s : SettingsSeen) : Type 0 where
  pub form : lone.has_form words ≡ true
  pub search : SayOneSearch lone.before words s
  pub made : lone.makes s ≡ true

-- what a fault says of them: their form is judged first, and what the program makes no search of last
abbrev pub ExplainsAlone : LoneSearch → List (List ℕ) → WordFault → Type 0
ExplainsAlone lone words Refused = (lone.has_form words ≡ false)
    ⊎ (ExplainsOneSearch lone.before words Refused
    ⊎ ((s : SettingsSeen) × SayOneSearch lone.before words s × (lone.makes s ≡ false)))
ExplainsAlone lone words (OutOfRange opt) = (lone.has_form words ≡ true)
    × ExplainsOneSearch lone.before words (OutOfRange opt)
ExplainsAlone lone words Memory = Unit {0}
