-- A search without the channels of a mask, by its words: which mask they name, what of an observation is searched, and
-- what is found.
-- Source: this project's choice.
use Rattle.std.specs.Prelude.{ℕ, Bool, true, List, [], length, nat_le, slice_index_or}
use Rattle.dada_model.specs.Observation.{Observation}
use Rattle.psr_base.specs.Told.{Told}
use Rattle.search_model.specs.declared.candidate.Candidate.{Candidate}
use Rattle.search_model.specs.declared.search.Search.{Search}
use Rattle.search_model.specs.Masks.{masked_candidates_of, masked_text}
use Rattle.search_engine.specs.Scope.{Scope, kept_by}
use Rattle.search_words.specs.Settings.{SettingsSeen}
use Rattle.stream_model.specs.Walk.{FileStream, transfer_data}
use Rattle.channel_mask.specs.Masks.{IsMaskOf, ExplainsMask, mask_of}
use Rattle.channel_mask.specs.Masked.{IsScopeOf}
use Rattle.channel_mask.specs.declared.fault.MaskFault.{MaskFault}
use Rattle.channel_mask.specs.declared.fault.MaskFault.TheVariants as fault
use Rattle.run_outcome.specs.Lone.{LoneSearch}
use Rattle.run_outcome.specs.Runs.{Alone, ForFiles, first_observation}
use Rattle.drive_lone.specs.Stops.{RefusesFirst, ForHeader}
use Rattle.psr_mask.specs.declared.refusal.MaskRefusal.{MaskRefusal}
use Rattle.psr_mask.specs.declared.refusal.MaskRefusal.TheVariants.{BadMask, OutOfRange, AllMasked}

-- the mask text among the words, which is the second of them
abbrev pub mask_word : List (List ℕ) → List ℕ
mask_word words = slice_index_or words 1 []

-- ---- of an observation

-- a text is a mask of it
abbrev pub AcceptsMask : List ℕ → Observation → Type 0
AcceptsMask text o = IsMaskOf o text (mask_of o text)

-- a refusal as a fault of the text
abbrev pub fault_of : MaskRefusal → MaskFault
fault_of (BadMask place) = fault.BadMask place
fault_of (OutOfRange channel channels) = fault.OutOfRange channel channels
fault_of AllMasked = fault.AllMasked

-- a text is none, for this cause
abbrev pub RefusesMask : List ℕ → Observation → MaskRefusal → Type 0
RefusesMask text o refusal = ExplainsMask o text (fault_of refusal)

-- what of it is searched: the channels that the mask of the text keeps, by their cells
pub record ScopesMask (text : List ℕ) (o : Observation) (s : Search) (scope : Scope) :
    Type 0 where
  pub accepted : AcceptsMask text o
  pub kept : IsScopeOf o s.max_delay (mask_of o text) scope

-- ---- of the files that words name

-- the mask text of the words is a mask of the observation of the first header
abbrev pub AcceptsFirst : List (List ℕ) → FileStream → Type 0
AcceptsFirst words w = AcceptsMask (mask_word words) (first_observation w 0)

-- the first header is accepted, and the mask text of the words is no mask of its observation
abbrev pub RefusesFiles : List (List ℕ) → FileStream → MaskRefusal → Type 0
RefusesFiles words w refusal = RefusesFirst (RefusesMask (mask_word words)) w refusal

-- the channels that the words keep
abbrev pub kept_channels : List (List ℕ) → FileStream → ℕ → Bool
kept_channels words w = kept_by (mask_of (first_observation w 0) (mask_word words))

-- the candidates in these channels over all data
abbrev pub masked_list : List (List ℕ) → SettingsSeen → FileStream → List Candidate
masked_list words s w = masked_candidates_of (first_observation w 0) s.search
    (kept_channels words w) (transfer_data w 0)

-- and their text
abbrev pub text_without : List (List ℕ) → SettingsSeen → FileStream → List ℕ
text_without words s w = masked_text (first_observation w 0) s.search
    (kept_channels words w) (transfer_data w 0)

-- the program as one that searches alone: MASK stands where the name of another does
abbrev pub mask_search : List (List ℕ) → LoneSearch
mask_search words = record {
  before = 1;
  has_form = λ said. nat_le 2 (length said);
  makes = λ s. true;
  total = λ s w. length (masked_list words s w);
}

-- P holds of the settings that the words say and of the files that they name, where all of these are told
abbrev pub ForMask : List (List ℕ) → Told → (SettingsSeen → FileStream → Type 0) → Type 0
ForMask words = ForFiles (Alone (mask_search words)) words

-- The first header is accepted, and the mask text of the words is a mask of its observation; or it is none. Whether it
-- is a mask text at all, and where it stops being the front of one, is so whatever is told: no observation plays a part
-- in that. Its numbers are judged by the channels of the observation, which is the one of the header where the first
-- file is told, whatever comes after it.
abbrev pub AcceptsMaskWord : List (List ℕ) → Told → Type 0
AcceptsMaskWord words told =
    ForHeader (mask_search words) words told (λ o. AcceptsMask (mask_word words) o)

abbrev pub RefusesMaskWord : List (List ℕ) → Told → MaskRefusal → Type 0
RefusesMaskWord words told refusal =
    ForHeader (mask_search words) words told (λ o. RefusesMask (mask_word words) o refusal)
