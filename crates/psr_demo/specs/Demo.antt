-- The observation of a number, its search, and the summary of what is found.
-- Source: this project's choice.
use Rattle.std.specs.Prelude.{◌≡◌, ℕ, ◌≤◌, ◌<◌, ◌==◌, if◌then◌else◌, List, [], ◌∷◌, ◌++◌, length, count_by, codes, Contains}
use Rattle.std.specs.Fmt.{decimal}
use Rattle.psr_base.specs.Written.{SinkSeen, Noted}
use Rattle.search_model.specs.declared.candidate.Candidate.{Candidate}
use Rattle.search_model.specs.declared.search.Search.{Search}
use Rattle.search_model.specs.CandidateText.{is_pulse, is_fold, end_line}
use Rattle.search_model.specs.Observed.{candidates_of, search_text}
use Rattle.psr_make.specs.Made.{made_observation, made_data}
use Rattle.psr_make.specs.declared.spec.MakeSpec.{MakeSpec}
use Rattle.run_outcome.specs.declared.stop.Stop.TheVariants.{Memory, TooMany}
use Rattle.run_outcome.specs.Texts.{note_of}

-- ---- what is searched

-- 4096 spectra of 64 channels, of 8 bits and one polarisation: every 256 spectra a pulse enters the band, which takes
-- 64 of them to its foot and adds 2 to each value
abbrev pub demo_spec : ℕ → MakeSpec
demo_spec number = record {
  number = number;
  channels = 64;
  spectra = 4096;
  delay = 64;
  period = 256;
  height = 2;
  nbit = 8;
  npol = 1;
}

-- delays of up to 128 spectra and boxes of up to 8, in four parts; nothing is folded. The noise has the mean 16 and the
-- deviation 2.828, and a sum is detected at 7 times its deviation.
abbrev pub demo_search : Search
demo_search = record {
  min_delay = 0;
  max_delay = 128;
  widest = 8;
  fold_min = 2;
  fold_max = 0;
  fold_rows = 6;
  fold_step = 64;
  chunk = 1024;
  shards = 4;
  max_candidates = 100000;
  mean = 16000;
  sd = 2828;
  snr = 700;
}

-- the candidate list of the observation of a number, and the text of its search
unfoldable pub demo_candidates : ℕ → List Candidate
demo_candidates number = let spec = demo_spec number in
    candidates_of (made_observation spec) demo_search (made_data spec)

unfoldable pub demo_text : ℕ → List ℕ
demo_text number = let spec = demo_spec number in
    search_text (made_observation spec) demo_search (made_data spec)

-- the last line of that text
unfoldable pub demo_end : ℕ → List ℕ
demo_end number = let list = demo_candidates number in
    end_line (count_by is_pulse list) (count_by is_fold list) 4096

-- ---- how its search ends

-- with the status 0 where its text is found, 5 for want of memory, and 9 where there are too many candidates
pub record EndsAt (number status : ℕ) : Type 0 where
  pub known : Contains (0 ∷ 5 ∷ 9 ∷ []) status
  pub few : status ≡ 0 → length (demo_candidates number) ≤ 100000
  pub many : status ≡ 9 → 100000 < length (demo_candidates number)

-- and with this text
abbrev pub text_at : ℕ → ℕ → List ℕ
text_at number status = if status == 0 then demo_text number else []

-- the notes take the line of a search that stopped so
pub record TellsEnd (number status : ℕ) (before after : SinkSeen) : Type 0 where
  pub silent : status ≡ 0 → after ≡ before
  pub memory : status ≡ 5 → Noted (note_of Memory) before after
  pub many : status ≡ 9 →
      Noted (note_of (TooMany (length (demo_candidates number)) 100000)) before after

-- a search of it ended with this status and this text, and the notes took its line
pub record IsFound (number status : ℕ) (body : List ℕ) (notes_before notes_after : SinkSeen) :
    Type 0 where
  pub ends : EndsAt number status
  pub text : body ≡ text_at number status
  pub told : TellsEnd number status notes_before notes_after

-- ---- its summary

-- DEMO, the number, the status, how long the text is
abbrev pub demo_line : ℕ → ℕ → ℕ → List ℕ
demo_line number status count =
    codes "DEMO " ++ decimal number ++ codes " " ++ decimal status ++ codes " " ++ decimal count
    ++ codes "\n"

-- that line; and at 0 the last line of the text
unfoldable pub summary : ℕ → ℕ → List ℕ
summary number status = demo_line number status (length (text_at number status))
    ++ (if status == 0 then demo_end number else [])
