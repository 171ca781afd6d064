-- What contracts see of the search of a part, and the data bytes that it was fed and has searched.
-- Source: this project's choice.
use Rattle.std.specs.Prelude.{◌≡◌, ℕ, ◌≤◌, ◌<◌, Bool, false, List}
use Rattle.dada_model.specs.Observation.{Observation}
use Rattle.search_model.specs.declared.search.Search.{Search}
use Rattle.search_model.specs.Search.{SettingsInRange, in_one_shard}
use Rattle.search_model.specs.Observed.{filterbank_of, candidates_of, labels_of}
use Rattle.search_model.specs.Parts.{first_needed, part_text, within_part}
use Rattle.candidate_book.specs.Book.{BookContents, book_of}
use Rattle.search_engine.specs.Engine.{EngineState, HasFoundIn, StandsForPart, scope_of, spectra_fed}
use Rattle.search_engine.specs.Scope.{Scope, scope_of_part}
use Rattle.warm_restart.specs.Counts.{greatest_count}
use Rattle.warm_restart.specs.declared.checkpoint.Checkpoint.{Checkpoint}
use Rattle.warm_restart.specs.declared.warm.Warm.{Warm}

-- how many bytes it was fed, whether the data were ended, and its book
abbrev pub fed_of : Warm → ℕ
fed_of w = w.engine.fed

abbrev pub has_ended : Warm → Bool
has_ended w = w.engine.has_ended

abbrev pub book_in : Warm → BookContents
book_in w = w.engine.book

-- A part that can be searched: it stops after its place, and its numbers can stand in the texts of
-- parts.
pub record IsPart (checkpoint : Checkpoint) (until : ℕ) : Type 0 where
  pub before : checkpoint.place < until
  pub until_bound : until ≤ greatest_count
  pub pulses_bound : checkpoint.pulses ≤ greatest_count

-- what of an observation is searched for a part: its ends, in the spectra that it needs
abbrev pub part_scope : Observation → Search → ℕ → ℕ → Scope
part_scope o s place until = scope_of_part o.channels (first_needed s place) place until

-- both search the same part
pub record SamePart (v w : Warm) : Type 0 where
  pub search : v.search ≡ w.search
  pub checkpoint : v.checkpoint ≡ w.checkpoint
  pub until : v.until ≡ w.until

-- opened for a part of a search, and fed nothing
pub record IsOpenedWarm (s : Search) (checkpoint : Checkpoint) (until : ℕ) (w : Warm)
    : Type 0 where
  pub search_is : w.search ≡ s
  pub checkpoint_is : w.checkpoint ≡ checkpoint
  pub until_is : w.until ≡ until
  pub nothing_fed : fed_of w ≡ 0
  pub running : has_ended w ≡ false

-- the search of a part that an engine has searched
pub record IsWarmOf (s : Search) (checkpoint : Checkpoint) (until : ℕ) (e : EngineState) (w : Warm)
    : Type 0 where
  pub search_is : w.search ≡ s
  pub checkpoint_is : w.checkpoint ≡ checkpoint
  pub until_is : w.until ≡ until
  pub engine_is : w.engine ≡ e

-- an engine of all delays has searched the part in these data bytes of an observation, of which nothing is folded
pub record SearchedPart (o : Observation) (s : Search) (checkpoint : Checkpoint) (until : ℕ)
    (bytes : List ℕ) (e : EngineState) : Type 0 where
  pub range : SettingsInRange s
  pub unfolded : s.fold_max < s.fold_min
  pub part : IsPart checkpoint until
  pub search : e.search ≡ in_one_shard s
  pub shard : e.shard ≡ 0
  pub scope : scope_of e ≡ part_scope o s checkpoint.place until
  pub found : HasFoundIn o (part_scope o s checkpoint.place until) bytes e

-- a part of an observation is searched, with nothing folded: its engine searches all delays for the
-- part
pub record SearchesPart (o : Observation) (w : Warm) : Type 0 where
  pub range : SettingsInRange w.search
  pub unfolded : w.search.fold_max < w.search.fold_min
  pub part : IsPart w.checkpoint w.until
  pub search : w.engine.search ≡ in_one_shard w.search
  pub shard : w.engine.shard ≡ 0
  pub scope : scope_of w.engine ≡ part_scope o w.search w.checkpoint.place w.until

-- a part of an observation is searched, and was fed these data bytes
pub record WasFed (o : Observation) (bytes : List ℕ) (w : Warm) : Type 0 where
  pub searches : SearchesPart o w
  pub fed : StandsForPart o bytes w.engine

-- A part was searched in these data bytes of an observation: its book has the part of the candidate
-- list of all of them, with ends that count from the first spectrum of the observation, and it
-- counts all complete spectra.
pub record HasFound (o : Observation) (bytes : List ℕ) (w : Warm) : Type 0 where
  pub searches : SearchesPart o w
  pub book : book_in w ≡ book_of w.search.max_candidates
      (within_part w.checkpoint.place w.until (candidates_of o w.search bytes))
  pub spectra : spectra_fed w.engine ≡ (filterbank_of o bytes).spectra

-- the part is found in some data bytes of the observation, and its book keeps all of it
pub record KeepsPart (o : Observation) (w : Warm) : Type 0 where
  pub bytes : List ℕ
  pub found : HasFound o bytes w
  pub all : (book_in w).count ≤ w.search.max_candidates

-- the text of the part from a checkpoint on that stops before spectrum `until`, over an observation's data bytes
abbrev pub text_of_part : Observation → Search → Checkpoint → ℕ → List ℕ → List ℕ
text_of_part o s from until bytes =
    part_text (labels_of o) (filterbank_of o bytes).spectra from.place until from.pulses
    (candidates_of o s bytes)
