-- A lone run of which all is opened.
-- Source: this project's choice.
use Rattle.std.specs.Prelude.{◌≡◌, ◌*◌, ◌^◌, ◌≤◌, [], ◌∷◌, length, take, slice_get, Some, None}
use Rattle.psr_base.specs.Told.{Told}
use Rattle.dada_model.specs.Fields.{HeaderText}
use Rattle.dada_model.specs.Observation.{Observation}
use Rattle.search_model.specs.declared.search.Search.{Search}
use Rattle.search_words.specs.Settings.{SettingsOf, SettingsSeen}
use Rattle.stream_model.specs.Walk.{FileStream}
use Rattle.ring_words.specs.declared.shape.RingShape.{RingShape}
use Rattle.search_engine.specs.Engine.{most_fed}
use Rattle.search_engine.specs.Scope.{Scope}
use Rattle.disk_feeder.specs.declared.feeder.Feeder.{Feeder}
use Rattle.disk_feeder.specs.Feeder.{HasPlan, IsFresh, FeederFeeds, FeederFaultless, HasOpenFile, headers_of, has_end}
use Rattle.disk_feeder.specs.Feeding.{header_entries}
use Rattle.session_readers.specs.declared.bank.Bank.{Bank}
use Rattle.search_session.specs.declared.lone_space.LoneSpace.{LoneSpace}
use Rattle.search_session.specs.Lone.{IsLoneSpace}
use Rattle.search_opening.specs.First.{AreFirsts}
use Rattle.search_opening.specs.Rings.{run_shape}
use Rattle.run_outcome.specs.Lone.{LoneSearch, IsOfOne}
use Rattle.run_outcome.specs.Runs.{Alone, OfEachFirst, MayBegin, CanSearchFirst}
use Rattle.search_opening.specs.Settings.{OfRunFirsts}
use Rattle.drive_lone.specs.Scopes.{IsBankOf, SaysObservation}

-- the data ring of a lone run
abbrev pub shape_for : {S : Type 0} → SettingsOf S → RingShape
shape_for s = run_shape s.buffers s.size 1 s.max_bytes 1

-- nothing was read of the files of the settings
pub record IsFreshFor {I : Type 0} (s : SettingsSeen) (f : Feeder I) : Type 0 where
  pub plan : HasPlan f s.names s.starts s.size s.max_bytes
  pub fresh : IsFresh f

-- The feeder of a lone run has accepted the first header, and stands before the first data byte. In this and the next:
-- what inputs tell, and whether a name is open.
pub record IsFeederReady {I : Type 0} (told : I → Told) (is_open : I → Type 0) (s : SettingsSeen)
    (header : HeaderText) (f : Feeder I) : Type 0 where
  pub plan : HasPlan f s.names s.starts s.size s.max_bytes
  pub first : slice_get (headers_of f) 0 ≡ Some header
  pub feeds : FeederFeeds (told f.inputs.now) f (header_entries (take 1 (headers_of f))) []
  pub faultless : FeederFaultless f
  pub running : has_end f ≡ None
  pub file : HasOpenFile f → is_open f.inputs.now

-- Nothing stands against a lone run, and all of its memory is taken: its engine searches this scope of the observation
-- of the first header.
pub record IsOpenedAlone {I : Type 0} (told : I → Told) (is_open : I → Type 0) (s : SettingsSeen)
    (f : Feeder I) (o : Observation) (scope : Scope) (space : LoneSpace) : Type 0 where
  pub one : IsOfOne s
  pub most : s.max_bytes ≤ 2 ^ 48
  pub header : HeaderText
  pub feeder : IsFeederReady told is_open s header f
  pub bank : Bank
  pub bank_is : IsBankOf s.search o scope bank
  pub space_is : IsLoneSpace bank (shape_for s) header space
  pub total : (shape_for s).max_blocks * s.size ≤ most_fed
  pub begins : (lone : LoneSearch) → MayBegin (Alone lone) s (told f.inputs.now)
  pub says : OfEachFirst (told f.inputs.now) s (SaysObservation o)
  pub firsts : OfRunFirsts (told f.inputs.now) s (λ w. AreFirsts w (Some o ∷ []))
  pub fits : (w : FileStream) → AreFirsts w (Some o ∷ []) →
      CanSearchFirst s.search w (length w.starts)

-- and the scope is one that the program finds
abbrev pub OpensScope : {I : Type 0} → (Observation → Search → Scope → Type 0) → (I → Told) →
    (I → Type 0) → SettingsSeen → Feeder I → Observation → LoneSpace → Type 0
OpensScope scopes told is_open s f o space =
    (scope : Scope) × scopes o s.search scope × IsOpenedAlone told is_open s f o scope space
