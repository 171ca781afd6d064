-- What a session of a run left.
-- Source: this project's choice.
use Rattle.std.specs.Prelude.{◌≡◌, Option}
use Rattle.arrayvec.specs.ArrayVec.{ArrayVec}
use Rattle.dada_model.specs.Observation.{Observation}
use Rattle.search_session.specs.declared.ended.SessionEnd.{SessionEnd}
use Rattle.drive_session.specs.declared.found.Found.{Found}

-- what was found is what the session answered, for these observations
pub record IsFoundOf {I F : Type 0} (observations : ArrayVec (Option Observation))
    (end : SessionEnd I F) (found : Found) : Type 0 where
  pub observations_are : found.observations ≡ observations
  pub feed : found.feed ≡ end.feed
  pub books : found.books ≡ end.books
  pub spectra : found.spectra ≡ end.spectra
  pub recorded : found.recorded ≡ end.recorded
  pub blocks : found.blocks ≡ end.blocks
