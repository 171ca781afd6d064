-- What the end of a run says, where all files are told.
use Rattle.std.proofs.Common.{◌≡◌, ℕ, ◌<◌, List, [], ◌∷◌, Option, Some, None, length, inl, inr, refl, sym, subst, arith}
use Rattle.psr_base.specs.Told.{Told}
use Rattle.psr_base.specs.Written.{SinkSeen}
use Rattle.dada_model.specs.Fields.{HeaderText}
use Rattle.dada_model.specs.Observation.{Observation}
use Rattle.search_words.specs.Settings.{RunSeen}
use Rattle.stream_model.specs.Blocks.{joined_bytes}
use Rattle.stream_model.specs.BlockLaws.{BytesAreJoined}
use Rattle.stream_model.specs.Walk as walk
use Rattle.stream_model.specs.Walk.{FileStream, transfer_data, walk_stop}
use Rattle.stream_model.specs.WalkLaws.{AreWalked, WalkJoinsData}
use Rattle.disk_feeder.specs.declared.answers.FeedEnd.{FeedEnd}
use Rattle.disk_feeder.specs.declared.answers.FeedEnd.TheVariants.{Whole, ReadFault, BadHeader, Gap, TooLong}
use Rattle.disk_feeder.specs.Feeding.{EndIs, IsWalkEnd}
use Rattle.disk_feeder.specs.Plan.{AreTold, IsFirstFile}
use Rattle.disk_feeder.specs.Reading.{judged_at}
use Rattle.run_outcome.specs.Runs.{stream_for}
use Rattle.search_opening.specs.Settings.{OfRun}
use Rattle.drive_stream.specs.declared.stop.StreamStop.{StreamStop}
use Rattle.drive_stream.specs.Endings.{Ending, All, Early, Failed, Refused, AtStop}
use Rattle.drive_stream.specs.Opening.{IsOfOne}
use Rattle.drive_stream.specs.Outcome.{EndsFed, EndsStream, OfHead}
use Rattle.drive_stream.specs.Stops.{IsStopOf}
use Rattle.drive_stream.proofs.Ends.{end_whole, whole_stop}
use Rattle.drive_stream.proofs.Fronts.{one_start}
use Rattle.drive_stream.proofs.Told.{some_told}

-- a run that came to no stop took all data
ends_all : {F : Type 0} (end : FeedEnd) (ending : Ending F) (stop : Option (StreamStop F)) →
    IsStopOf end ending stop → stop ≡ None → (bytes : ℕ) × (end ≡ Whole bytes) × (ending ≡ All)
ends_all (Whole bytes) All stop is none = (bytes, refl, refl)
ends_all (Whole bytes) (Refused refusal) stop is none = absurd cc
ends_all ReadFault Early stop is none = absurd cc
ends_all ReadFault (Failed AtStop) stop is none = absurd cc
ends_all (BadHeader file cause) Early stop is none = absurd cc
ends_all (Gap file expected found) Early stop is none = absurd cc
ends_all (TooLong limit) Early stop is none = absurd cc
ends_all end ending stop is none = absurd is

module _ (join : BytesAreJoined) (walked : WalkJoinsData) {F : Type 0} (block : Observation → ℕ)
    (takes : Observation → HeaderText → Type 0)
    (leaves : Observation → HeaderText → List ℕ → Ending F → SinkSeen → SinkSeen → Type 0) (s : RunSeen)
    (one : IsOfOne s) (told : Told) (before after : SinkSeen) where
  starts_are : s.starts ≡ 0 ∷ []
  starts_are = one_start s.starts (length s.names) one.one one.range.transfers.first

  some_files : (files : List (List ℕ)) → AreTold told s.names files → 0 < length files
  some_files files are =
      let within = one.range.transfers.within 0 (omega (arith, one.one)) in
      let count = are.count in
      omega (arith, within, count)

  abbrev with_starts : List (List ℕ) → List ℕ → FileStream
  with_starts files starts = record { files = files; starts = starts; max_bytes = s.max_bytes }

  -- what was handed out at the end of all data
  pub whole_end : (files : List (List ℕ)) → AreTold told s.names files → (stop : Option (StreamStop F))
      (e : EndsFed block takes leaves s told before after stop) (bytes : ℕ) → e.feed ≡ Whole bytes →
      (walk_stop (stream_for s files) ≡ walk.Whole)
      × (joined_bytes e.blocks ≡ transfer_data (stream_for s files) 0)
  whole_end files are stop e bytes is =
      let known = e.walked files (some_told (λ k. k < judged_at e.feed e.at) told s.names files are) in
      let At : FeedEnd → Type 0 = λ end. EndIs (stream_for s files) e.size e.blocks end in
      let at = subst At is known in
      let Here : List ℕ → Type 0 = λ starts. IsWalkEnd (with_starts files starts) e.size e.blocks (Whole bytes) in
      let Same : List ℕ → Type 0 = λ starts. joined_bytes e.blocks ≡ transfer_data (with_starts files starts) 0 in (
        whole_stop bytes (walk_stop (stream_for s files)) _ _ at.is,
        subst Same (sym starts_are)
            (end_whole join walked files s.max_bytes e.size (some_files files are) e.blocks bytes
            (subst Here starts_are at)),
      )

  pub streams_to_end : (refuses : Observation → HeaderText → F → Type 0) →
      EndsStream block takes refuses leaves s told before after None → OfRun told s (λ w. (walk_stop w ≡ walk.Whole)
      × AreWalked w × OfHead takes w
      × OfHead (λ o header. leaves o header (transfer_data w 0) All before after) w)
  streams_to_end refuses (inl early) files are = absurd (never early.what early.is)
    where
      never : (what : StreamStop F) → None ≡ Some what → ⊥
      never what is = absurd cc
  streams_to_end refuses (inr (inl e)) files are =
      let w = stream_for s files in
      let all = ends_all e.feed e.ending None e.is refl in
      let whole = whole_end files are None e all.0 all.1 in
      let left = e.left files (some_told (IsFirstFile s.starts (length s.names)) told s.names files are) in
      let P : List ℕ → Type 0 = λ xs. OfHead (λ o header. leaves o header xs e.ending before after) w in
      let Q : Ending F → Type 0 = λ ending.
      OfHead (λ o header. leaves o header (transfer_data w 0) ending before after) w in
      (whole.0, left.0, left.1, subst Q all.2 (subst P whole.1 left.2))
  streams_to_end refuses (inr (inr broken)) files are = absurd (never _ broken.is)
    where
      never : (what : StreamStop F) → None ≡ Some what → ⊥
      never what is = absurd cc
