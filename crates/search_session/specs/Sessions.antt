-- What a session answers.
-- Source: this project's choice.
use Rattle.std.specs.Prelude.{◌≡◌, ◌≢◌, ℕ, ◌<◌, ◌≤◌, List, [], length, map, slice_get, Option, Some, IsSome}
use Rattle.std.specs.List.{sum_by, range_with_len}
use Rattle.std.specs.Borrow.{MutBor}
use Rattle.dada_model.specs.Observation.{Observation}
use Rattle.search_model.specs.declared.candidate.Candidate.{Candidate}
use Rattle.search_model.specs.declared.search.Search.{Search}
use Rattle.search_model.specs.Candidates.{shard_part}
use Rattle.search_model.specs.CandidateLaws.{shard_parts}
use Rattle.search_model.specs.Observed.{filterbank_of, candidates_of}
use Rattle.candidate_book.specs.Book.{BookContents, book_of}
use Rattle.psr_base.specs.Count.{Rose}
use Rattle.psr_base.specs.Told.{Told}
use Rattle.ring_blocks.specs.declared.Entry.{Entry}
use Rattle.ring_words.specs.Ring.{Begins}
use Rattle.ring_ends.specs.Ended.{sealed_at_end, cleared_at_end}
use Rattle.stream_model.specs.Blocks.{joined_bytes, transfer_bytes}
use Rattle.stream_model.specs.Walk.{transfer_data}
use Rattle.search_engine.specs.Engine.{EngineState, IsOpenedEngine, StandsForData}
use Rattle.disk_feeder.specs.declared.answers.FeedEnd.TheVariants.{Whole, ReadFault}
use Rattle.disk_feeder.specs.declared.feeder.Feeder.{Feeder}
use Rattle.disk_feeder.specs.declared.place.Place.{Place}
use Rattle.disk_feeder.specs.Feeder.{plan_at, names_at, block_size, FeederRead}
use Rattle.disk_feeder.specs.Feeding.{IsEnded, BreaksReading}
use Rattle.disk_feeder.specs.Filling.{HoldsAll}
use Rattle.disk_feeder.specs.History.{file_name}
use Rattle.disk_feeder.specs.Plan.{stream_of, AreTold}
use Rattle.disk_feeder.specs.Turns.{sealed_blocks}
use Rattle.session_readers.specs.declared.bank.Bank.{Bank}
use Rattle.search_session.specs.declared.feed.FeedActor.{FeedActor}
use Rattle.session_readers.specs.declared.shard.ShardActor.{ShardActor}
use Rattle.session_readers.specs.declared.record.RecordActor.{RecordActor}
use Rattle.search_session.specs.declared.ended.SessionEnd.{SessionEnd}
use Rattle.session_readers.specs.Banks.{HasEngine, engines_of}
use Rattle.session_readers.specs.Shards.{shard_cleared}
use Rattle.session_readers.specs.Records.{recorded_headers, recorded_blocks}
use Rattle.search_session.specs.Books.{HasBank, HasBook, AreCounted}
use Rattle.search_session.specs.Recorded.{headers_through}

-- the data of a transfer that went through the data ring
abbrev pub data_through : {I F : Type 0} → SessionEnd I F → ℕ → List ℕ
data_through end transfer = transfer_bytes transfer (sealed_at_end end.blocks)

-- What the feeder came to at some place: the end of the walk of its files with the walk's stream sealed, or the inputs'
-- fault, which comes only where their count rose, of calm inputs only at a file that isn't told and was not opened, and
-- leaves the full blocks of what was read. Where all data were sealed, those of each transfer are those of its files.
pub record FeedAnswers {I F : Type 0} (told : I → Told) (is_calm : I → Type 0) (faults : I → ℕ)
    (feeder : Feeder I) (end : SessionEnd I F) : Type 0 where
  pub same_reference : end.inputs.ghost_name ≡ feeder.inputs.ghost_name
  pub names : (told end.inputs.now).bytes_under ≡ (told feeder.inputs.now).bytes_under
  pub count : faults feeder.inputs.now ≤ faults end.inputs.now
  pub calm : is_calm feeder.inputs.now → is_calm end.inputs.now
  pub failed : end.feed ≡ ReadFault → Rose (faults feeder.inputs.now) (faults end.inputs.now)
  pub quiet : end.feed ≢ ReadFault → faults end.inputs.now ≡ faults feeder.inputs.now
  pub serves : is_calm feeder.inputs.now → HoldsAll (told feeder.inputs.now) (names_at feeder) →
      end.feed ≢ ReadFault
  pub place : Place
  pub missing : is_calm feeder.inputs.now → end.feed ≡ ReadFault →
      (place.file < length (names_at feeder))
      × ¬ IsSome ((told feeder.inputs.now).bytes_under (file_name (names_at feeder) place.file))
  pub sealed : IsEnded (plan_at feeder) (told end.inputs.now) place (block_size feeder)
      (headers_through feeder end)
      (sealed_at_end end.blocks)
      end.feed
  pub broke : end.feed ≡ ReadFault → (before : Told) →
      FeederRead before (told feeder.inputs.now) feeder →
      BreaksReading (plan_at feeder) before (is_calm feeder.inputs.now) (told end.inputs.now) place
      (block_size feeder) (sealed_at_end end.blocks)
  pub few : length (joined_bytes (sealed_at_end end.blocks)) ≤ (plan_at feeder).max_bytes
  pub parts : (bytes : ℕ) → end.feed ≡ Whole bytes →
      sum_by (λ k. length (data_through end k)) (range_with_len 0 (length (plan_at feeder).starts))
      ≡ bytes
  pub walked : (bytes : ℕ) → end.feed ≡ Whole bytes → (files : List (List ℕ)) →
      AreTold (told end.inputs.now) (names_at feeder) files → (k : ℕ) →
      k < length (plan_at feeder).starts →
      data_through end k ≡ transfer_data (stream_of (plan_at feeder) files) k

-- What is found for shard s of a transfer, where its engine e was opened for this observation: the book of the shard's
-- part of the candidates of all data. The first shard tells how many spectra they have.
pub record IsSearched {I F : Type 0} (end : SessionEnd I F) (transfer s : ℕ) (o : Observation)
    (e : EngineState) : Type 0 where
  pub book : HasBook end.books.items transfer s (book_of e.search.max_candidates
      (shard_part e.search e.shard (candidates_of o e.search (data_through end transfer))))
  pub spectra : s ≡ 0 →
      slice_get end.spectra.items transfer ≡ Some
      ((filterbank_of o (data_through end transfer)).spectra)

-- Engine k of bank s searches shard s of the observation of transfer k, and was fed nothing.
pub record AreBanksFor (settings : Search) (o : ℕ → Observation) (transfers : ℕ)
    (banks : List (Option Bank)) : Type 0 where
  pub some : 0 < length banks
  pub shards : length banks ≡ settings.shards
  pub each : (s k : ℕ) → s < length banks → k < transfers →
      (bank : Bank) × HasBank banks s bank
      × ((e : EngineState) × HasEngine (engines_of bank) k e × IsOpenedEngine e settings s
      × StandsForData (o k) [] e)

-- the books of the shards, which hold the parts of a candidate list
abbrev pub shard_books : Search → List Candidate → List (Option BookContents)
shard_books settings list =
    map (λ part. Some (book_of settings.max_candidates part)) (shard_parts settings list)

-- The books hold the parts of the candidate lists of these data, transfer by transfer, and their spectra are counted.
pub record HoldFound {I F : Type 0} (settings : Search) (o : ℕ → Observation) (found : ℕ → List ℕ)
    (transfers : ℕ) (end : SessionEnd I F) : Type 0 where
  pub added : map (λ row. row.items) end.books.items
      ≡ map (λ k. shard_books settings (candidates_of (o k) settings (found k)))
      (range_with_len 0 transfers)
  pub counted : end.spectra.items
      ≡ map (λ k. (filterbank_of (o k) (found k)).spectra) (range_with_len 0 transfers)

-- What the shards of these banks came to: each cleared all blocks that were sealed, and has a book for each transfer.
-- Where all data were sealed, each engine that was fed nothing has searched those of its transfer; and so the books
-- hold all that is found.
pub record ShardAnswers {I F : Type 0} (transfers : ℕ) (banks : List (Option Bank))
    (end : SessionEnd I F) : Type 0 where
  pub cleared : (s : ℕ) → s < length banks → cleared_at_end end.blocks s ≡ sealed_at_end end.blocks
  pub counted : AreCounted (length banks) transfers end.books.items end.spectra.items
  pub there : (k s : ℕ) → k < transfers → s < length banks →
      (book : BookContents) × HasBook end.books.items k s book
  pub searched : (bytes : ℕ) → end.feed ≡ Whole bytes → (transfer s : ℕ) (bank : Bank)
      (e : EngineState)
      (o : Observation) → HasBank banks s bank → HasEngine (engines_of bank) transfer e →
      StandsForData o [] e →
      IsSearched end transfer s o e
  pub held : (settings : Search) (o : ℕ → Observation) (found : ℕ → List ℕ) (bytes : ℕ) →
      end.feed ≡ Whole bytes → AreBanksFor settings o transfers banks →
      ((k : ℕ) → k < transfers → data_through end k ≡ found k) →
      HoldFound settings o found transfers end

-- ---- once the hands are empty

-- what is known of a feeder: how it ended, its inputs, and what it sealed
pub record IsEndOfFeeder {I F : Type 0} (end : SessionEnd I F) (f : FeedActor I) : Type 0 where
  pub feed : f.end ≡ Some end.feed
  pub inputs : end.inputs.now ≡ f.part.inputs.now
  pub same_reference : end.inputs.ghost_name ≡ f.part.inputs.ghost_name
  pub sealed : sealed_at_end end.blocks ≡ sealed_blocks f.pass

-- what is known of a shard with this number
pub record IsEndOf {I F : Type 0} (end : SessionEnd I F) (s : ℕ) (x : ShardActor) : Type 0 where
  pub cleared : cleared_at_end end.blocks s ≡ shard_cleared x
  pub begins : Begins (shard_cleared x) (sealed_at_end end.blocks)
  pub books : (k : ℕ) (e : EngineState) → HasEngine (engines_of x.part) k e →
      HasBook end.books.items k s e.book
  pub spectra : s ≡ 0 → (k : ℕ) (e : EngineState) → HasEngine (engines_of x.part) k e →
      slice_get end.spectra.items k ≡ Some e.sums.carry.fed

-- what is known of a recorder, where these are the headers that were sealed
pub record IsEndOfRecorder {I F : Type 0} (end : SessionEnd I F) (reader : ℕ) (headers : List Entry)
    (x : RecordActor F) : Type 0 where
  pub recorded : end.recorded ≡ x.end
  pub files : MutBor F
  pub given : end.files ≡ Some files
  pub now : files.now ≡ x.part.files.now
  pub same_reference : files.ghost_name ≡ x.part.files.ghost_name
  pub cleared : cleared_at_end end.blocks reader ≡ recorded_blocks x
  pub begins : Begins (recorded_blocks x) (sealed_at_end end.blocks)
  pub headers_begin : Begins (recorded_headers x) headers
