-- The books of the engines of all shards.
-- Source: this project's choice.
use Rattle.std.specs.Prelude.{◌≡◌, ℕ, zero, suc, ◌<◌, ◌≤◌, All, List, ◌∷◌, length, map, drop, slice_get, Option, Some, option_map}
use Rattle.arrayvec.specs.ArrayVec.{ArrayVec}
use Rattle.candidate_book.specs.Book.{BookContents}
use Rattle.search_engine.specs.Engine.{EngineState}
use Rattle.dada_hdu.specs.declared.ended.HduEnded.{HduEnded}
use Rattle.session_readers.specs.declared.bank.Bank.{Bank}
use Rattle.session_readers.specs.declared.shard.ShardActor.{ShardActor}
use Rattle.session_readers.specs.Banks.{HasEngine, engines_of}

abbrev pub passes_of : List (Option ShardActor) → List (Option HduEnded)
passes_of shards = map (option_map (λ x. x.pass)) shards

abbrev pub banks_of : List (Option ShardActor) → List (Option Bank)
banks_of shards = map (option_map (λ x. x.part)) shards

-- the bank of a shard
abbrev pub HasBank : List (Option Bank) → ℕ → Bank → Type 0
HasBank banks s bank = slice_get banks s ≡ Some (Some bank)

-- there is a bank of so many engines at each place
abbrev pub HaveEngines : ℕ → List (Option Bank) → Type 0
HaveEngines transfers banks = (s : ℕ) → s < length banks →
    (bank : Bank) × HasBank banks s bank × (length (engines_of bank) ≡ transfers)

-- how many transfers so many shards search: none where there is no shard
abbrev pub transfers_searched : ℕ → ℕ → ℕ
transfers_searched zero transfers = 0
transfers_searched (suc shards) transfers = transfers

-- the book of a transfer and a shard
abbrev pub HasBook : List (ArrayVec (Option BookContents)) → ℕ → ℕ → BookContents → Type 0
HasBook books transfer s book = (row : ArrayVec (Option BookContents))
    × (slice_get books transfer ≡ Some row)
    × (slice_get row.items s ≡ Some (Some book))

abbrev pub book_at : Option EngineState → Option BookContents
book_at slot = option_map (λ (e : EngineState). e.book) slot

-- a bank gave the book of its first engine, and keeps the other engines
abbrev pub GivesFirst : Option Bank → Option BookContents → Option Bank → Type 0
GivesFirst old book new = (bank : Bank) (slot : Option EngineState)
    (rest : List (Option EngineState)) →
    old ≡ Some bank → engines_of bank ≡ slot ∷ rest →
    (book ≡ book_at slot) × ((bank' : Bank) × (new ≡ Some bank') × (engines_of bank' ≡ rest))

-- the first n of the banks did
pub record FirstsGiven (n : ℕ) (old : List (Option Bank)) (books : List (Option BookContents))
    (new : List (Option Bank)) : Type 0 where
  pub count : length new ≡ length old
  pub books_count : length books ≡ n
  pub given : (s : ℕ) (bank : Bank) (slot : Option EngineState)
      (rest : List (Option EngineState)) → s < n →
      HasBank old s bank → engines_of bank ≡ slot ∷ rest →
      (slice_get books s ≡ Some (book_at slot))
      × ((bank' : Bank) × HasBank new s bank' × (engines_of bank' ≡ rest))
  pub ahead : (s : ℕ) → n ≤ s → slice_get new s ≡ slice_get old s

-- all books of these banks
abbrev pub HasBooks : List (Option Bank) → List (ArrayVec (Option BookContents)) → Type 0
HasBooks banks books = (transfer s : ℕ) (bank : Bank) (e : EngineState) → HasBank banks s bank →
    HasEngine (engines_of bank) transfer e → HasBook books transfer s e.book

-- the books of all engines of these banks, as many as banks in each row
pub record AreBooks (transfers : ℕ) (banks : List (Option Bank))
    (books : List (ArrayVec (Option BookContents))) : Type 0 where
  pub count : length books ≡ transfers_searched (length banks) transfers
  pub shards : All (λ row. length row.items ≡ length banks) books
  pub each : HasBooks banks books

-- the books of so many shards and transfers, and the numbers of spectra
pub record AreCounted (shards transfers : ℕ) (books : List (ArrayVec (Option BookContents)))
    (spectra : List ℕ) : Type 0 where
  pub books_count : length books ≡ transfers_searched shards transfers
  pub shards_count : All (λ row. length row.items ≡ shards) books
  pub spectra_count : length spectra ≡ transfers_searched shards transfers

-- the books of the first n transfers, and the banks without their engines
pub record BooksTaken (n : ℕ) (all : List (Option Bank))
    (books : List (ArrayVec (Option BookContents)))
    (left : List (Option Bank)) : Type 0 where
  pub count : length left ≡ length all
  pub books_count : length books ≡ n
  pub shards : All (λ row. length row.items ≡ length all) books
  pub taken : (transfer s : ℕ) (bank : Bank) (e : EngineState) → transfer < n → HasBank all s bank →
      HasEngine (engines_of bank) transfer e → HasBook books transfer s e.book
  pub rest : (s : ℕ) (bank : Bank) → HasBank all s bank →
      (bank' : Bank) × HasBank left s bank' × (engines_of bank' ≡ drop n (engines_of bank))
