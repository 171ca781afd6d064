-- Books are taken, engine by engine.
use Rattle.std.proofs.Common.{◌≡◌, ℕ, zero, suc, ◌+◌, ◌<◌, List, [], ◌∷◌, ◌++◌, length, length-append, get_or, drop, remove, Option, Some, None, slice_get, slice_set, refl, sym, ap, ◌∙◌, arith}
use Rattle.std.specs.Prelude.{OnSome}
use Rattle.std.proofs.lemmas.List.{length-set, drop_more}
use Rattle.std.proofs.lemmas.List.Elements.{All-nil, All-push}
use Rattle.std.proofs.lemmas.Option.{same_Some, slice_get_within, slice_get-get_or, get_or_from_slice_get, slice_get_read}
use mathlib.Core.Logic.{dite}
use native.Mathlib.Decide.{ℕ_discrete}
use Rattle.arrayvec.specs.ArrayVec.{ArrayVec}
use Rattle.candidate_book.specs.Book.{BookContents}
use Rattle.search_engine.specs.Engine.{EngineState}
use Rattle.session_readers.specs.declared.bank.Bank.{Bank}
use Rattle.search_session.specs.Books.{HasBank, HaveEngines, transfers_searched, book_at, GivesFirst, FirstsGiven, AreBooks, BooksTaken}
use Rattle.search_session.proofs.Rows.{one_at, get_set_same, get_set_other, longer, at_end}
use Rattle.session_readers.specs.Banks.{engines_of}

-- the first element is taken
pub first_taken : {X : Type 0} (old new : List X) (r : Option X) (x slot : X) (rest : List X) → r ≡ slice_get old 0 →
    OnSome r (new ≡ remove old 0) → r ≡ Some x → old ≡ slot ∷ rest → (x ≡ slot) × (new ≡ rest)
first_taken {X} old new r x slot rest value items some is =
    let first : r ≡ Some slot = rw is at value in
    (same_Some x slot (sym some ∙ first), rw is at (rw some at items))

pub none_first : {X : Type 0} (old : List X) (r : Option X) (slot : X) (rest : List X) → r ≡ slice_get old 0 →
    r ≡ None → old ≡ slot ∷ rest → ⊥
none_first {X} old r slot rest value none is =
    let first : r ≡ Some slot = rw is at value in cc

pub no_firsts : (banks : List (Option Bank)) → FirstsGiven 0 banks [] banks
no_firsts banks = record {
  count = refl;
  books_count = refl;
  given = λ s bank slot rest before at is. absurd (omega arith);
  ahead = λ s after. refl;
}

-- one bank more
pub firsts_more : (old now : List (Option Bank)) (n : ℕ) (books : List (Option BookContents)) (slot new : Option Bank)
    (book : Option BookContents) → n < length now → FirstsGiven n old books now → slot ≡ get_or now n slot →
    GivesFirst slot book new → FirstsGiven (n + 1) old (books ++ book ∷ []) (slice_set now n new)
firsts_more old now n books slot new book near so_far is gives = record {
  count = length-set now n new ∙ so_far.count;
  books_count = length-append books (book ∷ []) ∙ ap (λ (k : ℕ). k + 1) so_far.books_count;
  given = λ s bank head rest before at engines. dite (ℕ_discrete s n)
      (λ same.
      let here : slot ≡ Some bank = same_Some slot (Some bank) (sym (slice_get_read now (length now) n slot refl near
      is)
      ∙ (so_far.ahead n (omega arith) ∙ rw same at at)) in
      let gave = gives bank head rest here engines in (
        rw (← gave.0) (at_end books book s (so_far.books_count ∙ sym same)),
        (
          gave.1.0,
          ap (λ (k : ℕ). slice_get (slice_set now n new) k) same ∙ (get_set_same now n new near
              ∙ ap (λ (l : Option Bank). Some l) gave.1.1),
          gave.1.2,
        ),
      ))
      (λ other.
      let was = so_far.given s bank head rest (omega arith) at engines in (
        longer books (book ∷ []) s (book_at head) was.0,
        (was.1.0, get_set_other now n s new other ∙ was.1.1, was.1.2),
      ));
  ahead = λ s after.
      let other : (s ≡ n) → ⊥ = λ same. absurd (omega arith) in
      get_set_other now n s new other ∙ so_far.ahead s (omega arith);
}

pub nothing_taken : (banks : List (Option Bank)) → BooksTaken 0 banks [] banks
nothing_taken banks = record {
  count = refl;
  books_count = refl;
  shards = All-nil (λ row. length row.items ≡ length banks);
  taken = λ transfer s bank e before at has. absurd (omega arith);
  rest = λ s bank at. (bank, at, refl);
}

-- the books of one transfer more
pub taken_more : (all left new : List (Option Bank)) (n transfers : ℕ) (books : List (ArrayVec (Option BookContents)))
    (row : ArrayVec (Option BookContents)) → HaveEngines transfers all → (0 < length all → n < transfers) →
    BooksTaken n all books left → FirstsGiven (length left) left row.items new →
    BooksTaken (n + 1) all (books ++ row ∷ []) new
taken_more all left new n transfers books row have near so_far firsts = record {
  count = firsts.count ∙ so_far.count;
  books_count = length-append books (row ∷ []) ∙ ap (λ (k : ℕ). k + 1) so_far.books_count;
  shards = All-push (λ r. length r.items ≡ length all) books row so_far.shards (firsts.books_count ∙ so_far.count);
  taken = λ transfer s bank e before at has. dite (ℕ_discrete transfer n)
      (λ same.
      let gave = gives s bank (Some e) at (rw same at has) in
      (row, at_end books row transfer (so_far.books_count ∙ sym same), gave.0))
      (λ other.
      let was = so_far.taken transfer s bank e (omega arith) at has in
      (was.0, longer books (row ∷ []) transfer was.0 was.1, was.2));
  rest = λ s bank at.
      let here = in_all s bank at in
      let less : n < transfers = near (omega arith) in
      let h = have s here in
      let same : h.0 ≡ bank = one_at all s h.0 bank h.1 at in
      let many : length (engines_of bank) ≡ transfers = rw same at h.2 in
      let slot = get_or (engines_of bank) n None in
      let gave = gives s bank slot at (slice_get-get_or (engines_of bank) n None (omega arith)) in
      gave.1;
}
  where
    in_all : (s : ℕ) (bank : Bank) → HasBank all s bank → s < length all
    in_all s bank at = slice_get_within all s (Some bank) at

    gives : (s : ℕ) (bank : Bank) (slot : Option EngineState) → HasBank all s bank →
        slice_get (engines_of bank) n ≡ Some slot → (slice_get row.items s ≡ Some (book_at slot))
        × ((bank' : Bank) × HasBank new s bank' × (engines_of bank' ≡ drop (n + 1) (engines_of bank)))
    gives s bank slot at has =
        let was = so_far.rest s bank at in
        let within = slice_get_within (engines_of bank) n slot has in
        let head = rw (get_or_from_slice_get (engines_of bank) n slot slot has) at
        (drop_more (engines_of bank) n slot within) in
        let place = slice_get_within left s (Some was.0) was.1 in
        firsts.given s was.0 slot (drop (n + 1) (engines_of bank)) place was.1 (was.2 ∙ head)

-- how many engines there are in each of some banks
pub some_searched : (shards transfers : ℕ) → 0 < shards → transfers_searched shards transfers ≡ transfers
some_searched zero transfers some = absurd (omega arith)
some_searched (suc shards) transfers some = refl

pub all_taken : (banks left : List (Option Bank)) (n transfers : ℕ) (books : List (ArrayVec (Option BookContents))) →
    HaveEngines transfers banks → n ≡ transfers_searched (length banks) transfers → BooksTaken n banks books left →
    AreBooks transfers banks books
all_taken banks left n transfers books have all taken = record {
  count = taken.books_count ∙ all;
  shards = taken.shards;
  each = λ transfer s bank e at has.
      let here = slice_get_within banks s (Some bank) at in
      let h = have s here in
      let same : h.0 ≡ bank = one_at banks s h.0 bank h.1 at in
      let many : length (engines_of bank) ≡ transfers = rw same at h.2 in
      let within = slice_get_within (engines_of bank) transfer (Some e) has in
      let n_is : n ≡ transfers = all ∙ some_searched (length banks) transfers (omega arith) in
      taken.taken transfer s bank e (omega arith) at has;
}
