-- One read of a reader of both rings, and none.
use Rattle.std.proofs.Common.{◌≡◌, ℕ, ◌+◌, ◌≤◌, inl, inr, Bool, true, false, List, [], length, Some, None, refl, sym, ap, ◌∙◌, arith}
use Rattle.std.proofs.lemmas.List.{append-nil}
use Rattle.ring_blocks.specs.declared.Entry.{Entry}
use Rattle.ring_words.specs.declared.views.ReaderView.{ReaderView}
use Rattle.ring_words.specs.Ring.{Begins}
use Rattle.ring_words.specs.Views.{got_list, after_hit, after_miss, after_give, after_clear}
use Rattle.ring_words.specs.Steps.{home_word}
use Rattle.ring_ends.specs.declared.passes.ReaderPass.{ReaderPass}
use Rattle.ring_ends.specs.declared.answers.ReadStop.{ReadStop}
use Rattle.ring_ends.specs.declared.answers.ReadStop.TheVariants.{Empty, Busy}
use Rattle.ring_ends.specs.Answers.{IsReadStop}
use Rattle.ring_ends.specs.Passes.{reader_knows}
use Rattle.dada_hdu.specs.declared.ended.HduEnded.{HduEnded}
use Rattle.dada_hdu.specs.Passes.{number_of, tries_of}
use Rattle.session_readers.specs.Reads.{FindsWord, TriesNext, Rests, header_view, data_view, ReadsRing, ReadsNext, HasRested, Reads}

-- ---- lists of blocks

pub begins_same : (xs ys : List Entry) → ys ≡ xs → Begins xs ys
begins_same xs ys same = ([], same ∙ sym (append-nil xs))

-- ---- one try

-- it took the next block, gave it back and cleared it
pub takes_next : (old new : ReaderView) (block : Entry) →
    new ≡ after_clear (after_give (after_hit old (home_word (length old.cleared)) block)) →
    ((held : Entry) → old.got ≡ Some held → held ≡ block) → TriesNext old new
takes_next old new block view same = record {
  number = ap (λ (v : ReaderView). v.number) view;
  tries = ap (λ (v : ReaderView). v.tries) view;
  found = Some block;
  cleared = ap (λ (v : ReaderView). v.cleared) view;
  holds_none = λ none. ap (λ (v : ReaderView). v.got) view;
  again = λ held taken had is. sym (same held had ∙ inside block taken is);
  word = home_word (length old.cleared);
  finds = refl;
  last_try = ap (λ (v : ReaderView). v.last_try) view;
}
  where
    inside : (a b : Entry) → Some a ≡ Some b → a ≡ b
    inside a b e = cc

-- it found a word, and took none
misses_word : (old new : ReaderView) (word : ℕ) → new ≡ after_miss old word → FindsWord old None word →
    TriesNext old new
misses_word old new word view finds = record {
  number = ap (λ (v : ReaderView). v.number) view;
  tries = ap (λ (v : ReaderView). v.tries) view;
  found = None;
  cleared = ap (λ (v : ReaderView). v.cleared) view ∙ sym (append-nil old.cleared);
  holds_none = λ none. ap (λ (v : ReaderView). v.got) view ∙ none;
  again = λ held taken had is. absurd (none_is_some taken is);
  word = word;
  finds = finds;
  last_try = ap (λ (v : ReaderView). v.last_try) view;
}
  where
    none_is_some : (e : Entry) → None ≡ Some e → ⊥
    none_is_some e is = cc

pub misses_next : (old new : ReaderView) (stop : ReadStop) → IsReadStop old stop new → TriesNext old new
misses_next old new (Empty block seen) s = misses_word old new s.word s.rest (inl (older s.wanted s.seen_is s.older))
  where
    older : {n m : ℕ} → block ≡ n → seen ≡ m → seen ≤ block → m ≤ n
    older wanted is less = omega arith
misses_next old new (Busy block reader) s = misses_word old new s.word s.rest (inr (record {
  seen = s.seen ∙ ap (λ (n : ℕ). n + 1) s.wanted;
  reader = reader;
  holder = s.holder;
  near = s.near;
  other = s.other;
}))

-- ---- no read

rests_itself : (v : ReaderView) → Rests v v
rests_itself v = record { number = refl; tries = refl; cleared = refl; holds_none = λ none. none; last_try = refl }

pub pass_rests : (old new : ReaderPass) → new ≡ old → Rests (reader_knows old) (reader_knows new)
pass_rests old new same = record {
  number = ap (λ (p : ReaderPass). (reader_knows p).number) same;
  tries = ap (λ (p : ReaderPass). (reader_knows p).tries) same;
  cleared = ap (λ (p : ReaderPass). (reader_knows p).cleared) same;
  holds_none = λ none. ap (λ (p : ReaderPass). (reader_knows p).got) same ∙ none;
  last_try = ap (λ (p : ReaderPass). (reader_knows p).last_try) same;
}

pub rested_itself : (p : HduEnded) → HasRested p p
rested_itself p = record { header = rests_itself (header_view p); blocks = rests_itself (data_view p) }

-- ---- reads in a row, none or one

module _ (Goes : HduEnded → Type 0) where
  pub no_reads : (p q : HduEnded) → HasRested p q → Reads Goes 0 p q
  unfolding Reads
  no_reads p q rest = rest

  pub one_read : (p q : HduEnded) → Goes p → ReadsNext p q → Reads Goes 1 p q
  unfolding Reads
  one_read p q goes read = (p, rested_itself p, goes, read)

-- ---- what a read leaves

pub read_number : (b : Bool) (p q : HduEnded) → ReadsRing b p q → number_of q ≡ number_of p
read_number true p q read = read.1.number
read_number false p q read = read.1.number

pub read_tries : (b : Bool) (p q : HduEnded) → ReadsRing b p q → tries_of q ≡ tries_of p + 1
read_tries true p q read = let more = read.0.tries in let still = read.1.tries in omega arith
read_tries false p q read = let still = read.0.tries in let more = read.1.tries in omega arith

pub read_headers : (b : Bool) (p q : HduEnded) → ReadsRing b p q →
    Begins (header_view p).cleared (header_view q).cleared
read_headers true p q read = (got_list read.0.found, read.0.cleared)
read_headers false p q read = begins_same (header_view p).cleared (header_view q).cleared read.0.cleared

pub read_blocks : (b : Bool) (p q : HduEnded) → ReadsRing b p q → Begins (data_view p).cleared (data_view q).cleared
read_blocks true p q read = begins_same (data_view p).cleared (data_view q).cleared read.1.cleared
read_blocks false p q read = (got_list read.1.found, read.1.cleared)

pub rested_tries : (p q : HduEnded) → HasRested p q → tries_of q ≡ tries_of p
rested_tries p q rest = let header = rest.header.tries in let blocks = rest.blocks.tries in omega arith
