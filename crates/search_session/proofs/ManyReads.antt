-- Reads that follow one another.
use Rattle.std.proofs.Common.{◌≡◌, ℕ, zero, suc, ◌+◌, Bool, true, false, List, [], ◌++◌, refl, sym, ◌∙◌, append_assoc, arith}
use Rattle.std.proofs.lemmas.List.{append-nil}
use Rattle.ring_blocks.specs.declared.Entry.{Entry}
use Rattle.ring_words.specs.declared.views.ReaderView.{ReaderView}
use Rattle.ring_words.specs.Ring.{Begins}
use Rattle.dada_hdu.specs.declared.ended.HduEnded.{HduEnded}
use Rattle.session_readers.specs.Reads.{TriesNext, Rests, header_view, data_view, header_is_next, ReadsRing, HasRested, Reads}

-- ---- lists of blocks

pub begins_itself : (xs : List Entry) → Begins xs xs
begins_itself xs = ([], sym (append-nil xs))

pub begins_more : (xs ys zs : List Entry) → Begins xs ys → Begins ys zs → Begins xs zs
begins_more xs ys zs a b =
    (a.0 ++ b.0, b.1 ∙ rw a.1 (append_assoc xs a.0 b.0))

-- ---- no read

rests_itself : (v : ReaderView) → Rests v v
rests_itself v = record { number = refl; tries = refl; cleared = refl; holds_none = λ none. none; last_try = refl }

rests_more : (u v w : ReaderView) → Rests u v → Rests v w → Rests u w
rests_more u v w a b = record {
  number = b.number ∙ a.number;
  tries = b.tries ∙ a.tries;
  cleared = b.cleared ∙ a.cleared;
  holds_none = λ none. b.holds_none (a.holds_none none);
  last_try = b.last_try ∙ a.last_try;
}

tries_rests : (u v w : ReaderView) → TriesNext u v → Rests v w → TriesNext u w
tries_rests u v w a b = record {
  number = b.number ∙ a.number;
  tries = b.tries ∙ a.tries;
  found = a.found;
  cleared = b.cleared ∙ a.cleared;
  holds_none = λ none. b.holds_none (a.holds_none none);
  again = a.again;
  word = a.word;
  finds = a.finds;
  last_try = b.last_try ∙ a.last_try;
}

pub rested_itself : (p : HduEnded) → HasRested p p
rested_itself p = record { header = rests_itself (header_view p); blocks = rests_itself (data_view p) }

rested_more : (p q r : HduEnded) → HasRested p q → HasRested q r → HasRested p r
rested_more p q r a b = record {
  header = rests_more (header_view p) (header_view q) (header_view r) a.header b.header;
  blocks = rests_more (data_view p) (data_view q) (data_view r) a.blocks b.blocks;
}

ring_rests : (b : Bool) (p q r : HduEnded) → ReadsRing b p q → HasRested q r → ReadsRing b p r
ring_rests true p q r read rest = (
  tries_rests (header_view p) (header_view q) (header_view r) read.0 rest.header,
  rests_more (data_view p) (data_view q) (data_view r) read.1 rest.blocks,
)
ring_rests false p q r read rest = (
  rests_more (header_view p) (header_view q) (header_view r) read.0 rest.header,
  tries_rests (data_view p) (data_view q) (data_view r) read.1 rest.blocks,
)

-- ---- many reads

module _ (Goes : HduEnded → Type 0) where
  pub no_reads : (p q : HduEnded) → HasRested p q → Reads Goes 0 p q
  unfolding Reads
  no_reads p q rest = rest

  reads_rest : (n : ℕ) (p q r : HduEnded) → Reads Goes n p q → HasRested q r → Reads Goes n p r
  unfolding Reads
  reads_rest zero p q r first rest = rested_more p q r first rest
  reads_rest (suc n) p q r first rest =
      (first.0, first.1, first.2, ring_rests (header_is_next first.0) first.0 q r first.3 rest)

  -- where what is true before each of the second ones is so before the first ones
  pub reads_more : (Then : HduEnded → Type 0) → ((p : HduEnded) → Then p → Goes p) → (n m : ℕ) (p q r : HduEnded) →
      Reads Goes n p q → Reads Then m q r → Reads Goes (n + m) p r
  unfolding Reads
  reads_more Then goes n zero p q r first second =
      let same : n ≡ n + 0 = omega arith in
      rw same at (reads_rest n p q r first second)
  reads_more Then goes n (suc m) p q r first second =
      let same : n + suc m ≡ suc (n + m) = omega arith in
      rw same (second.0, reads_more Then goes n m p q second.0 first second.1, goes second.0 second.2, second.3)
