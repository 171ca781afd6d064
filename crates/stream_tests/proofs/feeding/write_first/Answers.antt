use Rattle.std.proofs.Common.{◌≡◌, ℕ, List, [], ◌∷◌, ◌++◌, Some, take, sym, ap, ◌∙◌, subst}
use Rattle.std.specs.Prelude.{slice_get}
use Rattle.dada_model.specs.Fields.{HeaderText}
use Rattle.ring_blocks.specs.declared.Entry.{Entry}
use Rattle.ring_words.specs.declared.views.WriterView.{WriterView}
use Rattle.ring_ends.specs.declared.passes.WriterPass.{WriterPass}
use Rattle.ring_ends.specs.Passes.{writer_knows}
use Rattle.ring_ends.specs.Answers.{IsWritten}
use Rattle.dada_hdu.specs.Answers.{header_entry}
use Rattle.disk_feeder.specs.Feeder.{FeederFeeds, headers_of}
use Rattle.disk_feeder.specs.Feeding.{header_entries}
use Rattle.disk_feeder.specs.Turns.{sealed_headers, sealed_blocks}
use Rattle.stream_tests.proofs.feeding.write_first.Goals as goal

-- the blocks of the first header alone
one_header : (headers : List HeaderText) (header : HeaderText) → slice_get headers 0 ≡ Some header →
    header_entry header ∷ [] ≡ header_entries (take 1 headers)
one_header [] header at = absurd cc
one_header (h ∷ hs) header at = let same : header ≡ h = cc in ap (λ (x : HeaderText). header_entry x ∷ []) same

-- what is sealed after a write
written : (w w' : WriterView) (entry : Entry) (n : ℕ) → IsWritten w entry n w' → w'.sealed ≡ w.sealed ++ entry ∷ []
written w w' entry n is =
    ap (λ (v : WriterView). v.sealed) is.view
    ∙ ap (λ (v : WriterView). v.sealed ++ entry ∷ []) is.saw.in_turn.rest

pub returns-in-Ok-clause-feeding : goal.returns-in-Ok-clause-feeding
returns-in-Ok-clause-feeding g c = λ done.
    let f = c.args.feeder.now in
    let told = g.I.Inputs.told f.inputs.now in
    let old = c.args.pass.now in
    let new = c.write_header.new.pass in
    let header = c.header.result.now in
    let headers : sealed_headers new ≡ header_entries (take 1 (headers_of f)) =
    written (writer_knows old.header) (writer_knows new.header) (header_entry header) _ c.in-Ok.ensures.header
    ∙ ap (λ (es : List Entry). es ++ header_entry header ∷ []) c.requires.no_header
    ∙ one_header (headers_of f) header c.header.ensures in
    let blocks : sealed_blocks new ≡ [] =
    ap (λ (p : WriterPass). (writer_knows p).sealed) c.write_header.ensures.blocks ∙ c.requires.no_block in
    let P : List Entry → Type 0 = λ h. FeederFeeds told f h (sealed_blocks new) in
    let Q : List Entry → Type 0 = λ b. FeederFeeds told f (header_entries (take 1 (headers_of f))) b in
    subst P (sym headers) (subst Q (sym blocks) c.requires.feeds)
