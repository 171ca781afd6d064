-- The parts of a stage, as they come to it.
use Rattle.std.proofs.Common.{◌≡◌, ℕ, List, [], ◌∷◌, take, slice_get, Some, ap}
use Rattle.std.proofs.lemmas.Option.{same_Some}
use Rattle.dada_model.specs.Fields.{HeaderText}
use Rattle.dada_hdu.specs.declared.hdu.Hdu.{Hdu}
use Rattle.dada_hdu.specs.declared.passes.HduReader.{HduReader}
use Rattle.dada_hdu.specs.Answers.{header_entry}
use Rattle.dada_hdu.specs.Passes.{IsFreshReader}
use Rattle.disk_feeder.specs.Feeding.{header_entries}
use Rattle.search_session.specs.Stages.{IsUnread}

-- the block of the first header
pub first_entry : (headers : List HeaderText) (header : HeaderText) → slice_get headers 0 ≡ Some header →
    header_entries (take 1 headers) ≡ header_entry header ∷ []
first_entry [] header there = absurd cc
first_entry (first ∷ headers) header there =
    ap (λ (h : HeaderText). header_entry h ∷ []) (same_Some first header there)

-- a reader that has done nothing has cleared no block
pub is_unread : (hdu : Hdu) (i : ℕ) (reader : HduReader) → IsFreshReader hdu i reader → IsUnread hdu i reader
is_unread hdu i reader fresh = record {
  reads = fresh.ring;
  number_is = ap (λ v. v.number) fresh.blocks;
  no_header = ap (λ v. v.cleared) fresh.header;
  no_block = ap (λ v. v.cleared) fresh.blocks;
}
