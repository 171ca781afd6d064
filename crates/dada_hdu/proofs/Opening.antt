-- The readers' first passes.
use Rattle.std.proofs.Common.{ℕ, ◌<◌, List, length, Option, Some, sym, subst, All, IsSomeAnd}
use Rattle.std.proofs.lemmas.Option.{get_or_from_slice_get}
use Rattle.ring_ends.specs.declared.passes.ReaderPass.{ReaderPass}
use Rattle.ring_ends.specs.Passes.{HasFreshPass}
use Rattle.dada_hdu.specs.declared.hdu.Hdu.{Hdu}
use Rattle.dada_hdu.specs.declared.passes.HduReader.{HduReader}
use Rattle.dada_hdu.specs.Pairs.{reader_with, PairsEach}
use Rattle.dada_hdu.specs.Passes.{header_ring, data_ring, ReadsBoth, HasFreshReader}

pub fresh_pair : (hdu : Hdu) (headers blocks : List (Option ReaderPass)) (readers : List (Option HduReader)) (i : ℕ) →
    PairsEach headers blocks readers → HasFreshPass (header_ring hdu) headers i →
    HasFreshPass (data_ring hdu) blocks i → HasFreshReader hdu readers i
fresh_pair hdu headers blocks readers i pairs h b = (
  reader_with h.0 b.0,
  pairs i h.0 b.0 h.1 b.1,
  record {
    ring = record { header = h.2; blocks = b.2; number = cc };
    header = h.3;
    blocks = b.3;
    no_header = h.4;
    no_block = b.4;
  },
)

pub all_fresh : (hdu : Hdu) (readers : List (Option HduReader)) →
    ((i : ℕ) → i < length readers → HasFreshReader hdu readers i) → All (λ o. IsSomeAnd o (ReadsBoth hdu)) readers
all_fresh hdu readers fresh k d near = let h = fresh k near in
    subst (λ (o : Option HduReader). IsSomeAnd o (ReadsBoth hdu))
    (sym (get_or_from_slice_get readers k (Some h.0) d h.1)) h.2.ring
