-- What an unpacker stands for after a channel was silenced.
use Rattle.std.proofs.Common.{◌≡◌, ◌≢◌, ℕ, ◌+◌, ◌*◌, ◌<◌, ◌≤◌, refl, inl, inr, Bool, cond, List, slice_index, ◌∙◌, sym, ap, subst, arith}
use Rattle.std.proofs.lemmas.Bool.{cases_lt}
use Rattle.search_model.specs.Masks.{kept_of}
use Rattle.spectra_rows.specs.Unpacking.{Unpacking, IsWithout, LeavesOut, StandsForKept, unpacked}
use Rattle.spectra_rows.specs.Cells.{Silences}
use Rattle.spectra_rows.proofs.Parts.{rows_apart}

module _ (u : Unpacking) (rows : List ℕ) (channel : ℕ) (kept less : ℕ → Bool) (bytes : List ℕ) (gone : ℕ)
    (few : u.whole ≤ u.chunk) (without : IsWithout channel u (record u { rows = rows }))
    (leaves : LeavesOut u.channels channel kept less) (stands : StandsForKept kept u bytes gone) where
  abbrev value : (ℕ → Bool) → ℕ → ℕ → ℕ
  value which c t = (kept_of which (unpacked u bytes)).value c (gone + t)

  silent : (t : ℕ) → t < u.whole → slice_index rows (channel * u.chunk + t) ≡ value less channel t
  silent t low =
      without.silent t low
      ∙ sym (ap (λ (b : Bool). cond b ((unpacked u bytes).value channel (gone + t)) 0) leaves.channel_is)

  other : (c t : ℕ) → c < u.channels → t < u.whole → c ≢ channel
      → slice_index rows (c * u.chunk + t) ≡ slice_index u.rows (c * u.chunk + t)
      → slice_index rows (c * u.chunk + t) ≡ value less c t
  other c t here low ne stays =
      stays ∙ stands.rows c t here low
      ∙ sym (ap (λ (b : Bool). cond b ((unpacked u bytes).value c (gone + t)) 0) (leaves.others c here ne))

  less_kept : StandsForKept less (record u { rows = rows }) bytes gone
  less_kept = record {
    holds = record {
      size = stands.holds.size;
      short = stands.holds.short;
      part = stands.holds.part;
    };
    rows = λ c t here low. elim (cases_lt c channel) [
      | inl before ↦
          let apart = rows_apart c channel u.chunk before in
          other c t here low (omega arith) (without.others (c * u.chunk + t) (inl (omega arith)))
      | inr ge ↦ elim (cases_lt channel c) [
        | inl behind ↦
            let apart = rows_apart channel c u.chunk behind in
            other c t here low (omega arith) (without.others (c * u.chunk + t) (inr (omega arith)))
        | inr le ↦
            let e : channel ≡ c = omega arith in
            subst (λ (d : ℕ). slice_index rows (d * u.chunk + t) ≡ value less d t) e (silent t low)
      ]
    ];
  }

-- a channel whose values are 0 is left out
without : (u : Unpacking) (rows : List ℕ) (channel : ℕ) → Silences u.rows rows (channel * u.chunk) u.whole
    → IsWithout channel u (record u { rows = rows })
without u rows channel silences = record {
  same = refl;
  long = silences.long;
  silent = λ t low. silences.silent (channel * u.chunk + t) (omega arith) (omega arith);
  others = silences.others;
}

-- one channel less is kept
pub keeps_less : (u v : Unpacking) (in_bytes : Bool) (rows : List ℕ) (channel : ℕ) → u ≡ v → in_bytes ≡ u.in_bytes
    → u.whole ≤ u.chunk → Silences u.rows rows (channel * u.chunk) u.whole
    → (kept less : ℕ → Bool) (bytes : List ℕ) (gone : ℕ) → LeavesOut v.channels channel kept less
    → StandsForKept kept v bytes gone
    → StandsForKept less (record u { in_bytes = in_bytes; rows = rows }) bytes gone
keeps_less u v in_bytes rows channel is kind few silences kept less bytes gone =
    let New : Bool → Unpacking = λ b. record u { in_bytes = b; rows = rows } in
    subst (λ (w : Unpacking). LeavesOut w.channels channel kept less → StandsForKept kept w bytes gone
    → StandsForKept less (New in_bytes) bytes gone) is
    (λ leaves stands. subst (λ (b : Bool). StandsForKept less (New b) bytes gone) (sym kind)
    (less_kept u rows channel kept less bytes gone few (without u rows channel silences) leaves stands))
