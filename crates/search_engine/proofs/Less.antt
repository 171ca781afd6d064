-- Channels that are left out one after another.
use Rattle.std.proofs.Common.{◌≡◌, ◌≢◌, ℕ, ◌+◌, ◌<◌, refl, inl, inr, Bool, true, false, cond, List, ◌∙◌, sym, ap, subst, arith}
use Rattle.std.proofs.lemmas.Bool.{cases_lt, lt-ltb, le-ltb}
use Rattle.spectra_rows.specs.Unpacking.{Unpacking, LeavesOut, StandsForKept, unpacked}
use Rattle.search_engine.specs.Scope.{kept_below, kept_by}

pub same_kept : (u : Unpacking) (bytes : List ℕ) (gone : ℕ) (kept less : ℕ → Bool)
    → ((c : ℕ) → c < u.channels → less c ≡ kept c) → StandsForKept kept u bytes gone → StandsForKept less u bytes gone
same_kept u bytes gone kept less same stands = record {
  holds = stands.holds;
  rows = λ c t here low. stands.rows c t here low
      ∙ sym (ap (λ (b : Bool). cond b ((unpacked u bytes).value c (gone + t)) 0) (same c here));
}

-- below i + 1 as below i, but for i
below_more : (masked : List Bool) (i c : ℕ) → c ≢ i → kept_below masked (i + 1) c ≡ kept_below masked i c
below_more masked i c ne = elim (cases_lt c i) [
  | inl lt ↦ rw (lt-ltb c i lt) (rw (lt-ltb c (i + 1) (omega arith)) refl)
  | inr ge ↦ rw (le-ltb c i ge) (rw (le-ltb c (i + 1) (omega arith)) refl)
]

at_more : (masked : List Bool) (i : ℕ) → kept_below masked (i + 1) i ≡ kept_by masked i
at_more masked i = rw (lt-ltb i (i + 1) (omega arith)) refl

pub leaves_out : (masked : List Bool) (i n : ℕ) → kept_by masked i ≡ false
    → LeavesOut n i (kept_below masked i) (kept_below masked (i + 1))
leaves_out masked i n is = record {
  channel_is = at_more masked i ∙ is;
  others = λ c here ne. below_more masked i c ne;
}

pub keeps : (masked : List Bool) (i c : ℕ) → kept_by masked i ≡ true
    → kept_below masked (i + 1) c ≡ kept_below masked i c
keeps masked i c is = elim (cases_lt c i) [
  | inl lt ↦ below_more masked i c (omega arith)
  | inr ge ↦ elim (cases_lt i c) [
    | inl gt ↦ below_more masked i c (omega arith)
    | inr le ↦
        let e : i ≡ c = omega arith in
        let P : ℕ → Type 0 = λ k. kept_below masked (i + 1) k ≡ kept_below masked i k in
        let here : kept_below masked i i ≡ true = rw (le-ltb i i (omega arith)) refl in
        subst P e (at_more masked i ∙ is ∙ sym here)
  ]
]
