-- Lanes that are raised, and a value of a row from a place on.
use Rattle.std.proofs.Common.{◌≡◌, ℕ, ◌+◌, ◌-◌, ◌<◌, inl, inr, List, length, slice_index, take, drop, replicate, ◌∙◌, ap, arith}
use Rattle.std.proofs.lemmas.Bool.{cases_lt}
use Rattle.std.proofs.lemmas.List.{get_or_past, get_or-take, get_or-drop}
use Rattle.std.proofs.lemmas.Simd.{get_or-replicate, length-replicate}
use Rattle.fdmt_rows.specs.Capped.{AreRaised}

-- lanes that are raised to nothing
pub raised_to_none : (lanes : List ℕ) (UpTo : ℕ → Type 0) → length lanes ≡ 16 → ((bound : ℕ) → UpTo bound)
    → AreRaised lanes lanes UpTo
raised_to_none lanes UpTo long all = record {
  long = long;
  before = λ bound up. up;
  enough = λ bound up. all bound;
  least = λ bound up up_to. up;
}

-- lanes that are raised twice
pub raised_twice : (old mid new : List ℕ) (First Second Both : ℕ → Type 0)
    → AreRaised old mid First → AreRaised mid new Second
    → ((bound : ℕ) → First bound → Second bound → Both bound)
    → ((bound : ℕ) → Both bound → First bound) → ((bound : ℕ) → Both bound → Second bound)
    → AreRaised old new Both
raised_twice old mid new First Second Both one other join left right = record {
  long = other.long;
  before = λ bound up. one.before bound (other.before bound up);
  enough = λ bound up. join bound (one.enough bound (other.before bound up)) (other.enough bound up);
  least = λ bound up all. other.least bound (one.least bound up (left bound all)) (right bound all);
}

-- raised to the same under another name
pub raised_same : (old new : List ℕ) (These Those : ℕ → Type 0) → AreRaised old new These
    → ((bound : ℕ) → These bound → Those bound) → ((bound : ℕ) → Those bound → These bound)
    → AreRaised old new Those
raised_same old new These Those raised there back = record {
  long = raised.long;
  before = raised.before;
  enough = λ bound up. there bound (raised.enough bound up);
  least = λ bound up all. raised.least bound up (back bound all);
}

-- a value of a row from a place on
pub turned_at : (row : List ℕ) (turn k : ℕ) → turn + k < length row
    → slice_index (take (length row - turn) (drop turn row)) k ≡ slice_index row (k + turn)
turned_at row turn k lt =
    get_or-take (length row - turn) (drop turn row) k 0 (omega arith)
    ∙ get_or-drop turn row k 0
    ∙ ap (λ i. slice_index row i) (let e : turn + k ≡ k + turn = omega arith in e)

-- lanes of 0
pub zero_lanes : (lane : ℕ) → slice_index (replicate 16 0) lane ≡ 0
zero_lanes lane = elim (cases_lt lane 16) [
  | inl h ↦ get_or-replicate {A = ℕ} 16 lane 0 0 h
  | inr h ↦ get_or_past (replicate 16 0) lane 0 (omega (arith, length-replicate {A = ℕ} 16 0))
]
