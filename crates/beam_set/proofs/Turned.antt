-- Turns of beams that follow one another.
use Rattle.std.proofs.Common.{ℕ, ◌+◌, List, Option, Some, None}
use Rattle.psr_base.specs.Told.{Told}
use Rattle.search_session.specs.LoneEnds.{LoneTurnsAdd}
use Rattle.beam_set.specs.declared.beam.Beam.{Beam}
use Rattle.beam_set.specs.Beam.{session_in}
use Rattle.beam_set.specs.Sets.{EachPair, PairsMoved, SlotOn, SlotMoved}
use Rattle.beam_set.proofs.Pairing.{moved_none, moved_more}

module _ {I : Type 0} (told : I → Told) (is_open is_calm : I → Type 0) (faults : I → ℕ)
    (law : LoneTurnsAdd told is_calm faults) where
  slot_none : (slot : Option Beam) (lent : I) → SlotOn told is_open slot lent →
      SlotMoved told is_calm faults 0 lent slot lent slot
  slot_none None lent on = absurd on
  slot_none (Some beam) lent on = law.none lent (session_in beam) on.0

  slot_more : (n m : ℕ) (u v w : I) (x y z : Option Beam) → SlotMoved told is_calm faults n u x v y →
      SlotMoved told is_calm faults m v y w z → SlotMoved told is_calm faults (n + m) u x w z
  slot_more n m u v w None None None a b = tt
  slot_more n m u v w (Some x) (Some y) (Some z) a b =
      law.more n m u v w (session_in x) (session_in y) (session_in z) a b
  slot_more n m u v w x None (Some z) a b = absurd b
  slot_more n m u v w x (Some y) None a b = absurd b
  slot_more n m u v w x y z a b = absurd a

  -- all beams, with no turn and with more
  pub set_none : {xs : List (Option Beam)} {us : List I} → EachPair (SlotOn told is_open) xs us →
      (n : ℕ) × PairsMoved (SlotMoved told is_calm faults n) us xs us xs
  set_none on = (0, moved_none (SlotMoved told is_calm faults 0) (SlotOn told is_open) slot_none _ _ on)

  pub set_more : {xs ys zs : List (Option Beam)} {us vs ws : List I} (m : ℕ) →
      (n : ℕ) × PairsMoved (SlotMoved told is_calm faults n) us xs vs ys →
      PairsMoved (SlotMoved told is_calm faults m) vs ys ws zs →
      (n : ℕ) × PairsMoved (SlotMoved told is_calm faults n) us xs ws zs
  set_more m (n, a) b = (
    n + m,
    moved_more (SlotMoved told is_calm faults n) (SlotMoved told is_calm faults m) (SlotMoved told is_calm faults (n + m))
        (slot_more n m) _ _ _ _ _ _ a b,
  )
