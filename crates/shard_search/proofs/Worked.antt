-- Worked values of what is sought, computed.
use Rattle.std.proofs.Common.{◌≡◌, [], ◌∷◌, refl}
use Rattle.search_model.specs.declared.candidate.Candidate.TheVariants.{Pulse, Fold}
use Rattle.shard_search.specs.Sought.{cells_in, counted_of, part_of, sought_of}

-- in rows from spectrum 10 on, of the ends 12 and 13 of the observation; folds stay
ends_of_a_part : sought_of (part_of 2 10 12 14) (Pulse 1 0 1 7 ∷ Pulse 2 0 1 8 ∷ Pulse 3 5 2 9 ∷ Pulse 4 0 1 6
    ∷ Fold 0 2 1 0 0 4 ∷ [])
    ≡ Pulse 12 0 1 8 ∷ Pulse 13 5 2 9 ∷ Fold 0 2 1 0 0 4 ∷ []
ends_of_a_part = refl

-- counted cells
cells_of_a_count : cells_in (counted_of (2 ∷ 2 ∷ 3 ∷ [])) 2 ≡ 3
cells_of_a_count = refl
