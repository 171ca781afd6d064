-- Texts of several beams, by their definition.
use Rattle.std.specs.Prelude.{◌≡◌, ℕ, List, [], ◌∷◌, ◌++◌, map, codes, refl}
use Rattle.std.specs.Fmt.{digits}
use Rattle.dada_model.specs.Observation.{edges, dm, dispersion_span, edge, signed_edge}
use Rattle.dada_model.specs.Worked.{two_channels}
use Rattle.search_model.specs.declared.candidate.Candidate.TheVariants.{Pulse, Fold}
use Rattle.search_model.specs.declared.search.Search.{Search}
use Rattle.search_model.specs.Paths.{entry, path}
use Rattle.beam_set.specs.Marks.{near_beams}
use Rattle.beam_set.specs.Text.{beam_line}
use Rattle.beam_set.specs.Searched.{searched_beams_text}

abbrev plain_search : Search
plain_search = record {
  min_delay = 0;
  max_delay = 1;
  widest = 1;
  fold_min = 2;
  fold_max = 0;
  fold_rows = 6;
  fold_step = 64;
  chunk = 1024;
  shards = 1;
  max_candidates = 65536;
  mean = 1000;
  sd = 2000;
  snr = 700;
}

-- a pulse that ends at spectrum 1, the same one spectrum later, and nothing
abbrev pulse : List ℕ
pulse = 10 ∷ 0 ∷ 0 ∷ 20 ∷ 0 ∷ 0 ∷ []

abbrev later_pulse : List ℕ
later_pulse = 0 ∷ 0 ∷ 10 ∷ 0 ∷ 0 ∷ 20 ∷ []

abbrev nothing : List ℕ
nothing = 0 ∷ 0 ∷ 0 ∷ 0 ∷ 0 ∷ 0 ∷ []

abbrev text_of : ℕ → ℕ → List (List ℕ) → List ℕ
text_of within more beams = searched_beams_text two_channels plain_search within more beams

-- two of three beams have the pulse, and one is the most
marked : text_of 0 1 (pulse ∷ pulse ∷ nothing ∷ [])
    ≡ codes "BEAM 0\nRFI 1 1 0.104 1 30 3\nEND 1 0 3\nBEAM 1\nRFI 1 1 0.104 1 30 3\nEND 1 0 3\n"
    ++ codes "BEAM 2\nEND 0 0 3\n"
unfolding digits edges edge signed_edge dm dispersion_span path entry beam_line
marked = refl

-- two are the most
not_marked : text_of 0 2 (pulse ∷ pulse ∷ nothing ∷ [])
    ≡ codes "BEAM 0\nPULSE 1 1 0.104 1 30 3\nEND 1 0 3\nBEAM 1\nPULSE 1 1 0.104 1 30 3\nEND 1 0 3\n"
    ++ codes "BEAM 2\nEND 0 0 3\n"
unfolding digits edges edge signed_edge dm dispersion_span path entry beam_line
not_marked = refl

-- one spectrum apart: near where that is allowed
apart : text_of 0 1 (pulse ∷ later_pulse ∷ [])
    ≡ codes "BEAM 0\nPULSE 1 1 0.104 1 30 3\nEND 1 0 3\nBEAM 1\nPULSE 2 1 0.104 1 30 3\nEND 1 0 3\n"
unfolding digits edges edge signed_edge dm dispersion_span path entry beam_line
apart = refl

near : text_of 1 1 (pulse ∷ later_pulse ∷ [])
    ≡ codes "BEAM 0\nRFI 1 1 0.104 1 30 3\nEND 1 0 3\nBEAM 1\nRFI 2 1 0.104 1 30 3\nEND 1 0 3\n"
unfolding digits edges edge signed_edge dm dispersion_span path entry beam_line
near = refl

-- three pulses of one beam are one beam, and folds are near nothing
counts : map (near_beams ((Pulse 4 0 1 9 ∷ Pulse 4 1 2 9 ∷ Pulse 5 0 1 9 ∷ []) ∷ (Fold 4 2 1 0 0 9 ∷ []) ∷ []) 1)
    (2 ∷ 3 ∷ 6 ∷ 7 ∷ [])
    ≡ 0 ∷ 1 ∷ 1 ∷ 0 ∷ []
counts = refl
