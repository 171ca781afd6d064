-- What stands at the place of a beam, and what the labels of all beams are.
use Rattle.std.proofs.Common.{◌≡◌, ℕ, ◌<◌, ◌∙◌, List, [], length, get_or, Option, sym, ap}
use Rattle.std.proofs.lemmas.List.{get_or-map, length-map}
use Rattle.dada_model.specs.Observation.{Observation}
use Rattle.search_model.specs.CandidateText.{Labels}
use Rattle.search_model.specs.Candidates.{plain_cells}
use Rattle.search_model.specs.Observed.{labels_of}
use Rattle.candidate_book.specs.Labelled.{labels_with}
use Rattle.beam_set.specs.declared.ended.BeamEnd.{BeamEnd}
use Rattle.beam_set.specs.declared.labels.BeamLabels.{BeamLabels}
use Rattle.beam_set.specs.Marks.{is_marked}
use Rattle.beam_set.specs.Text.{FoundBeam, nothing_found, word_of, marking, beam_text, beam_at}
use Rattle.beam_set.specs.Beams.{found_at, found_in, lists_in}

module _ (beams : List (Option BeamEnd)) (k : ℕ) (beam : Option BeamEnd) (within : k < length beams)
    (is : beam ≡ get_or beams k beam) where
  pub found_is : beam_at (found_in beams) k ≡ found_at beam
  found_is = get_or-map found_at beams k beam nothing_found within ∙ ap found_at (sym is)

  pub inside : k < length (found_in beams)
  inside = rw (length-map beams found_at) within

  pub listed : k < length (lists_in beams)
  listed = rw (length-map (found_in beams) (λ (f : FoundBeam). f.list)) inside

  pub list_is : get_or (lists_in beams) k [] ≡ (found_at beam).list
  list_is =
      get_or-map (λ (f : FoundBeam). f.list) (found_in beams) k nothing_found [] inside
      ∙ ap (λ (f : FoundBeam). f.list) found_is

-- what the labels of all beams say
abbrev shown : Observation → ℕ → List (Option BeamEnd) → ℕ → ℕ → Labels
shown o channels beams within more =
    labels_with o (λ d. plain_cells channels d) (λ end. word_of (is_marked (lists_in beams) within more end))

-- the text of beam b
abbrev pub piece : Observation → ℕ → ℕ → List (Option BeamEnd) → ℕ → List ℕ
piece o within more beams b =
    beam_text (marking (labels_of o) within more (found_in beams)) b (beam_at (found_in beams) b)

marking_is : (o : Observation) (channels : ℕ) (beams held : List (Option BeamEnd)) (within w more m : ℕ) →
    channels ≡ o.channels → held ≡ beams → w ≡ within → m ≡ more →
    shown o channels held w m ≡ marking (labels_of o) within more (found_in beams)
marking_is o channels beams held within w more m e1 e2 e3 e4 =
    ap (λ (n : ℕ). shown o n held w m) e1
    ∙ ap (λ (b : List (Option BeamEnd)). shown o o.channels b w m) e2
    ∙ ap (λ (n : ℕ). shown o o.channels beams n m) e3
    ∙ ap (λ (n : ℕ). shown o o.channels beams within n) e4

-- it is what is written of the beam with these labels
pub piece_is : (o : Observation) (labels : BeamLabels) (beams : List (Option BeamEnd)) (within more k : ℕ)
    (beam : Option BeamEnd) →
    labels.channels ≡ o.channels → labels.beams.now ≡ beams → labels.within ≡ within → labels.more ≡ more →
    k < length beams → beam ≡ get_or beams k beam →
    beam_text (shown o labels.channels labels.beams.now labels.within labels.more) k (found_at beam)
    ≡ piece o within more beams k
piece_is o labels beams within more k beam e1 e2 e3 e4 below is =
    let f = found_in beams in
    ap (λ l. beam_text l k (found_at beam))
    (marking_is o labels.channels beams labels.beams.now within labels.within more labels.more e1 e2 e3 e4)
    ∙ ap (λ (x : FoundBeam). beam_text (marking (labels_of o) within more f) k x) (sym (found_is beams k beam below is))
