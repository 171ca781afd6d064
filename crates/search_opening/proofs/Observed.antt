-- Headers that are observed one after another.
use Rattle.std.proofs.Common.{◌≡◌, ℕ, ◌+◌, ◌<◌, ◌≤◌, inl, inr, List, [], ◌∷◌, ◌++◌, map, length, take, get_or, slice_get, Option, Some, None, Ok, refl, sym, ap, subst, ◌∙◌, arith}
use Rattle.std.proofs.lemmas.List.{take_more, length-map, map-append, get_or-map, length-take-le, get_or-take}
use Rattle.std.proofs.lemmas.Option.{slice_get_within, get_or_from_slice_get, slice_get_cases, same_Some, slice_get-get_or}
use Rattle.dada_model.specs.Fields.{HeaderText, fields_of}
use Rattle.dada_model.specs.Observation.{Observation, observation_of}
use Rattle.std.specs.Prelude.{IfSome}
use Rattle.std.proofs.lemmas.Bool.{cases_lt}
use Rattle.search_model.specs.declared.search.Search.{Search}
use Rattle.search_model.specs.Plan.{plan_refusal}
use Rattle.search_opening.specs.Plans.{PlansFit}
use Rattle.search_opening.specs.Recordings.{RecordingFits, RecordingsFit}
use Rattle.search_opening.specs.First.{AreObserved}

-- none
pub none_observed : AreObserved [] []
none_observed = record { said = []; here = refl; accepted = refl }

-- one more
pub one_observed : (headers : List HeaderText) (k : ℕ) (header : HeaderText) (observations : List (Option Observation))
    (o : Observation) → AreObserved (take k headers) observations → slice_get headers k ≡ Some header →
    observation_of (fields_of header.text) ≡ Ok o → AreObserved (take (k + 1) headers) (observations ++ Some o ∷ [])
one_observed headers k header observations o before there is = record {
  said = before.said ++ o ∷ [];
  here = ap (λ (xs : List (Option Observation)). xs ++ Some o ∷ []) before.here
      ∙ sym (map-append Some before.said (o ∷ []));
  accepted =
      let within = slice_get_within headers k header there in
      let same = get_or_from_slice_get headers k header header there in
      ap (map (λ (h : HeaderText). observation_of (fields_of h.text)))
      (take_more headers k header within ∙ ap (λ h. take k headers ++ h ∷ []) same)
      ∙ map-append (λ (h : HeaderText). observation_of (fields_of h.text)) (take k headers) (header ∷ [])
      ∙ ap (λ x. map (λ (h : HeaderText). observation_of (fields_of h.text)) (take k headers) ++ x ∷ []) is
      ∙ ap (λ xs. xs ++ Ok o ∷ []) before.accepted
      ∙ sym (map-append Ok before.said (o ∷ []));
}

module _ (headers : List HeaderText) (observations : List (Option Observation))
    (are : AreObserved headers observations) where
  said_count : length are.said ≡ length headers
  said_count = sym (length-map are.said Ok) ∙ sym (ap length are.accepted)
      ∙ length-map headers (λ h. observation_of (fields_of h.text))

  pub as_many : length observations ≡ length headers
  as_many = ap length are.here ∙ length-map are.said Some ∙ said_count

  -- an observation at each place
  pub some_at : (k : ℕ) → k < length observations → (o : Observation) × (get_or observations k None ≡ Some o)
  some_at k within =
      let many = as_many in
      let said = said_count in
      elim (slice_get_cases are.said k).1 [
        | inl at ↦ (
          at.0,
          ap (λ xs. get_or xs k None) are.here ∙ get_or-map Some are.said k at.0 None at.1 ∙ ap Some at.3,
        )
        | inr past ↦ absurd (omega (arith, past.0, within, many, said))
      ]

  -- it is what the header there says
  pub accepted_at : (k : ℕ) (o : Observation) (header : HeaderText) → get_or observations k None ≡ Some o →
      slice_get headers k ≡ Some header → observation_of (fields_of header.text) ≡ Ok o
  accepted_at k o header there at =
      let within = slice_get_within headers k header at in
      let said = said_count in
      let inside : k < length are.said = omega (arith, within, said) in
      let F = λ (h : HeaderText). observation_of (fields_of h.text) in
      let same : get_or are.said k o ≡ o = same_Some (get_or are.said k o) o
      (sym (get_or-map Some are.said k o None inside) ∙ sym (ap (λ xs. get_or xs k None) are.here) ∙ there) in
      let here : get_or headers k header ≡ header = get_or_from_slice_get headers k header header at in
      sym (ap F here) ∙ sym (get_or-map F headers k header (Ok o) within)
      ∙ ap (λ xs. get_or xs k (Ok o)) are.accepted
      ∙ get_or-map Ok are.said k o (Ok o) inside ∙ ap Ok same

-- the headers before are accepted
pub earlier_observed : (headers : List HeaderText) (t : ℕ) (observations : List (Option Observation)) →
    AreObserved (take t headers) observations → t ≤ length headers → (k : ℕ) (other : HeaderText) → k < t →
    slice_get headers k ≡ Some other → (o : Observation) × (observation_of (fields_of other.text) ≡ Ok o)
earlier_observed headers t observations are within k other before there =
    let front = take t headers in
    let cut = length-take-le t headers within in
    let many = as_many front observations are in
    let o = some_at front observations are k (omega (arith, before, cut, many)) in
    let same : get_or front k other ≡ other =
    get_or-take t headers k other before ∙ get_or_from_slice_get headers k other other there in
    let at : slice_get front k ≡ Some other =
    slice_get-get_or front k other (omega (arith, before, cut)) ∙ ap Some same in
    (o.0, accepted_at front observations are k o.0 other o.1 at)

-- ---- plans

-- what was read at a place is the observation there
pub read_at : (observations : List (Option Observation)) (k : ℕ) (at : Option Observation) (o : Observation) →
    at ≡ get_or observations k at → slice_get observations k ≡ Some (Some o) → at ≡ Some o
read_at observations k at o is there = is ∙ get_or_from_slice_get observations k (Some o) at there

pub one_fits : (s : Search) (observations : List (Option Observation)) (k : ℕ) (at : Option Observation) →
    ((j : ℕ) (o : Observation) → j < k → slice_get observations j ≡ Some (Some o) → plan_refusal o s ≡ None) →
    at ≡ get_or observations k at → IfSome at (λ o. plan_refusal o s ≡ None) →
    (j : ℕ) (o : Observation) → j < k + 1 → slice_get observations j ≡ Some (Some o) → plan_refusal o s ≡ None
one_fits s observations k at before is fits j o within there = elim (cases_lt j k) [
  | inl below ↦ before j o below there
  | inr above ↦
      let same : j ≡ k = omega (arith, within, above) in
      subst (λ (x : Option Observation). IfSome x (λ y. plan_refusal y s ≡ None))
      (read_at observations k at o is (subst (λ i. slice_get observations i ≡ Some (Some o)) same there)) fits
]

pub all_fit : (s : Search) (observations : List (Option Observation)) (k : ℕ) → length observations ≤ k →
    ((j : ℕ) (o : Observation) → j < k → slice_get observations j ≡ Some (Some o) → plan_refusal o s ≡ None) →
    PlansFit s observations
all_fit s observations k all before i d within =
    fits (get_or observations i d) (slice_get-get_or observations i d within)
  where
    fits : (at : Option Observation) → slice_get observations i ≡ Some at → IfSome at (λ o. plan_refusal o s ≡ None)
    fits None there = tt
    fits (Some o) there = before i o (omega (arith, within, all)) there

-- ---- recordings

pub one_recorded : (file_size max_bytes : ℕ) (headers : List HeaderText) (observations : List (Option Observation))
    (k : ℕ) (header : HeaderText) (o : Observation) → RecordingsFit file_size max_bytes headers observations k →
    slice_get headers k ≡ Some header → get_or observations k None ≡ Some o →
    RecordingFits file_size max_bytes header o → RecordingsFit file_size max_bytes headers observations (k + 1)
one_recorded file_size max_bytes headers observations k header o before there said fits j other p within at is =
    elim (cases_lt j k) [
      | inl below ↦ before j other p below at is
      | inr above ↦
          let same : j ≡ k = omega (arith, within, above) in
          let h : header ≡ other = same_Some header other
          (sym there ∙ subst (λ i. slice_get headers i ≡ Some other) same at) in
          let q : o ≡ p = same_Some o p
          (sym said ∙ get_or_from_slice_get observations k (Some p) None
          (subst (λ i. slice_get observations i ≡ Some (Some p)) same is)) in
          subst (λ (x : HeaderText). RecordingFits file_size max_bytes x p) h
          (subst (λ y. RecordingFits file_size max_bytes header y) q fits)
    ]
