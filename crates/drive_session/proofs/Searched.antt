-- What a session found, over the files of a run.
use Rattle.std.proofs.Common.{◌≡◌, ℕ, ◌+◌, ◌^◌, ◌<◌, ◌≤◌, List, Option, Some, None, length, map, sym, ap, ◌∙◌, subst, arith}
use Rattle.std.specs.Prelude.{slice_get, slice_index_or}
use Rattle.std.specs.List.{sum_by, range_with_len}
use Rattle.std.specs.Option.{option_map}
use Rattle.std.proofs.lemmas.List.{length-map}
use Rattle.std.proofs.lemmas.List.FromFn.{length-map-range_with_len}
use Rattle.std.proofs.lemmas.Option.{slice_get-map, slice_get-get_or, get_or_from_slice_get}
use Rattle.std.proofs.lemmas.Simd.{map-map}
use Rattle.dada_model.specs.Observation.{Observation}
use Rattle.search_model.specs.Plan.{plan_refusal}
use Rattle.search_model.specs.Search.{SettingsInRange}
use Rattle.search_model.specs.Observed.{candidates_of}
use Rattle.search_model.specs.declared.search.Search.{Search}
use Rattle.stream_model.specs.Walk.{FileStream, transfer_data}
use Rattle.transfer_text.specs.Searched.{ObservedTransfer, spectra_of, candidate_total}
use Rattle.transfer_text.specs.Found.{part_books, HoldTransfers}
use Rattle.transfer_text.specs.Laws.{TotalsAreCounted}
use Rattle.session_readers.specs.declared.bank.Bank.{Bank}
use Rattle.search_session.specs.declared.ended.SessionEnd.{SessionEnd}
use Rattle.search_session.specs.Sessions.{AreBanksFor, HoldFound, data_through}
use Rattle.search_opening.specs.Engines.{AreOpenedBanks}
use Rattle.search_opening.specs.First.{AreFirsts}
use Rattle.search_opening.specs.Plans.{PlansFit}
use Rattle.run_outcome.specs.Runs.{first_observation, observed_transfers}
use Rattle.drive_session.proofs.Lists.{if_some_at, same_over, as_map, sum_over, all_over}

-- ---- observations by their places

-- the observation of a transfer, and of one that is not there that of another
abbrev pub said_at : List Observation → Observation → ℕ → Observation
said_at said other k = slice_index_or said k other

pub place_of_said : (observations : List (Option Observation)) (said : List Observation) (other : Observation) (k : ℕ) →
    observations ≡ map Some said → k < length said →
    slice_get observations k ≡ Some (Some (said_at said other k))
place_of_said observations said other k here below =
    ap (λ os. slice_get os k) here ∙ slice_get-map Some said k
    ∙ ap (option_map Some) (slice_get-get_or said k other below)

-- the transfers of a session
abbrev pub transfers_through : {I F : Type 0} → SessionEnd I F → List Observation → Observation → ℕ →
    List ObservedTransfer
transfers_through end said other n =
    map (λ k. record { observation = said_at said other k; bytes = data_through end k }) (range_with_len 0 n)

-- ---- banks

pub banks_for : (s : Search) (observations : List (Option Observation)) (banks : List (Option Bank))
    (said : List Observation) (other : Observation) → AreOpenedBanks s observations banks →
    observations ≡ map Some said → 0 < s.shards →
    AreBanksFor s (said_at said other) (length said) banks
banks_for s observations banks said other opened here some = record {
  some = omega (arith, some, opened.count);
  shards = opened.count;
  each = λ shard k below within.
      let bank = opened.each shard (omega (arith, below, opened.count)) in
      let engine = bank.2.each k (said_at said other k) (place_of_said observations said other k here within) in
      (bank.0, bank.1, (engine.0, engine.1, engine.2.opened, engine.2.stands));
}

-- ---- books

pub hold_transfers : {I F : Type 0} (end : SessionEnd I F) (s : Search) (observations : List (Option Observation))
    (said : List Observation) (other : Observation) → observations ≡ map Some said →
    HoldFound s (said_at said other) (data_through end) (length said) end →
    HoldTransfers s (transfers_through end said other (length said)) observations
    (map (λ row. row.items) end.books.items) end.spectra.items
hold_transfers end s observations said other here held =
    let n = length said in
    let t : ℕ → ObservedTransfer = λ k. record { observation = said_at said other k; bytes = data_through end k } in
    record {
      observed = here
          ∙ ap (map Some) (as_map (said_at said other) 0 said (λ k x is.
          let at : 0 + k ≡ k = omega arith in
          ap (said_at said other) at ∙ get_or_from_slice_get said k x other is))
          ∙ map-map Some (said_at said other) (range_with_len 0 n)
          ∙ sym (map-map (λ u. Some u.observation) t (range_with_len 0 n));
      added = held.added
          ∙ sym (map-map (λ u. part_books s (candidates_of u.observation s u.bytes)) t
          (range_with_len 0 n));
      counted = held.counted ∙ sym (map-map spectra_of t (range_with_len 0 n));
    }

-- ---- how many candidates there are at most

pub transfers_are_counted : {I F : Type 0} (end : SessionEnd I F) (s : Search)
    (observations : List (Option Observation)) (said : List Observation) (other : Observation) → TotalsAreCounted →
    SettingsInRange s → observations ≡ map Some said → length said ≤ 8 → PlansFit s observations →
    sum_by (λ k. length (data_through end k)) (range_with_len 0 (length said)) ≤ 2 ^ 48 →
    candidate_total s (transfers_through end said other (length said)) < 2 ^ 64
transfers_are_counted end s observations said other law range here few fit total =
    let n = length said in
    let t : ℕ → ObservedTransfer = λ k. record { observation = said_at said other k; bytes = data_through end k } in
    let count = length-map-range_with_len t 0 n in
    law s (transfers_through end said other n) range (omega (arith, few, count))
    (all_over (λ u. plan_refusal u.observation s ≡ None) t n (λ j within.
    if_some_at (λ o. plan_refusal o s ≡ None) observations j (said_at said other j)
    (place_of_said observations said other j here within) fit))
    (subst (λ m. m ≤ 2 ^ 48) (sym (sum_over (λ u. length u.bytes) t (range_with_len 0 n))) total)

-- ---- where the files are told

pub known_transfers : {I F : Type 0} (end : SessionEnd I F) (observations : List (Option Observation))
    (said : List Observation) (other : Observation) (w : FileStream) → observations ≡ map Some said →
    AreFirsts w observations → ((k : ℕ) → k < length w.starts → data_through end k ≡ transfer_data w k) →
    transfers_through end said other (length said) ≡ observed_transfers w
known_transfers end observations said other w here firsts same =
    let t : ℕ → ObservedTransfer = λ k. record { observation = said_at said other k; bytes = data_through end k } in
    let u : ℕ → ObservedTransfer = λ k. record { observation = first_observation w k; bytes = transfer_data w k } in
    let count : length said ≡ length w.starts =
    sym (length-map said Some) ∙ ap length (sym here) ∙ firsts.count in
    ap (λ n. map t (range_with_len 0 n)) count
    ∙ same_over t u 0 (length w.starts) (λ j from to.
    let within : j < length w.starts = omega (arith, to) in
    let a = place_of_said observations said other j here (omega (arith, within, count)) in
    let b = firsts.each j within in
    ap (λ (o : Observation). record { observation = o; bytes = data_through end j }) (same_place _ _ (sym a ∙ b))
    ∙ ap (λ (bytes : List ℕ). record { observation = first_observation w j; bytes = bytes }) (same j within))
  where
    same_place : (one other : Observation) → Some (Some one) ≡ Some (Some other) → one ≡ other
    same_place one other is = cc
