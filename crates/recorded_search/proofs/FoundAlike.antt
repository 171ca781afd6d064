-- Two searches write one text, and are accepted alike.
use Rattle.std.proofs.Common.{◌≡◌, ℕ, ◌≤◌, List, length, sym, ap, subst, ◌∙◌}
use Rattle.psr_base.specs.Written.{WroteAll}
use Rattle.search_model.specs.declared.search.Search.{Search}
use Rattle.transfer_text.specs.Searched.{searched_text, candidate_total}
use Rattle.run_outcome.specs.Runs.{stream_for, observed_transfers, CanSearchFirst}
use Rattle.recorded_search.specs.ReadBack.{RecordedIsSearchedAlike, RecordedCanBeSearched}
use Rattle.recorded_search.specs.Again.{RecordedIsFoundAlike, RecordedIsAccepted}

pub found_alike : (is_calm is_calm_again : Type 0) → RecordedIsSearchedAlike →
    RecordedIsFoundAlike is_calm is_calm_again
found_alike is_calm is_calm_again law recorded s again files files_again h before after before_again after_again one
    two =
    let w = stream_for recorded files in
    let r = h.recording in
    let text = searched_text s.search (observed_transfers w) in
    let of = λ (begins : List ℕ). searched_text s.search (observed_transfers (record w { starts = begins })) in
    let first : searched_text s.search (observed_transfers (stream_for s files)) ≡ text = ap of h.transfers in
    let observed = observed_transfers (stream_for again files_again) in
    let second : searched_text again.search observed ≡ text =
    ap (λ (search : Search). searched_text search observed) h.same
    ∙ (law recorded w r.in_range r.recording r.recordable r.offsets again files_again h.named s.search).0 in
    let wrote = (one.outcome.written.text one.whole s files one.says one.told).1 in
    let wrote_again = (two.outcome.written.text two.whole again files_again two.says two.told).1 in (
      text,
      subst (λ (t : List ℕ). WroteAll t before after) first wrote,
      subst (λ (t : List ℕ). WroteAll t before_again after_again) second wrote_again,
    )

pub is_accepted : RecordedIsSearchedAlike → RecordedCanBeSearched → RecordedIsAccepted
is_accepted alike can recorded s again files files_again h most unrecorded searched =
    let w = stream_for recorded files in
    let r = h.recording in
    let mine : CanSearchFirst s.search w (length w.starts) =
    subst (λ (begins : List ℕ). CanSearchFirst s.search (record w { starts = begins }) (length begins)) h.transfers
    searched.begins.searched in
    let fits : CanSearchFirst again.search w (length w.starts) =
    subst (λ (search : Search). CanSearchFirst search w (length w.starts)) (sym h.same) mine in
    let both = can recorded w r.in_range r.recording r.recordable r.offsets again files_again h.named most unrecorded
    fits in
    let law = alike recorded w r.in_range r.recording r.recordable r.offsets again files_again h.named again.search in
    let total = candidate_total s.search (observed_transfers (stream_for s files)) in
    let same = ap (λ (search : Search). candidate_total search (observed_transfers w)) h.same in
    let first = ap (λ (begins : List ℕ). candidate_total s.search (observed_transfers (record w { starts = begins })))
    (sym h.transfers) in
    let few = subst (λ (search : Search). total ≤ search.max_candidates) (sym h.same) searched.total in
    record {
      begins = both.0;
      whole = both.1;
      total = subst (λ (n : ℕ). n ≤ again.search.max_candidates) (sym (law.1 ∙ same ∙ first)) few;
    }
