-- The end of a transfer.
use Rattle.std.proofs.Common.{◌≡◌, ℕ, ◌+◌, ◌<◌, Bool, false, List, [], ◌∷◌, ◌++◌, length, take, refl, sym, ap, ◌∙◌, subst, arith}
use Rattle.std.specs.Prelude.{if◌then◌else◌}
use Rattle.std.proofs.lemmas.Bool.{true≢false}
use Rattle.std.proofs.lemmas.List.{append-nil, length-append, length_push}
use Rattle.std.proofs.lemmas.Grind.{flat_map-append}
use Rattle.psr_base.specs.Told.{Told}
use Rattle.stream_model.specs.Blocks.{joined_data}
use Rattle.stream_model.specs.Walk.{begin_of, data_between, walk_data, transfer_data}
use Rattle.stream_model.specs.WalkLaws.{OneTransferMore, DataNone}
use Rattle.disk_feeder.specs.declared.place.Place.{Place}
use Rattle.disk_feeder.specs.Plan.{Plan, stream_of, AreToldTo, opened_at, begin_at}
use Rattle.disk_feeder.specs.Reading.{IsAt, HasRead}
use Rattle.disk_feeder.proofs.Behind.{begin_next}
use Rattle.disk_feeder.proofs.Streams.{begin_is}

pub joined_more : (before : List (List ℕ)) (current : List ℕ) →
    joined_data (before ++ current ∷ []) ≡ joined_data before ++ current
unfolding joined_data
joined_more before current =
    flat_map-append (λ (one : List ℕ). one) before (current ∷ [])
    ∙ ap (λ (xs : List ℕ). joined_data before ++ xs) (append-nil current)

module _ (plan : Plan) (told : Told) (at : Place) (before : List (List ℕ)) (current : List ℕ)
    (has : HasRead plan told at before current) (shut : at.is_open ≡ false) (there : at.transfer < length plan.starts)
    (over : at.file ≡ begin_at plan.starts (length plan.names) (at.transfer + 1)) (more : OneTransferMore)
    (none : DataNone) where
  abbrev after : Place
  after = record at { transfer = at.transfer + 1; since = 0 }

  at_next : (files : List (List ℕ)) → AreToldTo (opened_at at) told plan files →
      IsAt (stream_of plan files) told after (before ++ current ∷ []) []
  at_next files are =
      let s = stream_of plan files in
      let was = has.known files are in
      let next : at.file ≡ begin_of s (at.transfer + 1) =
      over ∙ sym (begin_is plan files are.count (at.transfer + 1)) in
      let all : current ≡ transfer_data s at.transfer =
      was.shut shut ∙ ap (data_between files (begin_of s at.transfer)) next in
      record {
        earlier = ap (λ (b : List (List ℕ)). b ++ current ∷ []) was.earlier
            ∙ ap (λ (one : List ℕ). take at.transfer (walk_data s) ++ one ∷ []) all
            ∙ sym (more s at.transfer there);
        passed = was.passed;
        judged = λ open_now. absurd (true≢false (sym open_now ∙ shut));
        shut = λ shut_now. sym (none files (begin_of s (at.transfer + 1)))
            ∙ ap (data_between files (begin_of s (at.transfer + 1))) (sym next);
        rest = λ open_now. absurd (true≢false (sym open_now ∙ shut));
      }

  pub has_next : HasRead plan told after (before ++ current ∷ []) []
  has_next =
      let transfers = has.transfers in
      let total = has.total in
      record {
        accepted = has.accepted;
        headers = has.headers;
        transfers = omega (arith, length_push before current);
        since = refl;
        total = omega (
          arith,
          ap (length {A = ℕ}) (joined_more before current),
          length-append (joined_data before)
              current,
        );
        passed = has.passed;
        known = at_next;
        begin = begin_next plan told at before current has.begin over (λ files are.
            let P : Bool → Type 0 = λ b. AreToldTo (if b then at.file + 1 else at.file) told plan files in
            at_next files (subst P (sym shut) are)) shut;
      }
