-- What was read of the files before a place, whether or not its own file is told.
use Rattle.std.proofs.Common.{◌≡◌, ℕ, ◌+◌, ◌<◌, ◌≤◌, Bool, true, false, List, [], ◌∷◌, ◌++◌, length, take, refl, sym, ap, ◌∙◌, inl, inr, append_assoc, arith}
use mathlib.Core.List.{IsPrefix}
use Rattle.std.specs.Prelude.{option_to_list}
use Rattle.std.proofs.lemmas.Bool.{true≢false, cases_eq}
use Rattle.std.proofs.lemmas.List.{append-nil}
use Rattle.psr_base.specs.Told.{Told, Reading, history}
use Rattle.stream_model.specs.Walk.{FileStream, begin_of, walk_data, data_between}
use Rattle.stream_model.specs.WalkLaws.{DataNone}
use Rattle.disk_feeder.specs.declared.place.Place.{Place}
use Rattle.disk_feeder.specs.Front.{OpensAtMostOne}
use Rattle.disk_feeder.specs.Plan.{Plan, stream_of, begin_at, IsAmong, AreToldTo, AreToldWithFirsts}
use Rattle.disk_feeder.specs.History.{read_before, read_first, ReadsThrough}
use Rattle.disk_feeder.specs.Reading.{IsAt, BeginsWith, DataBegin}
use Rattle.disk_feeder.specs.Beginning.{start_place}
use Rattle.disk_feeder.proofs.Needed.{told_before, told_fewer}
use Rattle.disk_feeder.proofs.Streams.{begin_is}

-- ---- data

-- where no file is open, the data read are those of the files before
shut_begins : (s : FileStream) (told : Told) (at : Place) (k : ℕ) (before : List (List ℕ)) (current : List ℕ) →
    at.is_open ≡ false → k ≡ at.file → IsAt s told at before current → BeginsWith s at k before current
shut_begins s told at k before current shut same was =
    let begin = begin_of s at.transfer in
    record {
      earlier = was.earlier;
      more = [];
      front = was.shut shut ∙ ap (data_between s.files begin) (sym same) ∙ sym (append-nil (data_between s.files begin
          k));
      all = λ here shut_now. refl;
    }

-- nothing was read
pub begin_start : DataNone → (plan : Plan) (told : Told) (is_open : Bool) →
    begin_at plan.starts (length plan.names) 0 ≡ 0 → DataBegin plan told (start_place is_open) [] []
begin_start none plan told is_open first = record {
  here = λ k from upto files are.
      let s = stream_of plan files in
      let start : begin_of s 0 ≡ k = begin_is plan files are.count 0 ∙ first ∙ omega arith in
      record {
        earlier = refl;
        more = [];
        front = sym (none files k) ∙ ap (λ (n : ℕ). data_between files n k) (sym start)
            ∙ sym (append-nil (data_between files (begin_of s 0) k));
        all = λ here shut. refl;
      };
  past = λ t k less from upto files are. absurd (omega arith);
}

module _ (plan : Plan) (told : Told) (at : Place) (before : List (List ℕ)) (current : List ℕ)
    (was : DataBegin plan told at before current) where
  -- nothing under a name changed
  pub begin_still : (told' : Told) → told'.bytes_under ≡ told.bytes_under → DataBegin plan told' at before current
  begin_still told' same = record {
    here = λ k from upto files are.
        was.here k from upto files (told_before (λ j. j < k) told told' plan.names files same are);
    past = λ t k less from upto files are.
        was.past t k less from upto files (told_before (λ j. j < k) told told' plan.names files same are);
  }

  -- the file at the place was opened
  pub begin_opened : DataBegin plan told (record at { is_open = true }) before current
  begin_opened = record {
    here = λ k from upto files are.
        let b = was.here k from upto files are in
        record {
          earlier = b.earlier;
          more = b.more;
          front = b.front;
          all = λ here shut. absurd (true≢false shut);
        };
    past = was.past;
  }

  -- a piece of it was read
  pub begin_more : (piece : List ℕ) (since total : ℕ) → at.is_open ≡ true →
      DataBegin plan told (record at { since = since; total = total }) before (current ++ piece)
  begin_more piece since total opened = record {
    here = λ k from upto files are.
        let b = was.here k from upto files are in
        let s = stream_of plan files in
        record {
          earlier = b.earlier;
          more = b.more ++ piece;
          front = ap (λ (xs : List ℕ). xs ++ piece) b.front
              ∙ append_assoc (data_between files (begin_of s at.transfer) k) b.more piece;
          all = λ here shut. absurd (true≢false (sym opened ∙ shut));
        };
    past = was.past;
  }

  -- it was read to its end
  pub begin_closed : ((files : List (List ℕ)) → AreToldTo (at.file + 1) told plan files →
      IsAt (stream_of plan files) told (record at { file = at.file + 1; is_open = false }) before (current ++ [])) →
      DataBegin plan told (record at { file = at.file + 1; is_open = false }) before (current ++ [])
  begin_closed closed = record {
    here = λ k from upto files are. elim (cases_eq k (at.file + 1)) [
      | inl same ↦
          shut_begins (stream_of plan files) told (record at { file = at.file + 1; is_open = false }) k before
          (current ++ []) refl same (closed files (told_fewer (at.file + 1) k told plan files (omega arith) are))
      | inr other ↦
          let b = was.here k from (omega arith) files are in
          record {
            earlier = b.earlier;
            more = b.more;
            front = append-nil current ∙ b.front;
            all = λ here shut. absurd (omega arith);
          }
    ];
    past = was.past;
  }

  -- all data of the transfer were read, and the next one begins
  pub begin_next : at.file ≡ begin_at plan.starts (length plan.names) (at.transfer + 1) →
      ((files : List (List ℕ)) → AreToldTo at.file told plan files →
      IsAt (stream_of plan files) told (record at { transfer = at.transfer + 1; since = 0 }) (before ++ current ∷ []) [])
      → at.is_open ≡ false →
      DataBegin plan told (record at { transfer = at.transfer + 1; since = 0 }) (before ++ current ∷ []) []
  begin_next over next shut = record {
    here = λ k from upto files are.
        shut_begins (stream_of plan files) told (record at { transfer = at.transfer + 1; since = 0 }) k
        (before ++ current ∷ []) [] shut (omega arith)
        (next files (told_fewer at.file k told plan files (omega arith) are));
    past = λ t k less from upto files are.
        let s = stream_of plan files in
        let begin : ℕ → ℕ = begin_at plan.starts (length plan.names) in
        elim (cases_eq t at.transfer) [
          | inl same ↦
              let most : k ≤ begin (at.transfer + 1) = rw (← same) upto in
              let b = was.here k (rw (← same) from) (omega arith) files are in
              rw same (record {
                more = b.more;
                later = [];
                is = ap (λ (xs : List (List ℕ)). xs ++ current ∷ []) b.earlier
                    ∙ ap (λ (xs : List ℕ). take at.transfer (walk_data s) ++ xs ∷ []) b.front;
              })
          | inr other ↦
              let p = was.past t k (omega arith) from upto files are in
              record {
                more = p.more;
                later = p.later ++ current ∷ [];
                is = ap (λ (xs : List (List ℕ)). xs ++ current ∷ []) p.is
                    ∙ append_assoc (take t (walk_data s))
                    ((data_between files (begin_of s t) k ++ p.more) ∷ p.later) (current ∷ []);
              }
        ];
  }

-- ---- the history

pub prefix_is : (xs ys : List Reading) → xs ≡ ys → IsPrefix xs ys
prefix_is xs ys same = ([], append-nil xs ∙ same)

-- so it is of the history, where it is of what was read before the open file
prefix_all : (xs : List Reading) (told : Told) → IsPrefix xs told.earlier → IsPrefix xs (history told)
prefix_all xs told p =
    let last = option_to_list told.reading in
    (p.0 ++ last, sym (append_assoc xs p.0 last) ∙ ap (λ (ys : List Reading). ys ++ last) p.1)

-- and where it was of the history before one name was opened
pub prefix_past : (xs : List Reading) (told told' : Told) → OpensAtMostOne told told' → IsPrefix xs (history told) →
    IsPrefix xs (history told')
prefix_past xs told told' (inl same) p = rw same p
prefix_past xs told told' (inr later) p = prefix_all xs told' (rw later p)

module _ (plan : Plan) (before told told' : Told) (at : Place) (names : told'.bytes_under ≡ told.bytes_under)
    (was : ReadsThrough plan before told at.file (read_first at.is_open told)) where
  -- the same of what was read since
  through_map : (readings : List Reading) →
      ((xs : List Reading) → IsPrefix xs (read_first at.is_open told) → IsPrefix xs readings) →
      ReadsThrough plan before told' at.file readings
  through_map readings more = λ k upto files are.
      more (history (read_before plan.names (stream_of plan files) k before))
      (was k upto files
      (told_before (IsAmong k plan.starts (length plan.names)) told told' plan.names files names are))

  -- the file at the place was opened
  pub through_opened : at.is_open ≡ false → told'.earlier ≡ history told →
      ReadsThrough plan before told' at.file told'.earlier
  through_opened shut later = through_map told'.earlier (λ xs p. rw later (rw shut at p))

  -- it was read on
  pub through_read : at.is_open ≡ true → told'.earlier ≡ told.earlier →
      ReadsThrough plan before told' at.file (read_first at.is_open told')
  through_read opened same =
      through_map (read_first at.is_open told') (λ xs p. rw (opened, same) (rw opened at p))

  open_prefix : at.is_open ≡ true → told'.earlier ≡ told.earlier → (xs : List Reading) →
      IsPrefix xs (read_first at.is_open told) → IsPrefix xs (history told')
  open_prefix opened same xs p = prefix_all xs told' (rw same (rw opened at p))

  -- it was read to its end
  pub through_closed : at.is_open ≡ true → told'.earlier ≡ told.earlier →
      ((files : List (List ℕ)) → AreToldWithFirsts (at.file + 1) told' plan files →
      told' ≡ read_before plan.names (stream_of plan files) (at.file + 1) before) →
      ReadsThrough plan before told' (at.file + 1) (history told')
  through_closed opened same all = λ k upto files are. elim (cases_eq k (at.file + 1)) [
    | inl last ↦
        rw last
        (prefix_is (history (read_before plan.names (stream_of plan files) (at.file + 1) before)) (history told')
        (ap history (sym (all files (rw last at are)))))
    | inr other ↦ through_map (history told') (open_prefix opened same) k (omega arith) files are
  ]

  -- a fault came as it was read
  pub through_broken : at.is_open ≡ true → told'.earlier ≡ told.earlier →
      ReadsThrough plan before told' at.file (history told')
  through_broken opened same = through_map (history told') (open_prefix opened same)

  -- a fault came as it was opened
  pub through_unopened : at.is_open ≡ false → OpensAtMostOne told told' →
      ReadsThrough plan before told' at.file (history told')
  through_unopened shut one = through_map (history told') (λ xs p. prefix_past xs told told' one (rw shut at p))

-- at the first file, nothing of which was read before
pub through_start : (plan : Plan) (before told : Told) (at : Place) → at.file ≡ 0 →
    ((files : List (List ℕ)) → AreToldWithFirsts 0 told plan files →
    read_first at.is_open told ≡ history (read_before plan.names (stream_of plan files) 0 before)) →
    ReadsThrough plan before told at.file (read_first at.is_open told)
through_start plan before told at first all = λ k upto files are.
    let none : k ≡ 0 = omega arith in
    rw none
    (prefix_is (history (read_before plan.names (stream_of plan files) 0 before)) (read_first at.is_open told)
    (sym (all files (rw none at are))))
