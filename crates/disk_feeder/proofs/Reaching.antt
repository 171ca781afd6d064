-- A place that was read to, as the walk sees it.
use Rattle.std.proofs.Common.{◌≡◌, ℕ, ◌+◌, ◌<◌, ◌≤◌, ◌⊎◌, Bool, true, false, List, [], ◌++◌, None, length, refl, sym, ap, ◌∙◌, inl, inr, append_assoc, arith}
use Rattle.std.proofs.lemmas.List.{append-nil}
use Rattle.psr_base.specs.Told.{Told}
use Rattle.stream_model.specs.Walk.{FileStream, begin_of, data_between, header_stop}
use Rattle.stream_model.specs.WalkLaws.{AreStarts, DataJoin}
use Rattle.disk_feeder.specs.declared.place.Place.{Place}
use Rattle.disk_feeder.specs.Plan.{Plan, stream_of, AreToldTo, opened_at, begin_at}
use Rattle.disk_feeder.specs.Reached.{CameTo}
use Rattle.disk_feeder.specs.Reading.{IsAt, HasRead}
use Rattle.disk_feeder.proofs.Streams.{starts_of, begin_is, begin_most}

-- a place within a transfer, or at its end
pub record IsWithin (plan : Plan) (at : Place) : Type 0 where
  pub starts : AreStarts plan.starts (length plan.names)
  pub there : at.transfer < length plan.starts
  pub from : begin_at plan.starts (length plan.names) at.transfer ≤ at.file
  pub upto : at.file ≤ begin_at plan.starts (length plan.names) (at.transfer + 1)
  pub opened : at.is_open ≡ true → at.file < begin_at plan.starts (length plan.names) (at.transfer + 1)
  pub within : at.total ≤ plan.max_bytes

-- the walk came to its file
pub came_to : (plan : Plan) (told : Told) (at : Place) (before : List (List ℕ)) (current : List ℕ) → IsWithin plan at →
    HasRead plan told at before current → (files : List (List ℕ)) → AreToldTo (opened_at at) told plan files →
    CameTo (stream_of plan files) at.transfer at.file before current
came_to plan told at before current w has files are = by_file at.is_open refl
  where
    was : IsAt (stream_of plan files) told at before current
    was = has.known files are

    -- so it did where the data read are those of the files before number `to`, but for some that are left
    by_data : (to : ℕ) → at.file ≤ to → to ≤ begin_at plan.starts (length plan.names) (at.transfer + 1) →
        (to ≡ at.file) ⊎ ((to ≡ at.file + 1) × (header_stop (stream_of plan files) at.file ≡ None)) →
        (left : List ℕ) → data_between files (begin_of (stream_of plan files) at.transfer) to ≡ current ++ left →
        CameTo (stream_of plan files) at.transfer at.file before current
    by_data to least upto next left data_is =
        let begin = begin_is plan files are.count at.transfer in
        let end = begin_is plan files are.count (at.transfer + 1) in
        let last = begin_most plan.starts (length plan.names) at.transfer w.starts w.there in
        let count = are.count in
        let from = w.from in
        let total = has.total in
        let within = w.within in
        record {
          there = w.there;
          starts = starts_of plan files are.count w.starts;
          earlier = was.earlier;
          passed = was.passed;
          from = omega arith;
          to = to;
          upto = omega arith;
          most = omega arith;
          next = next;
          left = left;
          data_is = data_is;
          few = omega arith;
        }

    by_file : (b : Bool) → at.is_open ≡ b → CameTo (stream_of plan files) at.transfer at.file before current
    by_file false shut =
        by_data at.file (omega arith) w.upto (inl refl) [] (sym (was.shut shut) ∙ sym (append-nil current))
    by_file true opened =
        let upto = w.opened opened in
        let rest = was.rest opened in
        by_data (at.file + 1) (omega arith) (omega arith) (inr (refl, was.judged opened)) rest.0 rest.2

-- the data go on from there to a later file of the transfer
module _ (join : DataJoin) (s : FileStream) (t k : ℕ) (before : List (List ℕ)) (current : List ℕ)
    (c : CameTo s t k before current) where
  pub k_least : k ≤ c.to
  k_least = elim c.next [ inl e ↦ omega arith | inr e ↦ let f = e.0 in omega arith ]

  pub goes_on : (last : ℕ) → c.to ≤ last →
      data_between s.files (begin_of s t) last ≡ current ++ (c.left ++ data_between s.files c.to last)
  goes_on last less =
      let from = c.from in
      let least = k_least in
      let most = c.most in
      sym (join s.files (begin_of s t) c.to last (omega arith) (omega arith) less)
      ∙ ap (λ (xs : List ℕ). xs ++ data_between s.files c.to last) c.data_is
      ∙ append_assoc current c.left (data_between s.files c.to last)
