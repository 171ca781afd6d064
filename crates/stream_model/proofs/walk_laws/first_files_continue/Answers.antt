use Rattle.std.proofs.Common.{◌≡◌, ℕ, List, length, Ok, Result, sym, ap, ◌∙◌, arith}
use Rattle.dada_model.specs.Fields.{HeaderText, HeaderRefusal, fields_of}
use Rattle.dada_model.specs.Observation.{Observation, observation_in}
use Rattle.obs_plan.specs.Later.{profile_of, later_offset_of}
use Rattle.stream_model.specs.Walk.{FileStream, data_between, file_at, begin_of, observation_at, fields_past}
use Rattle.stream_model.specs.WalkLaws.{IsIn, Continues, AcceptedIsLater, IsAccepted}
use Rattle.stream_model.proofs.FileData.{data_none}
use Rattle.stream_model.proofs.Itself.{accepted_is}
use Rattle.stream_model.proofs.Transfers.{begins_next}
use Rattle.stream_model.proofs.walk_laws.first_files_continue.Goals as goal

-- the observation of an accepted file
observed : (file : List ℕ) (a : IsAccepted file) → observation_at file ≡ a.observation
unfolding observation_at
observed file a =
    ap (λ (r : Result HeaderText HeaderRefusal). observation_in (fields_past r)) a.is_header
    ∙ sym (accepted_is (fields_of a.header.text) a.observation a.is_observation)

continues_itself : AcceptedIsLater → (s : FileStream) (t : ℕ) → IsAccepted (file_at s (begin_of s t)) →
    Continues s t (begin_of s t)
continues_itself law s t a =
    let file = file_at s (begin_of s t) in
    let is = observed file a in
    let none : length (data_between s.files (begin_of s t) (begin_of s t)) ≡ 0 = ap (length {A = ℕ}) (data_none s.files
    (begin_of s t)) in
    record {
      header = a.header;
      is_header = a.is_header;
      goes_on =
          ap (λ (o : Observation). later_offset_of (profile_of o) (fields_of a.header.text)) is
          ∙ law (fields_of a.header.text) a.observation a.is_observation
          ∙ ap Ok (omega (arith, none, ap (λ (o : Observation). o.obs_offset) is));
    }

pub returns : goal.returns
returns c = λ s t walked below.
    let next = begins_next s t walked.starts below in
    let it : IsIn s t (begin_of s t) = record { there = below; from = omega arith; before = next.0 } in
    (c.headers_continue.ensures s t (begin_of s t) walked.starts it).1
    (continues_itself c.accepted_is_later.ensures s t (walked.accepted t below))
