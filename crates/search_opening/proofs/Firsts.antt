-- The first headers that a feeder read, and those of the files.
use Rattle.std.proofs.Common.{◌≡◌, ◌≢◌, ℕ, zero, suc, ◌+◌, ◌<◌, ◌≤◌, inl, inr, List, [], length, get_or, slice_get, Option, Some, None, Ok, refl, sym, ap, subst, ◌∙◌, arith}
use Rattle.std.specs.Prelude.{IsSome, slice_index_or, string_bytes}
use Rattle.std.proofs.lemmas.Bool.{cases_lt}
use Rattle.std.proofs.lemmas.List.{length-map}
use Rattle.std.proofs.lemmas.Option.{same_Some, slice_get_within, slice_get-get_or}
use mathlib.Core.List.{IsPrefix}
use Rattle.psr_base.specs.Told.{Told, OfFile, history}
use Rattle.dada_model.specs.Fields.{HeaderText, header_of, fields_of}
use Rattle.dada_model.specs.Observation.{Observation, observation_of, observation_in}
use Rattle.dada_model.specs.Laws.{AcceptedByRows}
use Rattle.dada_header.specs.declared.faults.HeaderFault.{HeaderFault}
use Rattle.dada_header.specs.declared.faults.HeaderFault.TheVariants as header
use Rattle.obs_plan.specs.declared.fault.ObsFault.{ObsFault}
use Rattle.obs_plan.specs.declared.fault.ObsFault.TheVariants as obs
use Rattle.obs_plan.specs.Faults.{ExplainsObservation}
use Rattle.stream_model.specs.Walk.{FileStream, begin_of, fields_past, observation_at}
use Rattle.stream_model.specs.WalkLaws.{AreStarts}
use Rattle.disk_feeder.specs.declared.answers.FeedFault.{FeedFault}
use Rattle.disk_feeder.specs.declared.answers.FeedFault.TheVariants as feed
use Rattle.disk_feeder.specs.declared.source.Source.{Source}
use Rattle.disk_feeder.specs.Beginning.{HeadersRead, FirstsRead, BreaksFirst, RefusesSome}
use Rattle.disk_feeder.specs.Plan.{Plan, stream_of, AreToldAt, IsFirstFile, IsFirstBefore, begin_at}
use Rattle.disk_feeder.specs.Front.{BreaksAt}
use Rattle.disk_feeder.specs.History.{firsts_read, first_of, file_name}
use Rattle.disk_feeder.specs.Sources as sources
use Rattle.disk_feeder.specs.Sources.{plan_of}
use Rattle.run_outcome.specs.declared.stop.Stop.TheVariants.{Memory, ReadFault}
use Rattle.run_outcome.specs.Conversions.{stop_of_begin, stop_of_fields}
use Rattle.run_outcome.specs.Firsts.{first_file, first_at, first_name, HasHeader, HaveHeaders, ReadsFirsts, RefusesTextAt, RefusesFields, RefusesFieldsAt, BreaksFirstAt, RefusesFirstFields}
use Rattle.search_opening.specs.First.{OfFirsts, ComesFirst, StopsFirsts, AreFirsts, AreFirstsAt, AreHeadersOf, AreObserved}
use Rattle.search_opening.proofs.Observed.{as_many, some_at, accepted_at}

-- ---- files that are told

-- the same first files are told where the bytes under names stay
pub still_told : (told told' : Told) (old new : Plan) (files : List (List ℕ)) →
    told'.bytes_under ≡ told.bytes_under → new.names ≡ old.names → new.starts ≡ old.starts →
    AreToldAt (IsFirstFile old.starts (length old.names)) told old.names files →
    AreToldAt (IsFirstFile new.starts (length new.names)) told' new.names files
still_told told told' old new files bytes names starts are =
    subst (λ ss. AreToldAt (IsFirstFile ss (length new.names)) told' new.names files) (sym starts)
    (subst (λ ns. AreToldAt (IsFirstFile old.starts (length ns)) told' ns files) (sym names) (record {
      count = are.count;
      each = λ k within needed.
          ap (λ under. under (slice_index_or old.names k [])) bytes ∙ are.each k within needed;
    }))

-- the headers are those of the first files that are told
abbrev pub HeadersAt : Told → List (List ℕ) → List ℕ → List HeaderText → Type 0
HeadersAt told names starts headers = (k : ℕ) → k < length starts → OfFile told (first_name names starts k) (λ file.
    (header : HeaderText) × (slice_get headers k ≡ Some header) × (header_of file ≡ Ok header))

-- and they are still
pub still_headed : (told told' : Told) (old new : Plan) (headers : List HeaderText) →
    told'.bytes_under ≡ told.bytes_under → new.names ≡ old.names → new.starts ≡ old.starts →
    HeadersAt told' new.names new.starts headers → HeadersAt told old.names old.starts headers
still_headed told told' old new headers bytes names starts have k below file is =
    have k (subst (λ ss. k < length ss) (sym starts) below) file
    (ap (λ under. under (first_name new.names new.starts k)) bytes
    ∙ ap (λ ns. told.bytes_under (first_name ns new.starts k)) names
    ∙ ap (λ ss. told.bytes_under (first_name old.names ss k)) starts ∙ is)

abbrev stream : List (List ℕ) → List ℕ → ℕ → FileStream
stream files starts most = record { files = files; starts = starts; max_bytes = most }

pub same_stream : (p q : Plan) (files : List (List ℕ)) → p.starts ≡ q.starts → p.max_bytes ≡ q.max_bytes →
    stream_of p files ≡ stream_of q files
same_stream p q files starts most =
    ap (λ x. stream files x p.max_bytes) starts ∙ ap (stream files q.starts) most

-- no transfer begins with a later file than one after it
begins_rise : (starts : List ℕ) (count : ℕ) → AreStarts starts count → (k transfer : ℕ) → k ≤ transfer →
    transfer < length starts → begin_at starts count k ≤ begin_at starts count transfer
begins_rise starts count are k zero most there =
    let same : k ≡ zero = omega (arith, most) in
    let equal = ap (begin_at starts count) same in
    omega (arith, equal)
begins_rise starts count are k (suc transfer) most there = elim (cases_lt k (suc transfer)) [
  | inl below ↦
      let before = begins_rise starts count are k transfer (omega (arith, below)) (omega (arith, there)) in
      let one : transfer + 1 ≡ suc transfer = omega arith in
      let rise = subst (λ n. begin_at starts count transfer < begin_at starts count n) one
      (are.rise transfer (omega (arith, there))) in
      omega (arith, before, rise)
  | inr above ↦
      let same : k ≡ suc transfer = omega (arith, most, above) in
      let equal = ap (begin_at starts count) same in
      omega (arith, equal)
]

-- each begins with a file before that of one after it
begins_below : (starts : List ℕ) (count : ℕ) → AreStarts starts count → (k transfer : ℕ) → k < transfer →
    transfer < length starts → begin_at starts count k < begin_at starts count transfer
begins_below starts count are k transfer below there =
    let next = are.rise k (omega (arith, below, there)) in
    let rise = begins_rise starts count are (k + 1) transfer (omega (arith, below)) there in
    omega (arith, next, rise)

-- a header for each transfer
header_there : (headers : List HeaderText) (k : ℕ) → k < length headers →
    (header : HeaderText) × (slice_get headers k ≡ Some header)
header_there headers k within =
    let none : HeaderText = record { size = 0; text = [] } in
    (get_or headers k none, slice_get-get_or headers k none within)

-- the first files that a source reads
module _ (told : Told) (source : Source)
    (starts : AreStarts source.starts.now (length (plan_of source).names)) where
  -- as many names as files
  many : length source.names.now ≡ length (plan_of source).names
  many = sym (length-map source.names.now string_bytes)

  named : (k : ℕ) → sources.first_name source k ≡ first_name (plan_of source).names (plan_of source).starts k
  named k = ap (λ n. file_name (plan_of source).names (begin_at (plan_of source).starts n k)) many

  have_headers : (last : ℕ) →
      ((k : ℕ) → k < last → OfFile told (sources.first_name source k) HasHeader) →
      HaveHeaders told (plan_of source).names (plan_of source).starts last
  have_headers last have k below = subst (λ name. OfFile told name HasHeader) (named k) (have k below)

  -- the first file of a transfer is told where it is needed
  told_at : (Needed : ℕ → Type 0) (files : List (List ℕ)) → AreToldAt Needed told (plan_of source).names files →
      (k : ℕ) → k < length source.starts.now → Needed (first_at (plan_of source).names source.starts.now k) →
      told.bytes_under (sources.first_name source k)
      ≡ Some (slice_index_or files (first_at (plan_of source).names source.starts.now k) [])
  told_at Needed files are k there needed =
      ap (λ name. told.bytes_under name) (named k)
      ∙ are.each (first_at (plan_of source).names source.starts.now k) (starts.within k there) needed

  all_told : (files : List (List ℕ)) →
      AreToldAt (IsFirstFile (plan_of source).starts (length (plan_of source).names)) told (plan_of source).names
      files → (k : ℕ) → k < length source.starts.now →
      told.bytes_under (sources.first_name source k) ≡ Some (first_file (stream_of (plan_of source) files) k)
  all_told files are k there =
      told_at (IsFirstFile (plan_of source).starts (length (plan_of source).names)) files are k there (k, there, refl)
      ∙ ap (λ n. Some (slice_index_or files (begin_at source.starts.now n k) [])) (sym are.count)

  -- the headers that were read are those of the files
  pub headers_are : length (plan_of source).headers ≡ length (plan_of source).starts →
      HeadersRead told source (length source.starts.now) source →
      OfFirsts told (plan_of source) (λ w. AreHeadersOf w (plan_of source).headers)
  headers_are headed read files are k header at =
      let within = slice_get_within (plan_of source).headers k header at in
      let there : k < length source.starts.now = omega (arith, within, headed) in
      read k there (first_file (stream_of (plan_of source) files) k) (all_told files are k there) header at

  pub texts_are : length (plan_of source).headers ≡ length (plan_of source).starts →
      HeadersRead told source (length source.starts.now) source →
      HeadersAt told (plan_of source).names (plan_of source).starts (plan_of source).headers
  texts_are headed read k there = subst
      (λ name. OfFile told name (λ file. (header : HeaderText) × (slice_get (plan_of source).headers k ≡ Some header)
      × (header_of file ≡ Ok header))) (named k)
      (λ file is.
      let at = header_there (plan_of source).headers k (omega (arith, there, headed)) in
      (at.0, at.1, read k there file is at.0 at.1))

  -- the first headers were read, in the words of the files
  pub firsts_are : (told' : Told) → FirstsRead told source (length source.starts.now) told' →
      OfFirsts told (plan_of source) (λ w. ReadsFirsts (plan_of source).names w told told')
  firsts_are told' read files are =
      let w = stream_of (plan_of source) files in
      read (first_of w) (all_told files are)
      ∙ ap (λ (n : ℕ). firsts_read (λ k. file_name (plan_of source).names (begin_at source.starts.now n k)) (first_of w)
      (length source.starts.now) told) (many ∙ sym are.count)

  -- why the first file of a transfer has no header
  refused_text : (file : ℕ) (cause : HeaderFault) → RefusesSome told source (feed.BadHeader file cause) →
      RefusesTextAt told (plan_of source).names (plan_of source).starts file cause
  refused_text file cause r = record {
    transfer = r.transfer;
    there = r.there;
    is = r.names ∙ ap (λ n. begin_at source.starts.now n r.transfer) many;
    refused = λ bytes is.
        (r.refuses bytes (ap (λ k. told.bytes_under (file_name (plan_of source).names k)) (sym r.names) ∙ is)).1;
    earlier = have_headers r.transfer r.earlier;
  }

  pub stops_text : (fault : FeedFault) → RefusesSome told source fault →
      StopsFirsts told (plan_of source) (stop_of_begin fault)
  stops_text feed.ReadFault r = tt
  stops_text (feed.BadHeader file (header.Short had)) r = refused_text file (header.Short had) r
  stops_text (feed.BadHeader file (header.NotText place)) r = refused_text file (header.NotText place) r
  stops_text (feed.BadHeader file header.BadSize) r = refused_text file header.BadSize r
  stops_text (feed.BadHeader file header.Memory) r = tt

  -- no header of files that are told is refused for want of memory
  pub no_want : (fault : FeedFault) → RefusesSome told source fault → stop_of_begin fault ≡ Memory →
      OfFirsts told (plan_of source) (λ w. ⊥)
  no_want feed.ReadFault r is files are = cc
  no_want (feed.BadHeader file (header.Short had)) r is files are = cc
  no_want (feed.BadHeader file (header.NotText place)) r is files are = cc
  no_want (feed.BadHeader file header.BadSize) r is files are = cc
  no_want (feed.BadHeader file header.Memory) r is files are =
      (r.refuses (first_file (stream_of (plan_of source) files) r.transfer) (all_told files are r.transfer r.there)).1

  -- what a fault leaves that came before one was judged
  pub breaks_first : (is_calm : Type 0) (told' : Told) → BreaksFirst told is_calm source told' →
      BreaksFirstAt (plan_of source).names (plan_of source).starts is_calm told told'
  breaks_first is_calm told' b = record {
    transfer = b.transfer;
    there = b.there;
    earlier = have_headers b.transfer b.earlier;
    broke = λ files are.
        let file_of : ℕ → List ℕ = λ k.
        slice_index_or files (first_at (plan_of source).names source.starts.now k) [] in
        subst (λ n. BreaksAt (file_name (plan_of source).names (begin_at source.starts.now n b.transfer))
        (file_of b.transfer) (firsts_read (λ k. file_name (plan_of source).names (begin_at source.starts.now n k))
        file_of b.transfer told) told') many
        (b.broke file_of (λ k below.
        let there : k < length source.starts.now = omega (arith, below, b.there) in
        let rise = begins_rise source.starts.now (length (plan_of source).names) starts k b.transfer
        (omega (arith, below)) b.there in
        told_at (IsFirstBefore (first_at (plan_of source).names source.starts.now b.transfer + 1) source.starts.now
        (length (plan_of source).names)) files are k there (omega (arith, rise), (k, there, refl))));
    through = λ k within files are.
        let file_of : ℕ → List ℕ = λ j.
        slice_index_or files (first_at (plan_of source).names source.starts.now j) [] in
        let below : k < length source.starts.now = omega (arith, within, b.there) in
        subst (λ n. IsPrefix (history (firsts_read (λ j. file_name (plan_of source).names
        (begin_at source.starts.now n j)) file_of k told)) (history told')) many
        (b.through k within file_of (λ j less.
        told_at (IsFirstBefore (first_at (plan_of source).names source.starts.now k) source.starts.now
        (length (plan_of source).names)) files are j (omega (arith, less, below)) (
          begins_below source.starts.now (length (plan_of source).names) starts j k less below,
          (j, omega (arith, less, below), refl),
        )));
    missing = subst (λ name. is_calm → ¬ IsSome (told.bytes_under name)) (named b.transfer) b.missing;
    unopened = λ calm files are.
        let file_of : ℕ → List ℕ = λ k.
        slice_index_or files (first_at (plan_of source).names source.starts.now k) [] in
        b.unopened calm file_of (λ k below.
        let there : k < length source.starts.now = omega (arith, below, b.there) in
        told_at (IsFirstBefore (first_at (plan_of source).names source.starts.now b.transfer) source.starts.now
        (length (plan_of source).names)) files are k there (
          begins_below source.starts.now (length (plan_of source).names) starts k b.transfer below b.there,
          (k, there, refl),
        ))
        ∙ ap (λ (n : ℕ). firsts_read (λ k. file_name (plan_of source).names (begin_at source.starts.now n k)) file_of
        b.transfer told) many;
  }

-- ---- what the headers say

-- an accepted file says the observation of its header
said_by : AcceptedByRows → (file : List ℕ) (header : HeaderText) (o : Observation) → header_of file ≡ Ok header →
    observation_of (fields_of header.text) ≡ Ok o → observation_at file ≡ o
unfolding observation_at
said_by rows file header o has accepted =
    let is : o ≡ observation_in (fields_of header.text) = ((rows (fields_of header.text) o).0 accepted).0 in
    ap (λ r. observation_in (fields_past r)) has ∙ sym is

-- what a header says is refused, or there is no memory
pub stops_fields : (told : Told) (plan : Plan) (file : ℕ) (cause : ObsFault) →
    (cause ≢ obs.Memory → RefusesFieldsAt told plan.names plan.starts file cause) →
    (cause ≢ obs.Memory → OfFirsts told plan (λ w. RefusesFirstFields w file cause)) →
    StopsFirsts told plan (stop_of_fields file cause)
stops_fields told plan file (obs.Missing key) each refuses = (each (λ is. cc), refuses (λ is. cc))
stops_fields told plan file (obs.BadNumber key) each refuses = (each (λ is. cc), refuses (λ is. cc))
stops_fields told plan file (obs.OutOfProfile key) each refuses = (each (λ is. cc), refuses (λ is. cc))
stops_fields told plan file (obs.OutOfRange key) each refuses = (each (λ is. cc), refuses (λ is. cc))
stops_fields told plan file (obs.TooNarrow bw nchan) each refuses = (each (λ is. cc), refuses (λ is. cc))
stops_fields told plan file (obs.Differs key) each refuses = (each (λ is. cc), refuses (λ is. cc))
stops_fields told plan file obs.Memory each refuses = tt

-- the observations of the first files that are told
pub are_firsts_at : AcceptedByRows → (told : Told) (names : List (List ℕ)) (starts : List ℕ)
    (headers : List HeaderText) (observations : List (Option Observation)) → length headers ≡ length starts →
    HeadersAt told names starts headers → AreObserved headers observations →
    AreFirstsAt told names starts headers observations
are_firsts_at rows told names starts headers observations headed have observed k below file is =
    let all = as_many headers observations observed in
    let at = have k below file is in
    let o = some_at headers observations observed k (omega (arith, below, all, headed)) in
    let accepted = accepted_at headers observations observed k o.0 at.0 o.1 at.1 in
    record {
      header = at.0;
      observation = o.0;
      there = at.1;
      said = slice_get-get_or observations k None (omega (arith, below, all, headed))
          ∙ ap (λ (x : Option Observation). Some x) o.1;
      is_header = at.2;
      is_observation = accepted;
      is = sym (said_by rows file at.0 o.0 at.2 accepted);
    }

-- why what the header of a transfer says is refused, where its first file is told
pub refuses_fields_at : (told : Told) (names : List (List ℕ)) (starts : List ℕ) (headers : List HeaderText) →
    HeadersAt told names starts headers → (transfer file : ℕ) (cause : ObsFault) (header : HeaderText) →
    transfer < length starts → file ≡ first_at names starts transfer → slice_get headers transfer ≡ Some header →
    ExplainsObservation (fields_of header.text) cause → cause ≢ obs.Memory →
    ((k : ℕ) (other : HeaderText) → k < transfer → slice_get headers k ≡ Some other →
    (o : Observation) × (observation_of (fields_of other.text) ≡ Ok o)) →
    RefusesFieldsAt told names starts file cause
refuses_fields_at told names starts headers have transfer file cause header there is at why other earlier = elim why [
  | inl want ↦ absurd (other want)
  | inr refused ↦ record {
    texts = λ k below bytes under. let here = have k below bytes under in (here.0, here.2);
    transfer = transfer;
    there = there;
    is = is;
    refused = subst (λ n. OfFile told (file_name names n) (λ bytes. RefusesFields bytes cause)) (sym is)
        (λ bytes under.
        let here = have transfer there bytes under in
        record {
          header = header;
          has = here.2 ∙ ap (λ (h : HeaderText). Ok h) (same_Some here.0 header (sym here.1 ∙ at));
          cause = refused;
        });
    earlier = λ k below bytes under.
        let here = have k (omega (arith, below, there)) bytes under in
        let o = earlier k here.0 below here.1 in
        record { header = here.0; observation = o.0; is_header = here.2; is_observation = o.1 };
  }
]

module _ (w : FileStream) (headers : List HeaderText) (many_headers : length headers ≡ length w.starts)
    (have : (k : ℕ) (header : HeaderText) → slice_get headers k ≡ Some header →
    header_of (first_file w k) ≡ Ok header) where
  header_of_transfer : (k : ℕ) → k < length w.starts → (header : HeaderText) × (slice_get headers k ≡ Some header)
  header_of_transfer k within = header_there headers k (omega (arith, within, many_headers))

  texts_of : (k : ℕ) → k < length w.starts → HasHeader (first_file w k)
  texts_of k within =
      let at = header_of_transfer k within in
      (at.0, have k at.0 at.1)

  -- their observations
  pub are_firsts : AcceptedByRows → AreStarts w.starts (length w.files) → (observations : List (Option Observation)) →
      AreObserved headers observations → AreFirsts w observations
  are_firsts rows starts observations observed =
      let all = as_many headers observations observed in
      record {
        walked = record {
          starts = starts;
          accepted = λ k within.
              let at = header_of_transfer k within in
              let o = some_at headers observations observed k (omega (arith, within, all, many_headers)) in
              record {
                header = at.0;
                observation = o.0;
                is_header = have k at.0 at.1;
                is_observation = accepted_at headers observations observed k o.0 at.0 o.1 at.1;
              };
        };
        count = omega (arith, all, many_headers);
        each = λ k within.
            let at = header_of_transfer k within in
            let o = some_at headers observations observed k (omega (arith, within, all, many_headers)) in
            let said = said_by rows (first_file w k) at.0 o.0 (have k at.0 at.1)
            (accepted_at headers observations observed k o.0 at.0 o.1 at.1) in
            slice_get-get_or observations k None (omega (arith, within, all, many_headers))
            ∙ ap (λ (x : Option Observation). Some x) (o.1 ∙ ap (λ (x : Observation). Some x) (sym said));
      }

  -- why what the header of a transfer says is refused
  pub refuses_fields : (transfer file : ℕ) (cause : ObsFault) (header : HeaderText) →
      transfer < length w.starts → file ≡ begin_of w transfer → slice_get headers transfer ≡ Some header →
      ExplainsObservation (fields_of header.text) cause → cause ≢ obs.Memory →
      ((k : ℕ) (other : HeaderText) → k < transfer → slice_get headers k ≡ Some other →
      (o : Observation) × (observation_of (fields_of other.text) ≡ Ok o)) →
      RefusesFirstFields w file cause
  refuses_fields transfer file cause header there is at why other earlier = elim why [
    | inl want ↦ absurd (other want)
    | inr refused ↦ record {
      texts = texts_of;
      transfer = transfer;
      there = there;
      is = is;
      header = header;
      has = have transfer header at;
      cause = refused;
      earlier = λ k before.
          let here = header_of_transfer k (omega (arith, before, there)) in
          let o = earlier k here.0 before here.1 in
          record {
            header = here.0;
            observation = o.0;
            is_header = have k here.0 here.1;
            is_observation = o.1;
          };
    }
  ]

-- ---- these stops come before the session

pub begin_comes : (fault : FeedFault) → ComesFirst (stop_of_begin fault)
begin_comes feed.ReadFault = tt
begin_comes (feed.BadHeader file (header.Short had)) = tt
begin_comes (feed.BadHeader file (header.NotText place)) = tt
begin_comes (feed.BadHeader file header.BadSize) = tt
begin_comes (feed.BadHeader file header.Memory) = tt

pub fields_come : (file : ℕ) (cause : ObsFault) → ComesFirst (stop_of_fields file cause)
fields_come file (obs.Missing key) = tt
fields_come file (obs.BadNumber key) = tt
fields_come file (obs.OutOfProfile key) = tt
fields_come file (obs.OutOfRange key) = tt
fields_come file (obs.TooNarrow bw nchan) = tt
fields_come file (obs.Differs key) = tt
fields_come file obs.Memory = tt

-- the stop of a fault of the inputs is that of no other
pub fault_of_begin : (fault : FeedFault) → stop_of_begin fault ≡ ReadFault → fault ≡ feed.ReadFault
fault_of_begin feed.ReadFault is = refl
fault_of_begin (feed.BadHeader file (header.Short had)) is = absurd cc
fault_of_begin (feed.BadHeader file (header.NotText place)) is = absurd cc
fault_of_begin (feed.BadHeader file header.BadSize) is = absurd cc
fault_of_begin (feed.BadHeader file header.Memory) is = absurd cc

-- nor is that of a header a fault
pub fields_no_fault : (file : ℕ) (cause : ObsFault) → stop_of_fields file cause ≡ ReadFault → ⊥
fields_no_fault file (obs.Missing key) is = cc
fields_no_fault file (obs.BadNumber key) is = cc
fields_no_fault file (obs.OutOfProfile key) is = cc
fields_no_fault file (obs.OutOfRange key) is = cc
fields_no_fault file (obs.TooNarrow bw nchan) is = cc
fields_no_fault file (obs.Differs key) is = cc
fields_no_fault file obs.Memory is = cc
