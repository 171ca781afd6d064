use Rattle.std.proofs.Common.{◌≡◌, ◌≢◌, ℕ, ◌<◌, Bool, List, [], Ok, length, map, get_or, true, false, sym, ap, ◌∙◌, subst, inl, inr, arith}
use Rattle.std.specs.Prelude.{slice_index_or, string_bytes}
use Rattle.std.proofs.lemmas.Bool.{cases_eq}
use Rattle.std.proofs.lemmas.Option.{slice_get-get_or}
use Rattle.dada_model.specs.Fields.{HeaderText, header_of}
use Rattle.psr_base.specs.Told.{Told, OfFile, history}
use Rattle.stream_model.specs.Walk.{FileStream, file_at}
use Rattle.stream_model.specs.WalkLaws.{DataNone}
use Rattle.disk_feeder.specs.declared.place.Place.{Place}
use Rattle.disk_feeder.specs.declared.source.Source.{Source}
use Rattle.disk_feeder.specs.Beginning.{AreFirstFiles, FirstsRead}
use Rattle.disk_feeder.specs.History.{firsts_read, first_of, name_of_first, read_before, read_first, StandsIf, ReadsUpTo}
use Rattle.disk_feeder.specs.Plan.{IsAmong, AreToldWithFirsts, opened_at, stream_of}
use Rattle.disk_feeder.specs.Sources.{plan_of, first_place, first_name}
use Rattle.disk_feeder.proofs.Fates.{same_files}
use Rattle.disk_feeder.proofs.Behind.{through_start}
use Rattle.disk_feeder.proofs.Histories.{begun_open, begun_shut, open_first}
use Rattle.disk_feeder.proofs.OfSource.{name_count, plan_starts, first_known}
use Rattle.disk_feeder.proofs.Needed.{told_before, firsts_fewer}
use Rattle.disk_feeder.proofs.Streams.{starts_of}
use Rattle.disk_feeder.proofs.stream.Stream.begin.Goals as goal

-- the first headers were read of the files of a source
begun : DataNone → (source : Source) (before told : Told) (at : Place) → told.bytes_under ≡ before.bytes_under →
    (length source.starts.now ≡ 1 → at ≡ record first_place { is_open = true }) →
    (length source.starts.now ≢ 1 → at ≡ first_place) →
    ((k : ℕ) → k < length source.starts.now → OfFile before (first_name source k)
    (λ file. (h : HeaderText) × (header_of file ≡ Ok h))) →
    FirstsRead before source (length source.starts.now) told → (files : List (List ℕ)) →
    AreToldWithFirsts 0 told (plan_of source) files →
    StandsIf at.is_open (plan_of source).names (stream_of (plan_of source) files) before told at
begun none source before told at names one more headed read files are =
    let plan = plan_of source in
    let s = stream_of plan files in
    let transfers = length source.starts.now in
    let count : length source.names.now ≡ length files = sym (are.count ∙ name_count source) in
    let starts = starts_of plan files are.count (plan_starts source) in
    let Needed : ℕ → Type 0 = IsAmong 0 plan.starts (length plan.names) in
    let was = told_before Needed before told plan.names files names are in
    let known : AreFirstFiles before source transfers (first_of s) =
    first_known 0 source before files was in
    let all : told ≡ firsts_read (name_of_first plan.names s) (first_of s) transfers before =
    read (first_of s) known
    ∙ ap (λ (n : ℕ). firsts_read (λ k. slice_index_or plan.names (slice_index_or plan.starts k n) []) (first_of s)
    transfers before) count in
    let some = plan_starts source in
    let header = headed 0 some.some (first_of s 0) (known 0 some.some) in
    let Has : ℕ → Type 0 = λ k. header_of (file_at s k) ≡ Ok header.0 in
    elim (cases_eq transfers 1) [
      | inl is ↦ rw (one is)
          (begun_open plan.names s before told header.0 (subst Has starts.first header.1) is starts.first none all)
      | inr other ↦ rw (more other)
          (begun_shut plan.names s before told other starts.first none all)
    ]

-- so the files stand, and nothing else was read before
begun_reads : DataNone → (source : Source) (before told : Told) (at : Place) → told.bytes_under ≡ before.bytes_under →
    (length source.starts.now ≡ 1 → at ≡ record first_place { is_open = true }) →
    (length source.starts.now ≢ 1 → at ≡ first_place) →
    ((k : ℕ) → k < length source.starts.now → OfFile before (first_name source k)
    (λ file. (h : HeaderText) × (header_of file ≡ Ok h))) →
    FirstsRead before source (length source.starts.now) told → ReadsUpTo (plan_of source) before told at
begun_reads none source before told at names one more headed read =
    let plan = plan_of source in
    let stands = begun none source before told at names one more headed read in
    record {
      known = λ files are. stands files (firsts_fewer 0 (opened_at at) told plan files (omega arith) are);
      through = through_start plan before told at at_first (λ files are.
          first_read at.is_open (stream_of plan files) (stands files are));
    }
  where
    at_first : at.file ≡ 0
    at_first = elim (cases_eq (length source.starts.now) 1) [
      | inl is ↦ ap (λ (pl : Place). pl.file) (one is)
      | inr other ↦ ap (λ (pl : Place). pl.file) (more other)
    ]

    first_read : (b : Bool) (s : FileStream) → StandsIf b (plan_of source).names s before told at →
        read_first b told ≡ history (read_before (plan_of source).names s 0 before)
    first_read false s was = rw (← at_first) (ap history was.told_is)
    first_read true s was =
        rw (← at_first) (open_first (plan_of source).names s before told at.transfer at.file at.since was)

pub returns-in-Ok-clause-reads : goal.returns-in-Ok-clause-reads
returns-in-Ok-clause-reads g c =
    let old = c.args.self.now in
    let mid = c.read_headers.new.self in
    let new = c.start.new.self in
    let kept = c.read_headers.ensures.kept in
    let before = g.I.Inputs.told c.args.inputs.now in
    let told = g.I.Inputs.told c.read_headers.new.inputs in
    let many : length mid.starts.now ≡ length old.source.starts.now = ap (λ s. length s.now) kept.starts in
    record {
      left = c.in-Ok.ensures.left;
      read = c.in-Ok.ensures.read;
      begins = rw (c.requires.due, c.requires.end)
          (same_files (plan_of old.source) (plan_of new) before told new.place
          (ap (λ p. p.names) c.start.ensures.plan ∙ ap (λ n. map string_bytes n.now) kept.names)
          (ap (λ p. p.starts) c.start.ensures.plan ∙ ap (λ s. s.now) kept.starts)
          (ap (λ p. p.max_bytes) c.start.ensures.plan ∙ kept.limit)
          (begun_reads c.data_none.ensures old.source before told new.place c.read_headers.ensures.inputs.names
          (λ is. c.start.ensures.one (many ∙ is)) (λ other. c.start.ensures.more (λ is. other (sym many ∙ is)))
          (λ k below file known.
          let none : HeaderText = record { size = 0; text = [] } in
          let header = get_or mid.headers.items k none in
          let headed : length mid.headers.items ≡ length mid.starts.now = mid.headed in (
            header,
            c.in-Ok.ensures.headers k below file known header
                (slice_get-get_or mid.headers.items k none (omega arith)),
          ))
          c.in-Ok.ensures.read));
    }
