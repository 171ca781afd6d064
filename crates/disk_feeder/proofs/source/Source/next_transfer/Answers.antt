use Rattle.std.proofs.Common.{◌≡◌, ℕ, ◌+◌, false, List, length, sym, ◌∙◌, ap}
use Rattle.psr_base.specs.Told.{Told}
use Rattle.stream_model.specs.WalkLaws.{DataNone}
use Rattle.disk_feeder.specs.declared.place.Place.{Place}
use Rattle.disk_feeder.specs.History.{StandsIf}
use Rattle.disk_feeder.specs.Plan.{Plan, stream_of, AreToldWithFirsts, opened_at, begin_at}
use Rattle.disk_feeder.specs.Sources.{plan_of}
use Rattle.disk_feeder.proofs.Histories.{next_on}
use Rattle.disk_feeder.proofs.Streams.{begin_is}
use Rattle.disk_feeder.proofs.OfSource.{name_count}
use Rattle.disk_feeder.proofs.TransferEnds.{has_next}
use Rattle.disk_feeder.proofs.source.Source.next_transfer.Goals as goal

pub returns-clause-read : goal.returns-clause-read
returns-clause-read c = λ told before current has.
    let source = c.args.self.now in
    has_next (plan_of source) told source.place before current has c.requires.shut c.requires.there
    (c.requires.over
    ∙ ap (λ (n : ℕ). begin_at source.starts.now n (source.place.transfer + 1)) (sym (name_count source)))
    c.one_transfer_more.ensures c.data_none.ensures

-- the next transfer begins where the files of this one ended
next_shut : (plan : Plan) (before told : Told) (at : Place) (files : List (List ℕ)) →
    AreToldWithFirsts (opened_at at) told plan files → DataNone → at.is_open ≡ false →
    at.file ≡ begin_at plan.starts (length plan.names) (at.transfer + 1) →
    StandsIf at.is_open plan.names (stream_of plan files) before told at →
    StandsIf at.is_open plan.names (stream_of plan files) before told
    (record at { transfer = at.transfer + 1; since = 0 })
next_shut plan before told at files are none shut over stands =
    let s = stream_of plan files in
    rw shut
    (next_on none plan.names s before told at.transfer at.file at.since (rw shut at stands)
    (over ∙ sym (begin_is plan files are.count (at.transfer + 1))))

pub returns-clause-reads_on : goal.returns-clause-reads_on
returns-clause-reads_on c = λ before told reads.
    let source = c.args.self.now in
    let plan = plan_of source in
    let at = source.place in
    record {
      known = λ files are.
          next_shut plan before told at files are c.data_none.ensures c.requires.shut
          (c.requires.over ∙ ap (λ (n : ℕ). begin_at source.starts.now n (at.transfer + 1)) (sym (name_count source)))
          (reads.known files are);
      through = reads.through;
    }
