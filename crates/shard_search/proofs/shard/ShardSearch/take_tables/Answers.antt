use Rattle.std.proofs.Common.{sym, subst}
use Rattle.row_schedule.specs.Samples.{values_of}
use Rattle.shard_search.specs.Sums.{ShardState, ContinuesStream}
use Rattle.shard_search.proofs.Taking.{delays_are, room_for_hits, takes_next}
use Rattle.shard_search.proofs.shard.ShardSearch.take_tables.Goals as goal

pub take_rows-requires-clause-delays : goal.take_rows-requires-clause-delays
take_rows-requires-clause-delays c =
    delays_are _ _ _ _ c.self.invariant.0 c.self.invariant.1 c.self.invariant.2 c.begin.ensures

pub take_rows-requires-clause-stream : goal.take_rows-requires-clause-stream
take_rows-requires-clause-stream c =
    let P : ShardState → Type 0 = λ s. ContinuesStream s.carry (values_of c.args.samples) c.args.spectra in
    let goes = subst P (sym c.self.view_is) c.requires.stream in
    record { stream = goes.stream; stands = c.take.ensures.stands goes.stream goes.stands goes.next }

pub report-requires-clause-room : goal.report-requires-clause-room
report-requires-clause-room c =
    room_for_hits _ _ c.args.spectra c.self.inside.first _ _ c.self.invariant.0 c.self.invariant.2
    c.take_rows.ensures.alike.few c.requires.room

pub returns-clause-taken : goal.returns-clause-taken
returns-clause-taken c =
    let i = c.self.inside in
    let fed = c.take.ensures.fed in
    takes_next _ _ c.take.new.self c.begin.new.self _ c.fed-start.result c.args.spectra i.first i.end _ _
    (record {
      fit = c.self.invariant.0;
      first_is = c.self.invariant.1;
      end_is = c.self.invariant.2;
      start_is = c.fed-start.ensures;
      forgot = c.begin.ensures;
      mid_tables = fed.tables;
      mid_last = fed.last;
      tables = fed.tables;
      max_sample = fed.max_sample;
      fed = fed.fed;
      pulses = c.take_rows.ensures.alike.pulses;
      folds = c.take_rows.ensures.alike.folds;
      few = c.take_rows.ensures.alike.few;
      carried = c.take.ensures.stands;
      taken = λ f stands next. c.take_rows.ensures.taken f (c.take.ensures.stands f stands next);
      count = c.report.ensures.count;
      reported = c.report.ensures.pulses;
    }) _ c.self.view_is
