use Rattle.std.proofs.Common.{sym, ◌∙◌, ap, subst, arith}
use Rattle.fdmt_carry.specs.Tables.{Tables}
use Rattle.row_schedule.specs.Samples.{values_of}
use Rattle.shard_search.specs.Sums.{ShardState, ContinuesStream}
use Rattle.shard_search.proofs.Passing.{begun_next}
use Rattle.shard_search.proofs.Taking.{delays_are, room_for_hits, takes_next}
use Rattle.shard_search.proofs.shard.ShardSearch.pass.Goals as goal

pub pass_rows-requires-clause-delays : goal.pass_rows-requires-clause-delays
pass_rows-requires-clause-delays c =
    delays_are _ _ _ _ c.self.invariant.0 c.self.invariant.1 c.self.invariant.2 c.begin-2.ensures

pub pass_rows-requires-clause-begun : goal.pass_rows-requires-clause-begun
pass_rows-requires-clause-begun c =
    let begins = c.begin.ensures.begun in
    let last = begins.last in
    let tables = begins.tables in
    let short = c.requires.short in
    let same = ap (λ (t : Tables). t.chunk) tables in
    let seen = ap (λ (s : ShardState). s.carry.tables.chunk) c.self.view_is in
    record {
      passing = begins.passing;
      next_is = begins.next ∙ sym c.self.invariant.0.pulses.first_is ∙ sym c.self.invariant.1;
      short = omega (arith, last, same, seen, short);
      start_is = c.fed-start.ensures ∙ sym begins.fed;
    }

pub pass_rows-requires-clause-stream : goal.pass_rows-requires-clause-stream
pass_rows-requires-clause-stream c =
    let P : ShardState → Type 0 = λ s. ContinuesStream s.carry (values_of c.args.samples) c.args.spectra in
    let goes = subst P (sym c.self.view_is) c.requires.stream in
    record {
      stream = goes.stream;
      stands = c.begin.ensures.stands goes.stream goes.stands goes.next;
      next = begun_next c.self.inside.carry c.begin.new.self goes.stream (values_of c.args.samples) c.args.spectra
          c.begin.ensures.begun goes.next;
    }

pub report-requires-clause-room : goal.report-requires-clause-room
report-requires-clause-room c =
    room_for_hits _ _ c.args.spectra c.self.inside.first _ _ c.self.invariant.0 c.self.invariant.2
    c.pass_rows.ensures.alike.few c.requires.room

pub returns : goal.returns
returns c =
    let i = c.self.inside in
    let begins = c.begin.ensures.begun in
    let passed = c.pass_rows.ensures.carry in
    let ends = c.finish.ensures.fed in
    let rows = values_of c.args.samples in
    takes_next _ _ c.begin.new.self c.begin-2.new.self _ c.fed-start.result c.args.spectra i.first i.end _ _
    (record {
      fit = c.self.invariant.0;
      first_is = c.self.invariant.1;
      end_is = c.self.invariant.2;
      start_is = c.fed-start.ensures;
      forgot = c.begin-2.ensures;
      mid_tables = begins.tables;
      mid_last = begins.last;
      tables = ends.tables ∙ passed.tables ∙ begins.tables;
      max_sample = ends.max_sample ∙ passed.max_sample ∙ begins.max_sample;
      fed = (let all = ends.fed in let same = passed.fed in let last = passed.last in let first = begins.fed in
          let count = begins.last in omega arith);
      pulses = c.pass_rows.ensures.alike.pulses;
      folds = c.pass_rows.ensures.alike.folds;
      few = c.pass_rows.ensures.alike.few;
      carried = λ f stands next. c.finish.ensures.stands f (c.pass_rows.ensures.stands f
          (c.begin.ensures.stands f stands next)
          (begun_next i.carry c.begin.new.self f rows c.args.spectra begins next));
      taken = λ f stands next. c.pass_rows.ensures.taken f (c.begin.ensures.stands f stands next)
          (begun_next i.carry c.begin.new.self f rows c.args.spectra begins next);
      count = c.report.ensures.count;
      reported = c.report.ensures.pulses;
    }) _ c.self.view_is
