use Rattle.std.proofs.Common.{ℕ, ◌+◌, ◌*◌, ◌^◌, ◌<◌, arith, subst, sym}
use Rattle.std.proofs.lemmas.Bool.{false≢true}
use Rattle.band_paths.specs.Edges.{channels_of}
use Rattle.subband_plan.specs.Nodes.{BandPlan}
use Rattle.fdmt_carry.specs.Carrying.{IsStream}
use Rattle.fdmt_carry.proofs.Carried.{opened_stands}
use Rattle.fdmt_carry.proofs.Rooms.{have_room, have_table_room}
use Rattle.fdmt_carry.proofs.carry.Carry.open_passing.Goals as goal

pub invariant_of-result : goal.invariant_of-result
invariant_of-result c =
    let t = c.in_ok-tables.tables in
    let passes = c.in_ok-passes.passes in
    let st = c.in_ok-stores.stores in
    let zeros = c.in_ok-stores.ensures in
    let sizes = c.room.result in
    let most : ℕ = c.args.max_sample in (
      record {
        fits = subst (λ (p : BandPlan). most * (channels_of p.edges + p.last) < 2 ^ 32)
            (sym c.in_ok-tables.ensures.plan)
            c.requires.fits;
        pass_is = c.in_ok-passes.ensures.pass;
        short = omega arith;
        few_made = λ has. absurd (false≢true has);
        few = λ passing. absurd (false≢true passing);
        table_room = have_table_room t.rows.rows t.most sizes st zeros
            c.room.ensures.tables;
        pass_room = have_room passes.pass.schedule sizes st zeros c.room.ensures.pass;
        alone = λ passing. absurd (false≢true passing);
        from = λ passing. absurd (false≢true passing);
        to = λ passing. absurd (false≢true passing);
        before = λ passing. absurd (false≢true passing);
      },
      record {
        some = c.in_ok-passes.ensures.some;
        is_spare = c.in_ok-passes.ensures.spare;
      },
    )

pub returns-clause-stands : goal.returns-clause-stands
returns-clause-stands c = λ f stream.
    let t = c.in_ok-tables.tables in
    let passes = c.in_ok-passes.passes in
    let most : ℕ = c.args.max_sample in
    let here : IsStream t.plan most f =
    subst (λ (p : BandPlan). IsStream p most f) (sym c.in_ok-tables.ensures.plan) stream in
    opened_stands c.nothing_kept.ensures c.rows_begin_empty.ensures t passes.pass passes.limit most c.room.result
    c.in_ok-stores.stores f c.hold.ensures c.in_ok-stores.ensures here
