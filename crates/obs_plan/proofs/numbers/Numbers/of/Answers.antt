use Rattle.std.proofs.Common.{◌≡◌, ◌≤◌, ◌*◌, Ok, refl, rules, SFits, w64}
use Rattle.std.specs.Prelude.{ℤ}
use Rattle.std.specs.Int.{cast_signed, cast_unsigned}
use Rattle.std.proofs.lemmas.Result.{err_from_is_err_and}
use Rattle.dada_model.specs.declared.key.Key.TheVariants.{Nchan, Nbit, Npol, Ndim, Tsamp, Freq, Bw, ObsOffset}
use Rattle.dada_model.specs.Fields.{fields_of}
use Rattle.dada_model.specs.Observation.{observation_of}
use Rattle.obs_plan.specs.Rows.{IsTaken}
use Rattle.obs_plan.proofs.FoundNumbers.{held}
use Rattle.obs_plan.proofs.Refusals.{refused_first}
use Rattle.obs_plan.proofs.Refusals.AreTakenAt.{no_key, past}
use Rattle.obs_plan.proofs.Accepted.{AreTaken, observed, accepted, narrow}
use Rattle.obs_plan.proofs.numbers.Numbers.of.Goals as goal
use Rattle.obs_plan.proofs.numbers.Numbers.of.Goals.{After-unsigned_abs-width_hz}

pub returns-in_err-channels-clause-fault : goal.returns-in_err-channels-clause-fault
returns-in_err-channels-clause-fault c =
    let p = err_from_is_err_and c.from_residual.result c.from_residual.ensures.1 in
    rw (p.1, p.2) (refused_first _ no_key Nchan _ refl _ c.in_err-channels.ensures.fault)

pub returns-in_err-nbit-clause-fault : goal.returns-in_err-nbit-clause-fault
returns-in_err-nbit-clause-fault c =
    let p = err_from_is_err_and c.from_residual-in_err-nbit.result c.from_residual-in_err-nbit.ensures.1 in
    rw (p.1, p.2) (refused_first _ (past c.in_ok-channels.ensures.taken no_key) Nbit _ refl _
    c.in_err-nbit.ensures.fault)

pub returns-in_err-npol-clause-fault : goal.returns-in_err-npol-clause-fault
returns-in_err-npol-clause-fault c =
    let p = err_from_is_err_and c.from_residual-in_err-npol.result c.from_residual-in_err-npol.ensures.1 in
    rw (p.1, p.2) (refused_first _ (past c.in_ok-channels.ensures.taken (past c.in_ok-nbit.ensures.taken
    no_key)) Npol _ refl _ c.in_err-npol.ensures.fault)

pub returns-in_err-number_in-clause-fault : goal.returns-in_err-number_in-clause-fault
returns-in_err-number_in-clause-fault c =
    let p = err_from_is_err_and c.from_residual-in_err-number_in.result c.from_residual-in_err-number_in.ensures.1 in
    rw (p.1, p.2) (refused_first _ (past c.in_ok-channels.ensures.taken (past c.in_ok-nbit.ensures.taken
    (past c.in_ok-npol.ensures.taken no_key))) Ndim _ refl _ c.in_err-number_in.ensures.fault)

pub returns-in_err-sample_ns-clause-fault : goal.returns-in_err-sample_ns-clause-fault
returns-in_err-sample_ns-clause-fault c =
    let p = err_from_is_err_and c.from_residual-in_err-sample_ns.result c.from_residual-in_err-sample_ns.ensures.1 in
    rw (p.1, p.2) (refused_first _ (past c.in_ok-channels.ensures.taken (past c.in_ok-nbit.ensures.taken
    (past c.in_ok-npol.ensures.taken (past c.in_ok-number_in.ensures.taken no_key)))) Tsamp _ refl _
    c.in_err-sample_ns.ensures.fault)

pub returns-in_err-centre_hz-clause-fault : goal.returns-in_err-centre_hz-clause-fault
returns-in_err-centre_hz-clause-fault c =
    let p = err_from_is_err_and c.from_residual-in_err-centre_hz.result c.from_residual-in_err-centre_hz.ensures.1 in
    rw (p.1, p.2) (refused_first _ (past c.in_ok-channels.ensures.taken (past c.in_ok-nbit.ensures.taken
    (past c.in_ok-npol.ensures.taken (past c.in_ok-number_in.ensures.taken (past
    c.in_ok-sample_ns.ensures.taken no_key))))) Freq _ refl _ c.in_err-centre_hz.ensures.fault)

pub returns-in_err-bw_hz-clause-fault : goal.returns-in_err-bw_hz-clause-fault
returns-in_err-bw_hz-clause-fault c =
    let p = err_from_is_err_and c.from_residual-in_err-bw_hz.result c.from_residual-in_err-bw_hz.ensures.1 in
    rw (p.1, p.2) (refused_first _ (past c.in_ok-channels.ensures.taken (past c.in_ok-nbit.ensures.taken
    (past c.in_ok-npol.ensures.taken (past c.in_ok-number_in.ensures.taken (past
    c.in_ok-sample_ns.ensures.taken (past c.in_ok-centre_hz.ensures.taken no_key)))))) Bw _ refl _
    c.in_err-bw_hz.ensures.fault)

pub returns-in_err-obs_offset-clause-fault : goal.returns-in_err-obs_offset-clause-fault
returns-in_err-obs_offset-clause-fault c =
    let p = err_from_is_err_and c.from_residual-in_err-obs_offset.result c.from_residual-in_err-obs_offset.ensures.1 in
    rw (p.1, p.2) (refused_first _ (past c.in_ok-channels.ensures.taken (past c.in_ok-nbit.ensures.taken
    (past c.in_ok-npol.ensures.taken (past c.in_ok-number_in.ensures.taken (past
    c.in_ok-sample_ns.ensures.taken (past c.in_ok-centre_hz.ensures.taken (past c.in_ok-bw_hz.ensures.taken
    no_key))))))) ObsOffset _ refl _ c.in_err-obs_offset.ensures.fault)

-- BW as it is held
abbrev bw : After-unsigned_abs-width_hz → ℤ
bw c = cast_signed w64 (cast_unsigned w64 c.in_ok-bw_hz.bw_hz)

taken : (c : After-unsigned_abs-width_hz) →
    AreTaken (fields_of c.args.header.now.text) c.in_ok-channels.channels c.in_ok-nbit.nbit c.in_ok-npol.npol
    c.in_ok-number_in.field-0 c.in_ok-sample_ns.sample_ns c.in_ok-centre_hz.centre_hz (bw c)
    c.unsigned_abs-width_hz.result c.in_ok-obs_offset.obs_offset
taken c = record {
  channels_taken = c.in_ok-channels.ensures.taken;
  nbit_taken = c.in_ok-nbit.ensures.taken;
  npol_taken = c.in_ok-npol.ensures.taken;
  ndim_taken = c.in_ok-number_in.ensures.taken;
  sample_taken = c.in_ok-sample_ns.ensures.taken;
  centre_taken = c.in_ok-centre_hz.ensures.taken;
  bw_taken = let fits : SFits w64 c.in_ok-bw_hz.bw_hz = search rules in
      held (IsTaken (fields_of c.args.header.now.text) Bw) c.in_ok-bw_hz.bw_hz fits c.in_ok-bw_hz.ensures.taken;
  width_is = c.unsigned_abs-width_hz.ensures.value;
  offset_taken = c.in_ok-obs_offset.ensures.taken;
}

pub returns-then-width_hz-channels-clause-fault : goal.returns-then-width_hz-channels-clause-fault
returns-then-width_hz-channels-clause-fault c =
    let here = (goal.at.returns-then-width_hz-channels-clause-fault c).After-unsigned_abs-width_hz in
    narrow _ _ _ _ _ _ _ _ _ _ (taken here) c.if-width_hz-channels.true

is : (c : After-unsigned_abs-width_hz) → 1000 * c.in_ok-channels.channels ≤ c.unsigned_abs-width_hz.result →
    observation_of (fields_of c.args.header.now.text) ≡ Ok
    (observed c.in_ok-channels.channels c.in_ok-nbit.nbit c.in_ok-npol.npol c.in_ok-sample_ns.sample_ns
    c.in_ok-centre_hz.centre_hz (bw c) c.unsigned_abs-width_hz.result c.in_ok-obs_offset.obs_offset)
is c wide = accepted _ _ _ _ _ _ _ _ _ _ (taken c) c.accepted_by_rows.ensures wide

pub invariant_of-result : goal.invariant_of-result
invariant_of-result c =
    let here = (goal.at.invariant_of-result c).After-unsigned_abs-width_hz in
    c.accepted_is_in_range.ensures (fields_of c.args.header.now.text) _ (is here c.if-width_hz-channels.false)

pub returns-clause-ok : goal.returns-clause-ok
returns-clause-ok c = is (goal.at.returns-clause-ok c).After-unsigned_abs-width_hz c.if-width_hz-channels.false
