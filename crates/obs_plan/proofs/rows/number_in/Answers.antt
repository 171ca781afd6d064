use Rattle.std.proofs.Common.{◌∙◌, rules}
use Rattle.dada_model.specs.Fields.{fields_of}
use Rattle.dada_model.specs.Observation.{observation_in}
use Rattle.obs_plan.proofs.Refusals.{refused_outside}
use Rattle.obs_plan.proofs.rows.number_in.Goals as goal

pub returns-else-is_within-clause-fault : goal.returns-else-is_within-clause-fault
returns-else-is_within-clause-fault c =
    refused_outside (fields_of c.args.header.now.text) c.args.key c.outside.result c.outside.ensures
    c.in_ok-number.number c.in_ok-number.ensures.number
    (c.requires.row (observation_in (fields_of c.args.header.now.text)) c.in_ok-number.number ∙ search rules)
