use Rattle.std.proofs.Common.{rules}
use Rattle.dada_model.specs.Fields.{fields_of}
use Rattle.dada_model.specs.declared.key.Key.TheVariants.{Nbit}
use Rattle.obs_plan.proofs.Refusals.{refused_outside}
use Rattle.obs_plan.proofs.rows.bits.Goals as goal

pub returns-else-is_within-2-clause-fault : goal.returns-else-is_within-2-clause-fault
returns-else-is_within-2-clause-fault c =
    refused_outside (fields_of c.args.header.now.text) Nbit c.outside.result c.outside.ensures c.in_ok-number.number
    c.in_ok-number.ensures.number (search rules)
