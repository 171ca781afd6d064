use Rattle.dada_model.specs.Fields.{fields_of}
use Rattle.obs_plan.proofs.Refusals.{refused_number, refused_outside}
use Rattle.obs_plan.proofs.rows.number.Goals as goal

pub returns-in-Missing-clause-fault : goal.returns-in-Missing-clause-fault
returns-in-Missing-clause-fault c = refused_number (fields_of c.args.header.now.text) c.args.key _ c.in-Missing.ensures

pub returns-in-BadNumber-clause-fault : goal.returns-in-BadNumber-clause-fault
returns-in-BadNumber-clause-fault c =
    refused_number (fields_of c.args.header.now.text) c.args.key _ c.in-BadNumber.ensures

pub returns-in-TooLarge-clause-fault : goal.returns-in-TooLarge-clause-fault
returns-in-TooLarge-clause-fault c =
    let large = c.in-TooLarge.ensures in
    refused_outside (fields_of c.args.header.now.text) c.args.key c.outside.result c.outside.ensures large.0 large.1
    (c.requires large.0 large.1 large.2)
