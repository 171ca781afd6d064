use Rattle.std.proofs.Common.{◌≡◌, Some, length, slice_get, ap, refl, ◌∙◌, arith}
use Rattle.row_model.specs.declared.Source.TheVariants.{Sum}
use Rattle.row_schedule.specs.Moving.{kept_lists}
use Rattle.row_schedule.specs.Samples.{values_of}
use Rattle.row_schedule.proofs.OwnPlaces.{channel_fits, others_stand, samples_stand, sum_stands}
use Rattle.row_schedule.proofs.filling.fill_row.Goals as goal

pub copy_samples-requires-clause-from : goal.copy_samples-requires-clause-from
copy_samples-requires-clause-from c =
    let s = c.requires.samples in
    let short = c.requires.short.short in
    let within = c.requires.short.within in
    channel_fits s.channels c.in-Channel.channel c.args.chunk c.args.spectra (length (values_of c.args.samples))
    (s.rows_are.channel c.args.row c.in-Channel.channel (c.source.ensures ∙ ap Some c.in-Channel.is)) (omega arith)
    s.within

pub fill_sum-requires-clause-merge : goal.fill_sum-requires-clause-merge
fill_sum-requires-clause-merge c =
    c.requires.samples.rows_are.merge c.args.row c.in-Sum.merge (c.source.ensures ∙ ap Some c.in-Sum.is)

pub returns-in-Channel-clause-stands : goal.returns-in-Channel-clause-stands
returns-in-Channel-clause-stands c = λ x y u given sources.
    samples_stand c.args.rows.now x y u c.args.room c.args.chunk c.args.spectra c.args.row c.in-Channel.channel
    c.own_place.result _ (values_of c.args.samples) c.args.schedule.now.narrow
    (kept_lists c.args.kept_narrow.now c.args.kept_wide.now) c.args.wide.now c.copy_samples.new.out given
    (c.source.ensures ∙ ap Some c.in-Channel.is) c.own_place.ensures refl c.copy_samples.ensures

pub returns-in-Channel-clause-others : goal.returns-in-Channel-clause-others
returns-in-Channel-clause-others c = λ y u q other stands.
    others_stand c.args.room c.args.spectra q c.args.row u c.own_place.result y c.args.wide.now c.copy_samples.new.out
    c.own_place.ensures c.requires.short.short other c.copy_samples.ensures.stays stands

pub returns-in-Sum-clause-stands : goal.returns-in-Sum-clause-stands
returns-in-Sum-clause-stands c = λ x y u given sources.
    let m = c.in-Sum.merge in
    let is : slice_get c.args.rows.now.sources.items c.args.row ≡ Some (Sum m) =
    c.source.ensures ∙ ap Some c.in-Sum.is in
    let within = given.rows_are.merge c.args.row m is in
    sum_stands c.args.rows.now x y u c.args.room c.args.spectra c.args.row m
    c.args.schedule.now.narrow (kept_lists c.args.kept_narrow.now c.args.kept_wide.now) c.args.wide.now
    c.fill_sum.new.wide given.adds is within.enough (given.kept_are m.upper within.upper) (sources.upper m is)
    (sources.lower m is) c.fill_sum.ensures

pub returns-in-Sum-clause-others : goal.returns-in-Sum-clause-others
returns-in-Sum-clause-others c = λ y u q other stands.
    others_stand c.args.room c.args.spectra q c.args.row u _ y c.args.wide.now c.fill_sum.new.wide refl c.requires.short.short
    other c.fill_sum.ensures.stays stands
