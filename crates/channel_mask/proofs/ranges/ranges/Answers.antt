use Rattle.std.proofs.Common.{◌∷◌, ◌++◌, [], List, sym, ap, ◌∙◌, subst}
use Rattle.channel_mask.specs.declared.ranges.ChannelRange.{ChannelRange}
use Rattle.channel_mask.proofs.Items.{Reads, reads_none, reads_item, reads_more, reads_last, reads_all}
use Rattle.channel_mask.proofs.ranges.ranges.Goals as goal

pub loop-item-init : goal.loop-item-init
loop-item-init c =
    let text = c.args.text.now in
    subst (λ (ranges : List ChannelRange). Reads text text ranges) (sym c.new-ranges.ensures.items)
    (reads_none text c.requires (sym c.is_none.ensures ∙ c.if-is_none.false))

pub range-requires : goal.range-requires
range-requires c =
    reads_item _ _ _ c.loop-item.invariant c.in-Some.item.now c.in-Some.behind.now c.in-Some.ensures.some

pub loop-item-preserved : goal.loop-item-preserved
loop-item-preserved c =
    let ranges = c.loop-item.ranges.items in
    let pushed = c.in_ok-push.ensures.items ∙ ap (λ (r : ChannelRange). ranges ++ r ∷ []) c.range.ensures in
    subst (λ (rs : List ChannelRange). Reads c.args.text.now c.in-Some.behind.now rs) (sym pushed)
    (reads_more _ _ _ c.loop-item.invariant c.in-Some.item.now c.in-Some.behind.now c.in-Some.ensures.some)

pub range-requires-2 : goal.range-requires-2
range-requires-2 c = reads_last _ _ _ c.loop-item.invariant c.in_default.ensures.none

pub returns : goal.returns
returns c =
    let ranges = c.loop-item.ranges.items in
    c.in_ok-push-2.ensures.items ∙ ap (λ (r : ChannelRange). ranges ++ r ∷ []) c.range-2.ensures
    ∙ reads_all c.args.text.now _ _ c.loop-item.invariant c.in_default.ensures.none
    (sym c.is_none.ensures ∙ c.if-is_none.false)
