use Rattle.std.proofs.Common.{◌≡◌, ℕ, sym, ◌∙◌, refl}
use Rattle.channel_mask.specs.declared.ranges.ChannelRange.{ChannelRange}
use Rattle.channel_mask.proofs.Items.{two_parts, first_is_number, second_is_number, range_of_one, range_of_two}
use Rattle.channel_mask.proofs.ranges.range.Goals as goal

pub number-requires : goal.number-requires
number-requires c =
    first_is_number c.args.item.now _ _ c.requires
    (two_parts c.args.item.now c.in-Some.first.now c.in-Some.second.now c.requires c.in-Some.ensures.some)

pub number-requires-in-Some : goal.number-requires-in-Some
number-requires-in-Some c =
    second_is_number c.args.item.now _ _ c.requires
    (two_parts c.args.item.now c.in-Some.first.now c.in-Some.second.now c.requires c.in-Some.ensures.some)

pub number-only-requires : goal.number-only-requires
number-only-requires c = first_is_number c.args.item.now _ _ c.requires c.in-None.ensures.none

pair : (a b x y : ℕ) → a ≡ x → b ≡ y →
    ◌≡◌ {A = ChannelRange} (record { from = a; to = b }) (record { from = x; to = y })
pair a b x y e f = rw (e, f) refl

pub returns-in-Some : goal.returns-in-Some
returns-in-Some c =
    let parts = two_parts c.args.item.now c.in-Some.first.now c.in-Some.second.now c.requires
    c.in-Some.ensures.some in
    pair _ _ _ _ c.number.ensures c.number-in-Some.ensures ∙ sym (range_of_two c.args.item.now _ _ parts)

pub returns-in-None : goal.returns-in-None
returns-in-None c =
    pair _ _ _ _ c.number-only.ensures c.number-only.ensures
    ∙ sym (range_of_one c.args.item.now _ c.in-None.ensures.none)
