use Rattle.std.proofs.Common.{rules, ◌≡◌, ◌∙◌, true, Bool, List, length, sym, ap, subst, arith}
use Rattle.std.specs.Prelude.{not}
use Rattle.std.specs.List.{list_all}
use Rattle.search_engine.specs.Scope.{Scope, scope_of_channels, whole_scope}
use Rattle.channel_mask.specs.Masked.{IsScopeOf}
use Rattle.channel_mask.proofs.Kept.{counted_is_scope, fits, whole_is_scope}
use Rattle.channel_mask.proofs.mask.Mask.scope.Goals as goal

counted_kept : goal.returns-clause-kept
counted_kept c =
    let o = c.args.obs.now in
    let mask = c.args.self.now in
    let counts = c.in_ok-counts.counts.items in
    let marks : c.extend_from_slice.new.self.items ≡ mask = search rules in
    subst (λ (x : Scope). IsScopeOf o c.args.max_delay mask x)
    (sym (c.of_channels.ensures ∙ ap (λ (m : List Bool). scope_of_channels m counts) marks))
    (counted_is_scope c.plain_is_unmasked.ensures o c.args.max_delay mask counts
    (c.edges_fall.ensures o c.lies_in_range.ensures) c.in_ok-counts.ensures.long c.in_ok-counts.ensures.cells)

pub returns-clause-kept : goal.returns-clause-kept
returns-clause-kept c = counted_kept c

pub returns-clause-fits : goal.returns-clause-fits
returns-clause-fits c = λ s most.
    let mask = c.args.self.now in
    let marks : c.extend_from_slice.new.self.items ≡ mask = search rules in
    let masked = ap (λ (x : Scope). x.masked) c.of_channels.ensures ∙ marks in
    fits c.args.obs.now c.args.max_delay mask c.of_channels.result (counted_kept c)
    (let long = ap (λ (m : List Bool). length m) masked in omega (arith, long, c.requires.channels)) s

whole_kept : goal.returns-then-are_none-clause-kept
whole_kept c =
    let o = c.args.obs.now in
    let mask = c.args.self.now in
    let none : list_all (λ mark. not mark) mask ≡ true = search rules in
    subst (λ (x : Scope). IsScopeOf o c.args.max_delay mask x)
    (sym (c.whole.ensures ∙ ap (λ n. whole_scope n) c.channels.ensures))
    (whole_is_scope c.plain_is_unmasked.ensures o c.args.max_delay mask
    (c.edges_fall.ensures o c.lies_in_range.ensures) none)

pub returns-then-are_none-clause-kept : goal.returns-then-are_none-clause-kept
returns-then-are_none-clause-kept c = whole_kept c

pub returns-then-are_none-clause-fits : goal.returns-then-are_none-clause-fits
returns-then-are_none-clause-fits c = λ s most.
    let masked = ap (λ (x : Scope). x.masked) c.whole.ensures in
    fits c.args.obs.now c.args.max_delay c.args.self.now c.whole.result (whole_kept c)
    (let long = ap (λ (m : List Bool). length m) masked in omega (arith, long)) s
