use Rattle.std.proofs.Common.{◌≡◌, ℕ, ◌≤◌, ◌^◌, [], ◌∷◌, length, All, sym, subst, arith}
use Rattle.std.proofs.lemmas.List.Elements.{All-append, All-cons, All-nil}
use Rattle.search_opening.proofs.Built.{AreBuilt, one_built}
use Rattle.search_opening.proofs.Starting.{IsOffsetAt, offset_there, offsets_of}
use Rattle.search_opening.proofs.offsets.first_offsets.Goals as goal

-- at most the greatest OBS_OFFSET
abbrev small : ℕ → Type 0
small offset = offset ≤ 10 ^ 15

pub loop-k-preserved : goal.loop-k-preserved
loop-k-preserved c =
    let items = c.loop-k.offsets.items in
    record {
      built = one_built (IsOffsetAt c.args.observations.now) c.loop-k.k items c.push.new.self.items c.offset_of.result
          c.loop-k.invariant.built (offset_there c.args.observations.now c.loop-k.k c.index-observations-k.result
          c.offset_of.result c.index-observations-k.is c.offset_of.ensures.is) c.push.ensures.items;
      bounds = subst (All small) (sym c.push.ensures.items) (All-append small items (c.offset_of.result ∷ [])
          c.loop-k.invariant.bounds
          (All-cons small c.offset_of.result [] c.offset_of.ensures.bound (All-nil small)));
    }

pub returns : goal.returns
returns c =
    let all : c.loop-k.k ≡ length c.args.observations.now = omega (arith, c.loop-k-test.false, c.loop-k.auto.k-end) in
    offsets_of c.args.observations.now c.loop-k.offsets.items
    (subst (λ n. AreBuilt (IsOffsetAt c.args.observations.now) n c.loop-k.offsets.items) all c.loop-k.invariant.built)
    c.loop-k.invariant.bounds
