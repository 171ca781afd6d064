use Rattle.std.proofs.Common.{◌≡◌, ◌+◌, ℕ, List, Some, length, drop, vec_len, Ok, Err, OnErr, refl, ◌∙◌, ap, arith, rules}
use Rattle.std.proofs.lemmas.List.{take_all, length-take-le}
use Rattle.psr_base.specs.Told.{Told, left_to_read, rest_after, moved_by, at_end}
use Rattle.psr_base.proofs.Laws.{moved_by-moved_by, left_to_read-moved_by, read_by-some, read_by-none}
use Rattle.psr_base.proofs.Pieces.{more_within, length-of_ended, append-next, moved_by-next}
use Rattle.psr_base.proofs.reading.read_to_end.Goals as goal

-- what is left after d bytes, where d bytes were read
rest-moved : (d : ℕ) (old new : Told) (left : List ℕ) → new ≡ moved_by d old → left_to_read old ≡ Some left →
    left_to_read new ≡ Some (drop d left)
rest-moved d old new left moved known = ap left_to_read moved ∙ left_to_read-moved_by d old ∙ ap (rest_after d) known

pub returns-then-n-eq0-clause-whole : goal.returns-then-n-eq0-clause-whole
returns-then-n-eq0-clause-whole g c = λ left known.
    let before = c.loop-piece.invariant in
    let d = vec_len c.loop-piece.data in
    let so_far = before.given left known in
    let next = c.in_ok-n.ensures.next (drop d left) (rest-moved d _ _ left before.moved known) in
    let all : length left ≡ d = length-of_ended d left so_far.1 (next.ends c.if-n-eq0.true) in
    so_far.0 ∙ take_all d left (omega (arith, all))

pub loop-piece-preserved : goal.loop-piece-preserved
loop-piece-preserved g c =
    let told = g.I.Inputs.told c.args.inputs.now in
    let before = c.loop-piece.invariant in
    let d = vec_len c.loop-piece.data in
    let n = c.in_ok-n.n in
    let longer : vec_len c.extend_from_slice.new.self ≡ d + n =
    omega (
      arith,
      c.in_ok-extend_from_slice.ensures.len,
      length-take-le n c.read.new.into c.in_ok-n.ensures.bound,
    ) in
    record {
      moved = moved_by-next d n (vec_len c.extend_from_slice.new.self) told (g.I.Inputs.told c.loop-piece.inputs)
          (g.I.Inputs.told c.read.new.self) longer before.moved
          (c.in_ok-n.ensures.moved ∙ read_by-some n (g.I.Inputs.told c.loop-piece.inputs) c.if-n-eq0.false);
      given = λ left known.
          let so_far = before.given left known in
          let next = c.in_ok-n.ensures.next (drop d left) (rest-moved d _ _ left before.moved known) in
          let more = more_within d n left so_far.1 next.within in (
            append-next d n (vec_len c.extend_from_slice.new.self) c.loop-piece.data.items c.read.new.into
                c.extend_from_slice.new.self.items left longer c.in_ok-extend_from_slice.ensures.items so_far.0
                next.given,
            omega (arith, longer, more),
          );
      is_open = c.read.ensures.is_open;
      quiet = (c.read.ensures.inputs.quiet (search rules)) ∙ before.quiet;
      calm = λ h. c.read.ensures.inputs.calm (before.calm h);
    }

pub returns-in_err-extend_from_slice-clause-lost : goal.returns-in_err-extend_from_slice-clause-lost
returns-in_err-extend_from_slice-clause-lost g c =
    let told = g.I.Inputs.told c.args.inputs.now in
    let d = vec_len c.loop-piece.data in
    let n = c.in_ok-n.n in
    let moved : g.I.Inputs.told c.read.new.self ≡ moved_by (d + n) told =
    moved_by-next d n (d + n) told (g.I.Inputs.told c.loop-piece.inputs)
    (g.I.Inputs.told c.read.new.self) refl c.loop-piece.invariant.moved
    (c.in_ok-n.ensures.moved ∙ read_by-some n (g.I.Inputs.told c.loop-piece.inputs) c.if-n-eq0.false) in
    elim c.from_residual-in_err-extend_from_slice.result as (λ r.
    OnErr r ((k : ℕ) × (g.I.Inputs.told c.read.new.self ≡ moved_by k told))) [ Ok x ↦ tt | Err e ↦ (d + n, moved) ]

pub returns-then-n-eq0-clause-moved : goal.returns-then-n-eq0-clause-moved
returns-then-n-eq0-clause-moved g c =
    let no_more : vec_len c.loop-piece.data + 0 ≡ vec_len c.loop-piece.data = omega arith in
    c.in_ok-n.ensures.moved
    ∙ read_by-none c.in_ok-n.n (g.I.Inputs.told c.loop-piece.inputs) c.if-n-eq0.true
    ∙ ap (λ (t : Told). at_end (moved_by 0 t)) c.loop-piece.invariant.moved
    ∙ ap at_end (moved_by-moved_by (vec_len c.loop-piece.data) 0 (g.I.Inputs.told c.args.inputs.now))
    ∙ ap (λ (m : ℕ). at_end (moved_by m (g.I.Inputs.told c.args.inputs.now))) no_more
