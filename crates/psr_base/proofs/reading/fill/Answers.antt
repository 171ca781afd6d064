use Rattle.std.proofs.Common.{◌≡◌, ◌-◌, ◌<◌, ℕ, Some, length, drop, ◌+◌, refl, sym, ◌∙◌, ap, arith, rules}
use Rattle.std.proofs.lemmas.Slice.{take-put_mid_below}
use borrow.Rule.Slice.PartMut.{put_mid}
use Rattle.psr_base.specs.Told.{Told, left_to_read, rest_after, moved_by, at_end, read_by, filled_by}
use Rattle.psr_base.proofs.Laws.{moved_by-moved_by, left_to_read-moved_by, left_to_read-read_on, read_by-some, read_by-none, filled_by-less}
use Rattle.psr_base.proofs.Pieces.{take-put_mid-next, more_within, length-of_ended, moved_by-next}
use Rattle.psr_base.proofs.reading.fill.Goals as goal

pub loop-filled-preserved : goal.loop-filled-preserved
loop-filled-preserved g c =
    let told = g.I.Inputs.told c.args.inputs.now in
    let before = c.loop-filled.invariant in
    let f = c.loop-filled.filled in
    let n = c.in_ok-n.n in
    record {
      within = search rules;
      moved = moved_by-next f n (f + n) told (g.I.Inputs.told c.loop-filled.inputs)
          (g.I.Inputs.told c.read.new.self) refl before.moved
          (c.in_ok-n.ensures.moved ∙ read_by-some n (g.I.Inputs.told c.loop-filled.inputs) c.if-n-eq0.false);
      given = λ left known.
          let rest : left_to_read (g.I.Inputs.told c.loop-filled.inputs) ≡ Some (drop f left) =
          ap left_to_read before.moved ∙ left_to_read-moved_by f told ∙ ap (rest_after f) known in
          let next = c.in_ok-n.ensures.next (drop f left) rest in
          let so_far = before.given left known in (
            take-put_mid-next f n _ c.loop-filled.into c.read.new.into left before.within c.in_ok-n.ensures.bound
                so_far.0 next.given,
            more_within f n left so_far.1 next.within,
          );
      is_open = c.read.ensures.is_open;
      quiet = (c.read.ensures.inputs.quiet (search rules)) ∙ before.quiet;
      calm = λ h. c.read.ensures.inputs.calm (before.calm h);
    }

pub returns-then-n-eq0-clause-filled : goal.returns-then-n-eq0-clause-filled
returns-then-n-eq0-clause-filled g c = λ left known.
    let told = g.I.Inputs.told c.args.inputs.now in
    let before = c.loop-filled.invariant in
    let f = c.loop-filled.filled in
    let rest : left_to_read (g.I.Inputs.told c.loop-filled.inputs) ≡ Some (drop f left) = ap left_to_read before.moved
    ∙ left_to_read-moved_by f told ∙ ap (rest_after f) known in
    let next = c.in_ok-n.ensures.next (drop f left) rest in
    let so_far = before.given left known in
    let all : length left ≡ f = length-of_ended f left so_far.1 (next.ends c.if-n-eq0.true) in
    record {
      given = take-put_mid_below f _ c.loop-filled.into c.read.new.into f (omega arith) before.within ∙ so_far.0;
      count =
          let buffer : length (put_mid f (length c.loop-filled.into - f) c.loop-filled.into c.read.new.into)
          ≡ length c.loop-filled.into = search rules in
          omega (arith, all, buffer, before.within);
    }

-- fewer bytes than fit, and the end was seen
ended : (told told' told'' : Told) (f n size : ℕ) → told' ≡ moved_by f told → told'' ≡ read_by n told' → n ≡ 0 →
    f < size → told'' ≡ filled_by f size told
ended told told' told'' f n size moved read none less =
    let no_more : f + 0 ≡ f = omega arith in
    read ∙ read_by-none n told' none
    ∙ ap (λ (t : Told). at_end (moved_by 0 t)) moved
    ∙ ap at_end (moved_by-moved_by f 0 told)
    ∙ ap (λ (m : ℕ). at_end (moved_by m told)) no_more
    ∙ sym (filled_by-less f size told less)

pub returns-then-n-eq0-clause-moved : goal.returns-then-n-eq0-clause-moved
returns-then-n-eq0-clause-moved g c =
    let f = c.loop-filled.filled in
    let buffer : length (put_mid f (length c.loop-filled.into - f) c.loop-filled.into c.read.new.into)
    ≡ length c.loop-filled.into = search rules in
    ended (g.I.Inputs.told c.args.inputs.now) (g.I.Inputs.told c.loop-filled.inputs) (g.I.Inputs.told c.read.new.self)
    f c.in_ok-n.n (length (put_mid f (length c.loop-filled.into - f) c.loop-filled.into c.read.new.into))
    c.loop-filled.invariant.moved c.in_ok-n.ensures.moved c.if-n-eq0.true
    (omega (arith, buffer, c.loop-filled-test.true))

pub returns-then-n-eq0-clause-left : goal.returns-then-n-eq0-clause-left
returns-then-n-eq0-clause-left g c =
    ap left_to_read (returns-then-n-eq0-clause-moved g c)
    ∙ left_to_read-read_on c.loop-filled.filled _ (g.I.Inputs.told c.args.inputs.now)
