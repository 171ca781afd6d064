use Rattle.std.proofs.Common.{◌≡◌, true, false, ◌∙◌, sym, ap, arith}
use Rattle.band_level.specs.Levelling.{Levelling}
use Rattle.band_level.proofs.Giving.{gives_on, gives_over}
use Rattle.band_level.proofs.leveller.Leveller.level.Goals as goal
use Rattle.band_level.proofs.leveller.Leveller.level.Goals.{then-self-via-then-self, then-self-via-else-self+then-self-2}

pub returns-then-self : goal.returns-then-self
returns-then-self c =
    let is = c.self.view_is ∙ c.make_piece.ensures.same in
    let first = ap (λ (o : Levelling). o.first) is in
    let last = ap (λ (o : Levelling). o.last) is in
    gives_on c.args.self.now c.make_piece.new.self c.bounds.ensures.format c.bounds.ensures.spectra c.requires
    c.make_piece.ensures
    (λ goes_on. elim c.then-self.branch [
      | then-self-via-then-self w ↦ let lt = w.if-self.true in omega arith
      | then-self-via-else-self+then-self-2 w ↦
          let e : true ≡ false = sym w.if-self-2.true ∙ ap (λ (o : Levelling). o.has_ended) is ∙ goes_on in absurd (cc)
    ])

pub returns : goal.returns
returns c =
    let is = c.self.view_is ∙ c.make_piece.ensures.same in
    let first = ap (λ (o : Levelling). o.first) is in
    let last = ap (λ (o : Levelling). o.last) is in
    let few = c.make_piece.ensures.few in
    gives_over c.args.self.now c.make_piece.new.self c.bounds.ensures.format c.bounds.ensures.spectra c.requires
    c.make_piece.ensures c.next_stretch.new.self
    (sym (ap (λ (o : Levelling). o.has_ended) is) ∙ c.if-self-2.false) (omega arith) c.next_stretch.ensures
