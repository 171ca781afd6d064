-- The list of the readers after a write, as the machine sees it.
use Rattle.std.proofs.Common.{◌≡◌, ℕ, List, ap, subst, sym, ◌∙◌}
use Rattle.std.proofs.lemmas.List.{map-set}
use Rattle.std.specs.Vec.{with_item}
use Rattle.ring_core.specs.Machine.{Reader, with_reader}
use Rattle.ring_core.specs.State.{CoreState, IsSoundCore, reader_of}
use Rattle.ring_core.specs.Kept.{ring_of}
use Rattle.ring_core.specs.declared.Reader.{Reader as Held}
use Rattle.ring_core.specs.declared.Core.TheInside.{Inside}
use Rattle.ring_core.proofs.Core.set_reader.Goals as goal

as_set : (a : Inside) (now : CoreState) (i : ℕ) (r : Held) → ring_of a ≡ now →
    ring_of (record a { readers = with_item a.readers i r })
    ≡ record now { machine = with_reader now.machine i (reader_of r) }
as_set a now i r is =
    ap (λ (l : List Reader). record {
      shape = a.shape;
      machine =
          record { sealed = a.sealed.items; writing = a.writing; low = a.low.items; readers = l };
    })
    (map-set reader_of a.readers.items i r)
    ∙ ap (λ (x : CoreState). record x { machine = with_reader x.machine i (reader_of r) }) is

pub invariant_of-self : goal.invariant_of-self
invariant_of-self c = record {
  space = c.self.invariant.space;
  ring = let P : CoreState → Type 0 = λ x. IsSoundCore x in
      subst P (sym (as_set c.self.inside c.args.self.now c.args.i c.args.reader c.self.view_is)) c.requires.ring;
}

pub returns : goal.returns
returns c = as_set c.self.inside c.args.self.now c.args.i c.args.reader c.self.view_is
