use Rattle.std.proofs.Common.{◌≡◌, List, Some, ◌∙◌, ap}
use Rattle.psr_base.specs.NamedFiles.{place_in}
use Rattle.psr_base.specs.Told.{Told}
use Rattle.psr_base.specs.declared.held.MemFile.{MemFile}
use Rattle.psr_base.proofs.Places.{IsFirst-found, told-opened}
use Rattle.psr_base.proofs.held.HeldFiles.«open».Goals as goal

pub invariant_of-self : goal.invariant_of-self
invariant_of-self c =
    let files = c.close.new.self.files.items in
    let same : files ≡ c.args.self.now.files.items = ap (λ v. v.items) c.close.ensures.files in
    let found : place_in files c.args.name.now ≡ Some c.in-Some.index =
    ap (λ (fs : List MemFile). place_in fs c.args.name.now) same ∙ cc (c.in-Some.ensures, c.deref.ensures.value) in
    record { open_is_first = λ file is. IsFirst-found files c.args.name.now c.in-Some.index _ _ file found is }

pub returns-in-Some-clause-opened : goal.returns-in-Some-clause-opened
returns-in-Some-clause-opened c = λ found_it.
    let before = c.args.self.now in
    let found : place_in before.files.items c.args.name.now ≡ Some c.in-Some.index =
    cc (c.in-Some.ensures, c.deref.ensures.value) in
    told-opened before.files.items c.close.new.self.files.items before.earlier.files c.close.new.self.earlier.files
    before.reading c.args.name.now c.in-Some.index (ap (λ v. v.items) c.close.ensures.files)
    (ap (λ (t : Told). t.earlier) c.close.ensures.told) found
