use Rattle.std.proofs.Common.{◌≡◌, ℕ, List, Result, Ok, Err, OnOk, drop, ap, ◌∙◌}
use Rattle.std.specs.Option.{option_map, ForSome}
use Rattle.dada_model.specs.Fields.{HeaderText, header_of}
use Rattle.psr_base.specs.Told.{Told, OfFile, left_to_read, opened, moved_by}
use Rattle.psr_base.specs.declared.faults.Failed.{Failed}
use Rattle.disk_feeder.proofs.front.open_front.Goals as goal

-- what was read of the file that was opened
whole_of : (r : Result ℕ Failed) (told mid new : Told) (name : List ℕ) →
    OfFile told name (λ _. mid ≡ opened name told) →
    OnOk r (ForSome (left_to_read mid) (λ file. (h : HeaderText) → header_of file ≡ Ok h →
    new ≡ moved_by h.size mid)) →
    OnOk r (OfFile told name (λ file. (h : HeaderText) → header_of file ≡ Ok h →
    new ≡ moved_by h.size (opened name told)))
whole_of (Ok n) told mid new name is whole = λ file known h has.
    let same = is file known in
    whole file (ap left_to_read same ∙ ap (option_map (drop 0)) known) h has ∙ ap (moved_by h.size) same
whole_of (Err e) told mid new name is whole = tt

pub returns-in-Ok-clause-whole : goal.returns-in-Ok-clause-whole
returns-in-Ok-clause-whole g c =
    whole_of c.read_front.result (g.I.Inputs.told c.args.inputs.now) (g.I.Inputs.told c.open.new.self)
    (g.I.Inputs.told c.read_front.new.inputs) c.args.name.now c.in-Ok.ensures.opened c.read_front.ensures.whole
