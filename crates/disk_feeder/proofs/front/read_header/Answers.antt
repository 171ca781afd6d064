use Rattle.std.proofs.Common.{◌≡◌, ℕ, List, Option, Some, Ok, drop, take, sym, ◌∙◌, ap}
use Rattle.dada_model.specs.Fields.{HeaderText, header_of}
use Rattle.dada_header.specs.Faults.{IsHeaderRefusal}
use Rattle.dada_header.specs.declared.faults.HeaderFault.{HeaderFault}
use Rattle.dada_header.specs.declared.faults.HeaderFault.TheVariants.{Memory}
use Rattle.psr_base.specs.Told.{left_to_read, opened, moved_by}
use Rattle.stream_model.specs.Walk.{data_of, data_past}
use Rattle.disk_feeder.proofs.Fronts.{front_is}
use Rattle.disk_feeder.proofs.front.read_header.Goals as goal

-- the fault of the first bytes is that of the file
fault_of_file : (bytes file : List ℕ) (fault : HeaderFault) → header_of bytes ≡ header_of file →
    IsHeaderRefusal bytes fault → IsHeaderRefusal file fault
fault_of_file bytes file Memory same refusal = refusal
fault_of_file bytes file fault same refusal = sym same ∙ refusal

-- what is left of a file past its header are its data
left_is : (left : Option (List ℕ)) (file : List ℕ) (count : ℕ) (h : HeaderText) → left ≡ Some (drop count file) →
    header_of file ≡ Ok h → count ≡ h.size → left ≡ Some (data_of file)
unfolding data_of
left_is left file count h rest is size =
    rest ∙ ap (λ (n : ℕ). Some (drop n file)) size ∙ ap (λ r. Some (data_past file r)) (sym is)

pub returns-in-Ok-read_again-clause-header : goal.returns-in-Ok-read_again-clause-header
returns-in-Ok-read_again-clause-header g c = λ file known.
    sym (c.in-Ok.ensures.front file known).header ∙ c.in-Ok-read_again.ensures.ok

pub returns-in-Ok-read_again-clause-left : goal.returns-in-Ok-read_again-clause-left
returns-in-Ok-read_again-clause-left g c = λ file known.
    let is = c.in-Ok.ensures.front file known in
    let has : header_of file ≡ Ok c.read_again.new.self = sym is.header ∙ c.in-Ok-read_again.ensures.ok in
    left_is (left_to_read (g.I.Inputs.told c.open_front.new.inputs)) file is.count c.read_again.new.self is.rest has
    (is.size c.read_again.new.self has)

pub returns-in-Err-read_again-clause-stopped : goal.returns-in-Err-read_again-clause-stopped
returns-in-Err-read_again-clause-stopped g c = λ file known.
    fault_of_file (take c.in-Ok.n c.open_front.new.space) file c.in-Err-read_again.fault
    (c.in-Ok.ensures.front file known).header c.in-Err-read_again.ensures.fault.0

pub returns-in-Ok-read_again-clause-read : goal.returns-in-Ok-read_again-clause-read
returns-in-Ok-read_again-clause-read g c = record {
  known = λ file known.
      let h = c.read_again.new.self in
      let has : header_of file ≡ Ok h =
      sym (c.in-Ok.ensures.front file known).header ∙ c.in-Ok-read_again.ensures.ok in
      c.in-Ok.ensures.whole file known h has
      ∙ ap (λ (n : ℕ). moved_by n (opened c.args.name.now (g.I.Inputs.told c.args.inputs.now)))
      (sym (front_is file h has));
  earlier = c.in-Ok.ensures.earlier;
}
