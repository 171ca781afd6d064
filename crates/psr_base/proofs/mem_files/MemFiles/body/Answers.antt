use Rattle.std.proofs.Common.{Some, List, ℕ, ◌≡◌, ◌+◌, ◌-◌, take, drop, ◌∙◌, ap, sym, arith}
use Rattle.psr_base.proofs.Buffer.{body_at-stored}
use Rattle.psr_base.proofs.mem_files.MemFiles.body.Goals as goal

pub returns : goal.returns
returns c =
    let it = c.args.self.now in
    let file = c.file-file.result.now in
    let len : file.len ≡ file.start + file.len - file.start = omega arith in
    body_at-stored it.bytes.items it.finished.items it.unfinished c.args.i file c.file-file.ensures
    ∙ ap (λ (n : ℕ). Some (take n (drop file.start it.bytes.items))) len
    ∙ ap (λ (bytes : List ℕ). Some (take (file.start + file.len - file.start) (drop file.start bytes)))
    (sym c.deref.ensures.value)
