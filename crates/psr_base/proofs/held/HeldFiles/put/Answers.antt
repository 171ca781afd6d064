use Rattle.std.proofs.Common.{◌≡◌, List, Some, None, string_bytes, is_ok, ◌∙◌, ap, arith}
use Rattle.psr_base.specs.NamedFiles.{place_in, bytes_in, reading_of}
use Rattle.psr_base.specs.declared.held.MemFile.{MemFile}
use Rattle.psr_base.proofs.Places.{place_in-within, IsFirst-replaced, IsFirst-pushed, bytes_in-replaced, bytes_in-replaced_other, reading_of-replaced, bytes_in-added, bytes_in-added_other, reading_of-added}
use Rattle.psr_base.proofs.held.HeldFiles.put.Goals as goal

pub index_mut-requires : goal.index_mut-requires
index_mut-requires c =
    let before = c.args.self.now in
    let files = before.files.items in
    let found : place_in files c.args.name.now ≡ Some c.in-Some.index = cc (c.in-Some.ensures, c.deref.ensures.value) in
    omega (arith, before.files.ok.0, place_in-within files c.args.name.now c.in-Some.index found)

pub invariant_of-self : goal.invariant_of-self
invariant_of-self c =
    let before = c.args.self.now in
    let d = c.index_mut.result.now in
    let new : MemFile = record { name = d.name; bytes = c.in_ok-bytes.bytes } in
    record {
      open_is_first =
          λ file known. IsFirst-replaced before.files.items c.in-Some.index new d file
          (ap (λ (f : MemFile). string_bytes f.name) c.index_mut.ensures.value) (before.open_is_first file known);
    }

pub invariant_of-self-in-None : goal.invariant_of-self-in-None
invariant_of-self-in-None c =
    let before = c.args.self.now in
    let new : MemFile = record { name = c.in_ok-name-in-None.name; bytes = c.in_ok-bytes.bytes } in
    record {
      open_is_first =
          λ file known. IsFirst-pushed
          (is_ok c.push.result) before.files.items c.push.new.self.items new file c.push.ensures.items
          (before.open_is_first file known);
    }

pub returns-in-Some-clause-put : goal.returns-in-Some-clause-put
returns-in-Some-clause-put c =
    let files = c.args.self.now.files.items in
    let d = c.index_mut.result.now in
    let new : MemFile = record { name = d.name; bytes = c.in_ok-bytes.bytes } in
    let found : place_in files c.args.name.now ≡ Some c.in-Some.index = cc (c.in-Some.ensures, c.deref.ensures.value) in
    bytes_in-replaced files c.in-Some.index new d c.args.name.now
    (ap (λ (f : MemFile). string_bytes f.name) c.index_mut.ensures.value) found
    ∙ ap Some c.in_ok-bytes.ensures.items

pub returns-in-Some-clause-others : goal.returns-in-Some-clause-others
returns-in-Some-clause-others c =
    let files = c.args.self.now.files.items in
    let d = c.index_mut.result.now in
    let new : MemFile = record { name = d.name; bytes = c.in_ok-bytes.bytes } in
    let found : place_in files c.args.name.now ≡ Some c.in-Some.index = cc (c.in-Some.ensures, c.deref.ensures.value) in
    λ other differs. bytes_in-replaced_other files c.in-Some.index new d c.args.name.now other
    (ap (λ (f : MemFile). string_bytes f.name) c.index_mut.ensures.value) found differs

pub returns-in-Some-clause-reading : goal.returns-in-Some-clause-reading
returns-in-Some-clause-reading c =
    let before = c.args.self.now in
    let d = c.index_mut.result.now in
    let new : MemFile = record { name = d.name; bytes = c.in_ok-bytes.bytes } in
    reading_of-replaced before.files.items c.in-Some.index new d before.reading
    (ap (λ (f : MemFile). string_bytes f.name) c.index_mut.ensures.value)

pub returns-in_ok-push-in-None-clause-put : goal.returns-in_ok-push-in-None-clause-put
returns-in_ok-push-in-None-clause-put c =
    let files = c.args.self.now.files.items in
    let new : MemFile = record { name = c.in_ok-name-in-None.name; bytes = c.in_ok-bytes.bytes } in
    let missing : place_in files c.args.name.now ≡ None = cc (c.in-None.ensures, c.deref.ensures.value) in
    ap (λ (fs : List MemFile). bytes_in fs c.args.name.now) c.in_ok-push-in-None.ensures.items
    ∙ bytes_in-added files new c.args.name.now c.in_ok-name-in-None.ensures.ok missing
    ∙ ap Some c.in_ok-bytes.ensures.items

pub returns-in_ok-push-in-None-clause-others : goal.returns-in_ok-push-in-None-clause-others
returns-in_ok-push-in-None-clause-others c =
    let files = c.args.self.now.files.items in
    let new : MemFile = record { name = c.in_ok-name-in-None.name; bytes = c.in_ok-bytes.bytes } in
    λ other differs. ap (λ (fs : List MemFile). bytes_in fs other) c.in_ok-push-in-None.ensures.items
    ∙ bytes_in-added_other files new c.args.name.now other c.in_ok-name-in-None.ensures.ok differs

pub returns-in_ok-push-in-None-clause-reading : goal.returns-in_ok-push-in-None-clause-reading
returns-in_ok-push-in-None-clause-reading c =
    let before = c.args.self.now in
    let new : MemFile = record { name = c.in_ok-name-in-None.name; bytes = c.in_ok-bytes.bytes } in
    ap (λ (fs : List MemFile). reading_of fs before.reading) c.in_ok-push-in-None.ensures.items
    ∙ reading_of-added before.files.items new before.reading before.open_is_first
