use Rattle.std.proofs.Common.{◌∙◌, List, ℕ, length, sym, ap, arith}
use Rattle.std.proofs.Math.Nat.{le-mul_of_pos_right}
use Rattle.spectra_rows.specs.Kept.{samples_kept}
use Rattle.spectra_rows.proofs.Parts.{unpacked_in}
use Rattle.spectra_rows.proofs.kept.Rows.unpack.Goals as goal

pub returns-in-Words-clause-unpacked : goal.returns-in-Words-clause-unpacked
returns-in-Words-clause-unpacked c =
    let l = c.args.layout in
    let wide = le-mul_of_pos_right l.chunk c.requires.some in
    let room = c.requires.room in
    let is = c.as_mut_slice.ensures.value ∙ sym (ap samples_kept c.in-Words.is) in
    let same = ap (λ (xs : List ℕ). length xs) is in
    unpacked_in l.channels l.is_falling l.nbit l.npol l.chunk c.args.bytes.now (samples_kept c.args.self.now)
    c.as_mut_slice.result.now c.unpack.new.rows _ c.in-Words.words.len c.args.ready c.args.count
    c.requires.chunk (omega (arith, wide, room, same, c.requires.chunk)) c.unpack.auto.rows
    c.as_mut_slice.ensures.len is c.unpack.ensures

pub returns-in-Bytes-clause-unpacked : goal.returns-in-Bytes-clause-unpacked
returns-in-Bytes-clause-unpacked c =
    let l = c.args.layout in
    let wide = le-mul_of_pos_right l.chunk c.requires.some in
    let room = c.requires.room in
    let is = c.as_mut_slice-in-Bytes.ensures.value ∙ sym (ap samples_kept c.in-Bytes.is) in
    let same = ap (λ (xs : List ℕ). length xs) is in
    unpacked_in l.channels l.is_falling l.nbit l.npol l.chunk c.args.bytes.now (samples_kept c.args.self.now)
    c.as_mut_slice-in-Bytes.result.now c.unpack-in-Bytes.new.rows _ c.in-Bytes.samples.len c.args.ready c.args.count
    c.requires.chunk (omega (arith, wide, room, same, c.requires.chunk)) c.unpack-in-Bytes.auto.rows
    c.as_mut_slice-in-Bytes.ensures.len is c.unpack-in-Bytes.ensures
