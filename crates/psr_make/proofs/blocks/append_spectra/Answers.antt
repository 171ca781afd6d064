use Rattle.std.proofs.Common.{◌≡◌, ◌≤◌, ◌+◌, ◌-◌, ◌*◌, ◌/◌, ℕ, List, length, take, arith, ap, ap₂, ◌∙◌, subst}
use Rattle.std.proofs.lemmas.List.{length-take-le}
use Rattle.std.proofs.Math.Nat.{div-mul-le_self, mul-le-mul_right}
use Rattle.psr_base.specs.Made.{Appended}
use Rattle.psr_make.specs.Made.{spectrum_bytes, data_part}
use Rattle.psr_make.proofs.blocks.append_spectra.Goals as goal

pub returns-clause-appended : goal.returns-clause-appended
returns-clause-appended g c =
    let m = c.args.maker.now in
    let n : ℕ = c.spectrum_bytes-spectrum.result in
    let count : ℕ = c.min-count.result in
    let spectra : List ℕ = c.write.new.bytes in
    let fits : count * n ≤ length c.args.block.now =
    let most : count ≤ length c.args.block.now / n = omega arith in
    let bytes : count * n ≤ length c.args.block.now / n * n = mul-le-mul_right n most in
    let within = div-mul-le_self (length c.args.block.now) n in
    omega arith in
    let long : length (take (count * n) c.args.block.now) ≡ count * n =
    length-take-le (count * n) c.args.block.now fits in
    let wide : n ≡ spectrum_bytes m.spec =
    c.spectrum_bytes-spectrum.ensures.bytes ∙ ap spectrum_bytes c.spec.ensures.spec in
    let moved : count ≡ c.write.new.self.made - m.made =
    let made : c.write.new.self.made ≡ m.made + count = ap (λ w. w.made) c.write.ensures.made in
    omega arith in
    let is : spectra ≡ data_part m.spec (m.made * spectrum_bytes m.spec)
    ((c.write.new.self.made - m.made) * spectrum_bytes m.spec) =
    c.write.ensures.data ∙ ap (data_part m.spec (m.made * spectrum_bytes m.spec))
    (long ∙ ap₂ (λ a b. a * b) moved wide) in
    subst (λ (xs : List ℕ). Appended xs (g.F.Files.seen c.args.files.now) (g.F.Files.seen c.append_all.new.files)
    c.append_all.result) is c.append_all.ensures.appended
