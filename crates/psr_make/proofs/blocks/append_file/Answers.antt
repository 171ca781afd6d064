use Rattle.std.proofs.Common.{◌≡◌, ◌≤◌, ℕ, arith, rules, ap, ◌∙◌, subst}
use Rattle.psr_base.specs.Made.{AppendedAll, AppendedFront}
use Rattle.psr_make.specs.declared.spec.MakeSpec.{MakeSpec}
use Rattle.psr_make.proofs.Parts.{begun, grown, whole, stops, header_stops, spectra_of}
use Rattle.psr_make.proofs.blocks.append_file.Goals as goal

pub returns-in-Err-clause-appended : goal.returns-in-Err-clause-appended
returns-in-Err-clause-appended g c = record {
  all = tt;
  front = header_stops c.appends_join.ensures c.args.maker.now.spec (g.F.Files.seen c.args.files.now)
      (g.F.Files.seen c.append_header.new.files) c.in-Err.ensures.appended.front;
}

pub loop-maker-init : goal.loop-maker-init
loop-maker-init g c = record {
  spec = search rules;
  is_open = c.append_header.ensures.still_open;
  appended = begun c.appends_join.ensures c.args.maker.now.spec c.args.maker.now.made
      (g.F.Files.seen c.args.files.now) (g.F.Files.seen c.append_header.new.files) c.requires.nothing
      c.in_default.ensures.appended.all;
}

pub returns-in-Err-append_spectra-clause-appended :
    goal.returns-in-Err-append_spectra-clause-appended
returns-in-Err-append_spectra-clause-appended g c =
    let s = c.args.maker.now.spec in
    let from : ℕ = c.loop-maker.maker.made in
    let to : ℕ = c.append_spectra.new.maker.made in
    let same : c.loop-maker.maker.spec.spectra ≡ s.spectra =
    ap (λ (p : MakeSpec). p.spectra) c.loop-maker.invariant.spec in
    let up : from ≤ to = let h = c.in-Err-append_spectra.ensures.goes_on in omega arith in
    let within : to ≤ s.spectra = let h = c.in-Err-append_spectra.ensures.within in omega arith in
    let front : AppendedFront (spectra_of s from to) (g.F.Files.seen c.loop-maker.files)
    (g.F.Files.seen c.append_spectra.new.files) =
    subst (λ (p : MakeSpec). AppendedFront (spectra_of p from to) (g.F.Files.seen c.loop-maker.files)
    (g.F.Files.seen c.append_spectra.new.files)) c.loop-maker.invariant.spec
    c.in-Err-append_spectra.ensures.appended.front in
    record {
      all = tt;
      front = stops c.appends_join.ensures s from to (g.F.Files.seen c.args.files.now)
          (g.F.Files.seen c.loop-maker.files)
          (g.F.Files.seen c.append_spectra.new.files) up within c.loop-maker.invariant.appended front;
    }

pub loop-maker-preserved : goal.loop-maker-preserved
loop-maker-preserved g c =
    let s = c.args.maker.now.spec in
    let from : ℕ = c.loop-maker.maker.made in
    let to : ℕ = c.append_spectra.new.maker.made in
    let up : from ≤ to = let h = c.in_default-append_spectra.ensures.goes_on in omega arith in
    let all : AppendedAll (spectra_of s from to) (g.F.Files.seen c.loop-maker.files)
    (g.F.Files.seen c.append_spectra.new.files) =
    subst (λ (p : MakeSpec). AppendedAll (spectra_of p from to) (g.F.Files.seen c.loop-maker.files)
    (g.F.Files.seen c.append_spectra.new.files)) c.loop-maker.invariant.spec
    c.in_default-append_spectra.ensures.appended.all in
    record {
      spec = c.append_spectra.ensures.spec ∙ c.loop-maker.invariant.spec;
      is_open = c.append_spectra.ensures.still_open;
      appended = grown c.appends_join.ensures s from to (g.F.Files.seen c.args.files.now)
          (g.F.Files.seen c.loop-maker.files) (g.F.Files.seen c.append_spectra.new.files) up
          c.loop-maker.invariant.appended all;
    }

pub returns-clause-appended : goal.returns-clause-appended
returns-clause-appended g c =
    let s = c.args.maker.now.spec in
    let same : c.loop-maker.maker.spec.spectra ≡ s.spectra =
    ap (λ (p : MakeSpec). p.spectra) c.loop-maker.invariant.spec in
    let done : c.loop-maker.maker.made ≡ s.spectra = omega arith in
    record {
      all = whole c.appends_join.ensures s c.loop-maker.maker.made (g.F.Files.seen c.args.files.now)
          (g.F.Files.seen c.loop-maker.files) done c.loop-maker.invariant.appended;
      front = tt;
    }
