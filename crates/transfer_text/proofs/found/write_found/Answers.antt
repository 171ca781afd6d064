use Rattle.std.proofs.Common.{◌≤◌, map, refl, sym, ◌∙◌, arith}
use Rattle.transfer_text.specs.Searched.{found_in, candidate_total}
use Rattle.transfer_text.proofs.Transfers.{total_is, can_be_written, are_merged}
use Rattle.transfer_text.proofs.found.write_found.Goals as goal

pub count_all-count-requires : goal.count_all-count-requires
count_all-count-requires g c =
    let books = map (λ shards. shards.items) c.args.books.now in
    let total = total_is c.candidates_are_listed.ensures c.candidates_rise.ensures c.shards_merge.ensures
    c.args.search.now c.requires.range c.requires.found.0 c.args.observations.now books c.args.spectra.now
    c.requires.found.1 in
    omega (arith, total, c.requires.found.2)

pub returns-then-count-from : goal.returns-then-count-from
returns-then-count-from g c = λ transfers holds.
    let books = map (λ shards. shards.items) c.args.books.now in
    let total = total_is c.candidates_are_listed.ensures c.candidates_rise.ensures c.shards_merge.ensures
    c.args.search.now c.requires.range transfers c.args.observations.now books c.args.spectra.now holds in (
      sym (c.count_all-count.ensures ∙ total),
      refl,
      omega (arith, c.from.ensures, c.if-count-from.true),
      refl,
    )

pub write_texts-requires-clause-written : goal.write_texts-requires-clause-written
write_texts-requires-clause-written g c =
    let books = map (λ shards. shards.items) c.args.books.now in
    let transfers = c.requires.found.0 in
    let holds = c.requires.found.1 in
    let total = total_is c.candidates_are_listed.ensures c.candidates_rise.ensures c.shards_merge.ensures
    c.args.search.now c.requires.range transfers c.args.observations.now books c.args.spectra.now holds in
    let few : candidate_total c.args.search.now transfers ≤ c.args.search.now.max_candidates =
    omega (arith, total, c.count_all-count.ensures, c.from.ensures, c.if-count-from.false) in
    can_be_written c.candidates_are_listed.ensures c.candidates_rise.ensures c.shards_merge.ensures
    c.args.search.now c.requires.range transfers c.args.observations.now books c.args.spectra.now holds few

pub returns-in-Ok : goal.returns-in-Ok
returns-in-Ok g c = λ transfers holds.
    let books = map (λ shards. shards.items) c.args.books.now in
    let total = total_is c.candidates_are_listed.ensures c.candidates_rise.ensures c.shards_merge.ensures
    c.args.search.now c.requires.range transfers c.args.observations.now books c.args.spectra.now holds in
    let few : candidate_total c.args.search.now transfers ≤ c.args.search.now.max_candidates =
    omega (arith, total, c.count_all-count.ensures, c.from.ensures, c.if-count-from.false) in
    let merged = are_merged c.candidates_are_listed.ensures c.candidates_rise.ensures c.shards_merge.ensures
    c.args.search.now c.requires.range transfers c.args.observations.now books c.args.spectra.now holds few in
    (few, (c.in-Ok.ensures (map (found_in c.args.search.now) transfers) merged).all)

pub returns-in-Err : goal.returns-in-Err
returns-in-Err g c = λ transfers holds.
    let books = map (λ shards. shards.items) c.args.books.now in
    let total = total_is c.candidates_are_listed.ensures c.candidates_rise.ensures c.shards_merge.ensures
    c.args.search.now c.requires.range transfers c.args.observations.now books c.args.spectra.now holds in
    let few : candidate_total c.args.search.now transfers ≤ c.args.search.now.max_candidates =
    omega (arith, total, c.count_all-count.ensures, c.from.ensures, c.if-count-from.false) in
    let merged = are_merged c.candidates_are_listed.ensures c.candidates_rise.ensures c.shards_merge.ensures
    c.args.search.now c.requires.range transfers c.args.observations.now books c.args.spectra.now holds few in
    (few, (c.in-Err.ensures (map (found_in c.args.search.now) transfers) merged).front)
