use Rattle.std.proofs.Common.{◌≡◌, Some, refl, map, ap, ◌∙◌, string_bytes}
use Rattle.psr_demo.specs.Searching.{search_line}
use Rattle.psr_demo.proofs.Found.{found, room_of}
use Rattle.psr_demo.proofs.finding.find.Goals as goal

pub returns-clause-found : goal.returns-clause-found
returns-clause-found g c =
    let words : map string_bytes c.as_slice.result.now ≡ search_line =
    ap (map string_bytes) c.as_slice.ensures.value ∙ c.in_ok-words.ensures in
    found c.headers_by_front.ensures c.first_files_continue.ensures c.whole_exactly.ensures
    c.candidates_are_listed.ensures c.samples_of_bytes.ensures c.sums_are_bounded.ensures c.edges_fall.ensures
    c.args.number _ tt (c.accepted_goes_on.ensures c.in_ok-inputs.inputs) _ _ _ _ _ _ _ _
    (map string_bytes c.as_slice.result.now) words c.run-ran.ensures.outcome c.in_ok-inputs.ensures
    (room_of c.in_ok-text.text c.in_ok-text.ensures.calls c.in_ok-text.ensures.room)
    _ (ap Some c.in_ok-text.ensures.empty) refl
