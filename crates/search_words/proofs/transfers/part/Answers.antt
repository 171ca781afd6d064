use Rattle.std.proofs.Common.{ℕ, ◌≡◌, ◌++◌, ◌∷◌, [], List, ap, ap₂, sym, ◌∙◌, map, length, string_bytes, vec_len, Vec, String, Global, rules}
use Rattle.std.proofs.lemmas.List.{map-append, length-map}
use Rattle.clap.specs.Walk.{texts}
use Rattle.search_words.specs.Transfers.{transfers_in, file_names}
use Rattle.search_words.proofs.Parted.{starts_begin, later_starts, parts_at_plus, parts_at_name}
use Rattle.search_words.proofs.transfers.part.Goals.{then-is_plus+in_ok-push-2, else-is_plus+in_ok-from_str+in_ok-push-3}
use Rattle.search_words.proofs.transfers.part.Goals as goal

pub loop-word-init : goal.loop-word-init
loop-word-init c =
    let ws = texts c.args.files.now in
    record {
      all_names = ap (λ names. map string_bytes names ++ file_names ws) c.new-names.ensures.items;
      all_starts = ap₂ (λ (starts : List ℕ) (n : ℕ). starts ++ later_starts n (transfers_in ws))
          (c.in_ok-push.ensures.items ∙ ap (λ (xs : List ℕ). xs ++ 0 ∷ []) c.new-starts.ensures.items)
          (ap (λ names. length (map string_bytes names)) c.new-names.ensures.items) ∙ sym (starts_begin 0 ws);
    }

pub loop-word-preserved : goal.loop-word-preserved
loop-word-preserved c =
    let files = c.args.files.now in
    let i = c.loop-word.word-index in
    let here = c.loop-word.invariant in
    let names = map string_bytes c.loop-word.names.items in
    let starts = c.loop-word.starts.items in
    elim c.if-is_plus.branch [
      | then-is_plus+in_ok-push-2 w ↦
          let len : vec_len c.loop-word.names ≡ length c.loop-word.names.items = search rules in
          let count : w.len.result ≡ length (map string_bytes c.loop-word.names.items) =
          w.len.ensures ∙ len ∙ sym (length-map c.loop-word.names.items string_bytes) in
          let grown : c.if-is_plus.starts.items ≡ c.loop-word.starts.items ++ w.len.result ∷ [] =
          ap (λ (v : Vec ℕ Global). v.items) w.starts-is ∙ w.in_ok-push-2.ensures.items in
          rw w.names-is (parts_at_plus files i w.len.result _ names starts c.if-is_plus.starts.items
          c.loop-word-test.true (sym c.is_plus.ensures ∙ w.if-is_plus.true) count grown here)
      | else-is_plus+in_ok-from_str+in_ok-push-3 w ↦
          let grown = ap (λ (v : Vec (String Global) Global). map string_bytes v.items) w.names-is
          ∙ ap (map string_bytes) w.in_ok-push-3.ensures.items
          ∙ map-append string_bytes c.loop-word.names.items (w.in_ok-from_str.field-0 ∷ [])
          ∙ ap (λ (t : List ℕ). map string_bytes c.loop-word.names.items ++ t ∷ []) w.in_ok-from_str.ensures.ok in
          rw w.starts-is (parts_at_name files i _ names (map string_bytes c.if-is_plus.names.items) starts
          c.loop-word-test.true (sym c.is_plus.ensures ∙ w.if-is_plus.false) grown here)
    ]
