-- Bytes that are taken in steps.
use Rattle.std.proofs.Common.{◌≡◌, ℕ, ◌+◌, ◌-◌, ◌≤◌, ◌<◌, ◌++◌, List, length, take, drop, sym, ◌∙◌, ap, subst, arith, append_assoc, length-drop}
use Rattle.std.specs.Prelude.{All}
use Rattle.std.proofs.lemmas.List.{take_all, take-append-drop}
use Rattle.std.proofs.lemmas.List.Elements.{All-append, All-drop, All-take}
use Rattle.std.proofs.Math.Seq.{take-add}
use Rattle.dada_model.specs.Observation.{Observation}
use Rattle.psr_base.specs.Written.{SinkSeen, WroteAll, WroteFront}
use Rattle.live_search.specs.Live.{BrokeOff, Task, WasFed, WroteOn, so_far}
use Rattle.live_search.specs.declared.live.LiveSearch.{LiveSearch}

-- the rest after d bytes
pub rest_is : (d : ℕ) (xs : List ℕ) → take (length xs - d) (drop d xs) ≡ drop d xs
rest_is d xs = take_all (length xs - d) (drop d xs) (let long = length-drop d xs in omega arith)

-- the next n bytes
next_bytes : (d n : ℕ) (start xs slice : List ℕ) → slice ≡ drop d xs →
    (start ++ take d xs) ++ take n slice ≡ start ++ take (d + n) xs
next_bytes d n start xs slice is =
    append_assoc start (take d xs) (take n slice)
    ∙ ap (λ rest. start ++ (take d xs ++ take n rest)) is
    ∙ ap (λ ys. start ++ ys) (sym (take-add d n xs))

-- all of them
all_bytes : (d : ℕ) (start xs slice : List ℕ) → slice ≡ drop d xs → (start ++ take d xs) ++ slice ≡ start ++ xs
all_bytes d start xs slice is =
    append_assoc start (take d xs) slice ∙ ap (λ rest. start ++ (take d xs ++ rest)) is
    ∙ ap (λ ys. start ++ ys) (take-append-drop d xs)

module _ (o : Observation) (t : Task) (before xs slice : List ℕ) (d : ℕ) (is : slice ≡ drop d xs)
    (numbers : All (λ byte. byte < 256) xs) (old middle new : SinkSeen) where
  abbrev first : List ℕ
  first = before ++ take d xs

  rest_numbers : All (λ byte. byte < 256) slice
  rest_numbers = subst (All (λ byte. byte < 256)) (sym is) (All-drop (λ byte. byte < 256) d xs numbers)

  pub more_stands : (n : ℕ) (w : LiveSearch) → WasFed o t (first ++ take n slice) w →
      WasFed o t (before ++ take (d + n) xs) w
  more_stands n w was = subst (λ ys. WasFed o t ys w) (next_bytes d n before xs slice is) was

  pub more_wrote : (n : ℕ) → WroteOn o t before (take d xs) old middle →
      WroteOn o t first (take n slice) middle new → WroteOn o t before (take (d + n) xs) old new
  more_wrote n one two = λ more start all wrote.
      let piece : List ℕ = take n slice in
      let part = All-take (λ byte. byte < 256) n slice rest_numbers in
      let next = next_bytes d n before xs slice is in
      let turned : first ++ (piece ++ more) ≡ before ++ take (d + n) xs ++ more =
      sym (append_assoc first piece more) ∙ ap (λ ys. ys ++ more) next in
      let begun = one (piece ++ more) start (All-append (λ byte. byte < 256) piece more part all)
      (subst (λ ys. WroteAll (so_far o t ys before) start old) (sym turned) wrote) in
      let on = two more start all
      (subst (λ ys. WroteAll (so_far o t ys first) start middle) (sym (append_assoc first piece more)) begun) in
      subst (λ ys. WroteAll (so_far o t ys (before ++ take (d + n) xs)) start new) (ap (λ ys. ys ++ more) next)
      (subst (λ ys. WroteAll (so_far o t (first ++ piece ++ more) ys) start new) next on)

  pub more_broke : d ≤ length xs → WroteOn o t before (take d xs) old middle → BrokeOff o t first slice middle new →
      BrokeOff o t before xs old new
  more_broke most one two = λ more start all wrote.
      let whole = all_bytes d before xs slice is in
      let turned : first ++ (slice ++ more) ≡ before ++ xs ++ more =
      sym (append_assoc first slice more) ∙ ap (λ ys. ys ++ more) whole in
      let begun = one (slice ++ more) start (All-append (λ byte. byte < 256) slice more rest_numbers all)
      (subst (λ ys. WroteAll (so_far o t ys before) start old) (sym turned) wrote) in
      let off = two more start all
      (subst (λ ys. WroteAll (so_far o t ys first) start middle) (sym (append_assoc first slice more)) begun) in
      let long = ap (λ (ys : List ℕ). length ys) is ∙ length-drop d xs in
      let few = off.1 in (
        d + off.0,
        omega (arith, long, few, most),
        subst (λ ys. WroteFront (so_far o t ys (before ++ take (d + off.0) xs)) start new)
            (ap (λ ys. ys ++ more) whole)
            (subst (λ ys. WroteFront (so_far o t (first ++ slice ++ more) ys) start new)
            (next_bytes d off.0 before xs slice is) off.2),
      )
