-- What `strip_prefix` says, in terms of the whole text.
use Rattle.std.proofs.Common.{◌≡◌, ◌≢◌, ℕ, List, ◌++◌, Bor, Option, Some, None}
use Rattle.std.proofs.lemmas.Slice.Eq.{strip_prefix_is}
use Rattle.std.proofs.lemmas.Bool.{eqb-true, eq-eqb}
use Rattle.std.specs.Option.{MatchOption}
use Rattle.std.specs.Prelude.{IfSome, IfNone}
use Rattle.warm_restart.proofs.text.after.Goals as goal

parted : (text front : List ℕ) (r : Option (Bor (List ℕ))) →
    MatchOption r ((rest : List ℕ) → text ≢ front ++ rest) (λ rest. text ≡ front ++ rest.now) →
    IfSome r (λ rest. text ≡ front ++ rest.now) × IfNone r ((rest : List ℕ) → text ≢ front ++ rest)
parted text front (Some rest) h = (h, tt)
parted text front None h = (tt, h)

pub returns : goal.returns
returns c =
    let h = parted c.args.text.now c.args.front.now c.strip_prefix.result
    (strip_prefix_is (λ a b. (
      eqb-true a b,
      eq-eqb a b,
    )) c.args.text.now c.args.front.now c.strip_prefix.result c.strip_prefix.ensures.cases) in
    record { some = h.0; none = h.1 }
