-- What `strip_suffix` says, in terms of the whole text.
use Rattle.std.proofs.Common.{◌≡◌, ◌≢◌, ℕ, List, ◌++◌, Bor, Option, Some, None}
use Rattle.std.proofs.lemmas.Slice.Eq.{strip_suffix_is}
use Rattle.std.proofs.lemmas.Bool.{eqb-true, eq-eqb}
use Rattle.std.specs.Option.{MatchOption}
use Rattle.std.specs.Prelude.{IfSome, IfNone}
use Rattle.warm_restart.proofs.text.before.Goals as goal

parted : (text end : List ℕ) (r : Option (Bor (List ℕ))) →
    MatchOption r ((rest : List ℕ) → text ≢ rest ++ end) (λ rest. text ≡ rest.now ++ end) →
    IfSome r (λ rest. text ≡ rest.now ++ end) × IfNone r ((rest : List ℕ) → text ≢ rest ++ end)
parted text end (Some rest) h = (h, tt)
parted text end None h = (tt, h)

pub returns : goal.returns
returns c =
    let h = parted c.args.text.now c.args.end.now c.strip_suffix.result
    (strip_suffix_is (λ a b. (
      eqb-true a b,
      eq-eqb a b,
    )) c.args.text.now c.args.end.now c.strip_suffix.result c.strip_suffix.ensures.cases) in
    record { some = h.0; none = h.1 }
