use Rattle.std.proofs.Common.{◌≡◌, ℕ, ◌<◌, List, Option, Some, None, get_or, length, ap, ◌∙◌, arith}
use Rattle.std.specs.Prelude.{slice_get, codes}
use Rattle.std.proofs.lemmas.Option.{slice_get-get_or}
use Rattle.dada_model.specs.Fields.{HeaderText}
use Rattle.disk_feeder.specs.declared.place.First.{First}
use Rattle.disk_feeder.specs.Plan.{Plan, AreAccepted}
use Rattle.disk_feeder.specs.Sources.{plan_of}
use Rattle.disk_feeder.proofs.source.Source.first.Goals as goal

-- what is read at a place within a list
pub read_at : {A : Type 0} (xs : List A) (i : ℕ) (d x : A) → i < length xs → get_or xs i d ≡ x → slice_get xs i ≡ Some x
read_at xs i d x below is = slice_get-get_or xs i d below ∙ ap Some is

-- an accepted header has something there
never_none : (plan : Plan) (t : ℕ) → AreAccepted plan → t < length plan.headers →
    slice_get plan.firsts t ≡ Some None → ⊥
never_none plan t accepted below is =
    let none : HeaderText = record { size = 0; text = codes "" } in
    let a = accepted t (get_or plan.headers t none) (slice_get-get_or plan.headers t none below) in
    differ a.0 (slice_get plan.firsts t) a.1 is
  where
    differ : (x : First) (o : Option (Option First)) → o ≡ Some (Some x) → o ≡ Some None → ⊥
    differ x o e f = cc

pub unreachable-requires : goal.unreachable-requires
unreachable-requires c =
    never_none (plan_of c.args.self.now) c.args.self.now.place.transfer c.requires.accepted (omega arith)
    (read_at c.args.self.now.firsts c.args.self.now.place.transfer _ _ (omega arith) c.in_default.is)

pub returns : goal.returns
returns c =
    read_at c.args.self.now.firsts c.args.self.now.place.transfer _ _ (omega arith) c.in-Some.is
