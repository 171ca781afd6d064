-- The ways to end.
use Rattle.std.proofs.Common.{◌≡◌, ◌≢◌, ℕ, zero, suc, List, [], ◌∷◌, inr, Contains, refl, sym, ap, subst, ◌∙◌, arith, lit<}
use Rattle.std.specs.Str.Parse.{digits_value}
use Rattle.psr_base.specs.Written.{SinkSeen, WroteAll, WroteFront}
use Rattle.psr_demo.specs.Words.{AskFor}
use Rattle.psr_demo.specs.Demo.{EndsAt, TellsEnd, summary}
use Rattle.psr_demo.specs.Outcome.{ForAsked, IsSummed, IsBrokenOff, Outcome}

-- words ask for one number
one_text : (a b c d : List ℕ) → a ∷ b ∷ [] ≡ c ∷ d ∷ [] → b ≡ d
one_text a b c d e = cc

one_number : (words : List (List ℕ)) (a b : ℕ) → AskFor words a → AskFor words b → a ≡ b
one_number words a b x y =
    let same = one_text x.name x.text y.name y.text (sym x.are ∙ y.are) in
    x.reads.value ∙ ap (digits_value 10) same ∙ sym y.reads.value

for_asked : (words : List (List ℕ)) (P : ℕ → Type 0) (number : ℕ) → AskFor words number → P number → ForAsked words P
for_asked words P number asks holds other asks_too = subst P (one_number words number other asks asks_too) holds

-- at the words
pub at_words : (words : List (List ℕ)) (out notes : SinkSeen) → ((number : ℕ) → ¬ AskFor words number) →
    Outcome words out out notes notes 2
at_words words out notes refused = record {
  known = (1, lit< tt, refl);
  refused = λ e. refused;
  asked = λ other. absurd (other refl);
  untouched = λ e. (refl, refl);
  found = λ e. absurd (omega (arith, e));
  too_many = λ e. absurd (omega (arith, e));
  no_memory = λ e. absurd (omega (arith, e));
  broken_off = λ e. absurd (omega (arith, e));
  failed = λ e. absurd (omega (arith, e));
  quiet = λ other. refl;
}

-- where the output failed
pub at_fault : (words : List (List ℕ)) (number status : ℕ) (out_before out_after notes_before notes_after : SinkSeen) →
    AskFor words number → EndsAt number status → WroteFront (summary number status) out_before out_after →
    TellsEnd number status notes_before notes_after →
    Outcome words out_before out_after notes_before notes_after 10
at_fault words number status out_before out_after notes_before notes_after asks ends front told = record {
  known = (4, lit< tt, refl);
  refused = λ e. absurd (omega (arith, e));
  asked = λ other. (number, asks);
  untouched = λ e. absurd (omega (arith, e));
  found = λ e. absurd (omega (arith, e));
  too_many = λ e. absurd (omega (arith, e));
  no_memory = λ e. absurd (omega (arith, e));
  broken_off = λ e. for_asked words (λ n. IsBrokenOff n out_before out_after notes_before notes_after) number asks
      (record { status = status; ends = ends; front = front; told = told });
  failed = λ e. front.rose;
  quiet = λ other. absurd (other refl);
}

-- where the summary is written
module _ (words : List (List ℕ)) (number : ℕ) (out_before out_after notes_before notes_after : SinkSeen)
    (asks : AskFor words number) where
  summed_for : (status n : ℕ) → status ≡ n → EndsAt number status →
      WroteAll (summary number status) out_before out_after → TellsEnd number status notes_before notes_after →
      ForAsked words (λ k. IsSummed k n out_before out_after notes_before notes_after)
  summed_for status n is ends wrote told =
      for_asked words (λ k. IsSummed k n out_before out_after notes_before notes_after) number asks
      (subst (λ m. IsSummed number m out_before out_after notes_before notes_after) is
      (record { ends = ends; written = wrote; told = told }))

  known_of : (status : ℕ) → Contains (0 ∷ 5 ∷ 9 ∷ []) status → Contains (0 ∷ 2 ∷ 5 ∷ 9 ∷ 10 ∷ []) status
  known_of status (zero, below, is) = (0, lit< tt, is)
  known_of status (suc zero, below, is) = (2, lit< tt, is)
  known_of status (suc (suc zero), below, is) = (3, lit< tt, is)
  known_of status (suc (suc (suc k)), below, is) = absurd (omega (arith, below))

  not_in : (status : ℕ) → Contains (0 ∷ 5 ∷ 9 ∷ []) status → (status ≢ 2) × (status ≢ 10)
  not_in status (zero, below, is) = (λ e. omega (arith, is, e), λ e. omega (arith, is, e))
  not_in status (suc zero, below, is) = (λ e. omega (arith, is, e), λ e. omega (arith, is, e))
  not_in status (suc (suc zero), below, is) = (λ e. omega (arith, is, e), λ e. omega (arith, is, e))
  not_in status (suc (suc (suc k)), below, is) = absurd (omega (arith, below))

  pub at_summary : (status : ℕ) → EndsAt number status → WroteAll (summary number status) out_before out_after →
      TellsEnd number status notes_before notes_after →
      Outcome words out_before out_after notes_before notes_after status
  at_summary status ends wrote told = record {
    known = known_of status ends.known;
    refused = λ e. absurd ((not_in status ends.known).0 e);
    asked = λ other. (number, asks);
    untouched = λ e. absurd ((not_in status ends.known).0 e);
    found = λ e. summed_for status 0 e ends wrote told;
    too_many = λ e. summed_for status 9 e ends wrote told;
    no_memory = λ e. inr (summed_for status 5 e ends wrote told);
    broken_off = λ e. absurd ((not_in status ends.known).1 e);
    failed = λ e. absurd ((not_in status ends.known).1 e);
    quiet = λ other. wrote.faults;
  }
