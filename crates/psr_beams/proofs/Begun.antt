-- The headers of beams are read one after another.
use Rattle.std.proofs.Common.{◌≡◌, ◌≢◌, ◌⊎◌, ℕ, zero, suc, ◌+◌, ◌<◌, List, [], ◌∷◌, ◌++◌, length, get_or, set, slice_get, Option, Some, None, Result, Err, refl, sym, ap, subst, ◌∙◌, inr, arith}
use Rattle.std.proofs.lemmas.List.{length-set, get_or-set_same, get_or_default}
use Rattle.psr_base.specs.Inputs.{HasReadFrom}
use Rattle.psr_base.specs.Told.{Told}
use Rattle.dada_header.specs.declared.faults.HeaderFault.TheVariants as header
use Rattle.search_words.specs.Settings.{SettingsSeen}
use Rattle.disk_feeder.specs.declared.answers.FeedFault.{FeedFault}
use Rattle.disk_feeder.specs.declared.answers.FeedFault.TheVariants as fault
use Rattle.disk_feeder.specs.declared.feeder.FeederSpace.{FeederSpace}
use Rattle.disk_feeder.specs.declared.source.Source.{Source}
use Rattle.disk_feeder.specs.Feeder.{HasPlan, SamePlan, IsBegun, FirstHeadersRead, BreaksFirstHeaders, RefusesAt, HasOpenFile, FeederRead, headers_of, names_at}
use Rattle.disk_feeder.specs.Beginning.{AreFirstFiles}
use Rattle.disk_feeder.specs.Filling.{HoldsAll}
use Rattle.disk_feeder.specs.Front.{BreaksAt}
use Rattle.disk_feeder.specs.History.{firsts_read}
use Rattle.disk_feeder.specs.Resting.{at_rest}
use Rattle.disk_feeder.specs.Sources.{first_name, RefusesFirst}
use Rattle.run_outcome.specs.declared.stop.Stop.{Stop}
use Rattle.run_outcome.specs.declared.stop.Stop.TheVariants.{Memory, ReadFault}
use Rattle.run_outcome.specs.Firsts.{HasHeader}
use Rattle.psr_beams.specs.Files.{beam_name, header_read}
use Rattle.psr_beams.specs.Feeders.{LeavesData, HasBegun, SlotBegun, ReadsHeader, SaysText, FailsHeader, AreRead, AreBegun, stop_of_header_at}
use Rattle.psr_beams.proofs.Counting.{retyped}
use Rattle.psr_beams.proofs.Growing.{one_more, longer, kept_at, new_at, others_stand, all_set}
use Rattle.psr_beams.proofs.OneFile.{first_name_is, holds_one, some_of, one_there}

-- ---- the plan of the feeder of one file

pub new_plan : (old new : FeederSpace) (name : List ℕ) (starts : List ℕ) (size most : ℕ) →
    HasPlan (at_rest old) (name ∷ []) starts size most → SamePlan (at_rest old) (at_rest new) →
    HasPlan (at_rest new) (name ∷ []) starts size most
new_plan old new name starts size most plan same = record {
  files = same.names ∙ plan.files;
  transfers = same.starts ∙ plan.transfers;
  limit = same.limit ∙ plan.limit;
  block = same.size ∙ plan.block;
  headers = same.headers ∙ plan.headers;
}

module _ (s : SettingsSeen) (name : List ℕ) (old : FeederSpace) (starts : s.starts ≡ 0 ∷ [])
    (plan : HasPlan (at_rest old) (name ∷ []) s.starts s.size s.max_bytes) where
  abbrev source : Source
  source = old.stream.source

  starts_are : source.starts.now ≡ 0 ∷ []
  starts_are = plan.transfers ∙ starts

  name_is : first_name source 0 ≡ name
  name_is = first_name_is source name starts_are plan.files

  -- ---- the header was read

  -- what is told of the first file of the one transfer
  first_files : (told : Told) (file : List ℕ) → told.bytes_under name ≡ Some file → (count : ℕ) → count ≡ 1 →
      AreFirstFiles told source count (λ k. file)
  first_files told file at count one zero below = ap told.bytes_under name_is ∙ at
  first_files told file at count one (suc k) below = absurd (omega (arith, below, one))

  left : (before after : Told) → FirstHeadersRead before (at_rest old) after → LeavesData before name after
  unfolding firsts_read
  left before after read file at =
      let count : length source.starts.now ≡ 1 = ap length starts_are in
      read (λ k. file) (first_files before file at (length source.starts.now) count)
      ∙ ap (λ n. firsts_read (first_name source) (λ k. file) n before) count
      ∙ ap (λ (x : List ℕ). header_read x file before) name_is

  module _ {I : Type 0} (told : I → Told) (is_open is_calm : I → Type 0) (faults : I → ℕ) (before after : I)
      (new : FeederSpace) where
    pub begun : SamePlan (at_rest old) (at_rest new) → IsBegun (told after) (at_rest new) →
        (HasOpenFile (at_rest new) → is_open after) → FeederRead (told before) (told after) (at_rest new) →
        HasBegun told is_open s name before after new
    begun same is file reads = record {
      plan = new_plan old new name s.starts s.size s.max_bytes plan same;
      begun = is;
      file = file;
      reads = reads;
    }

    text : (told after).bytes_under ≡ (told before).bytes_under → SamePlan (at_rest old) (at_rest new) →
        IsBegun (told after) (at_rest new) → (file : List ℕ) → (told before).bytes_under name ≡ Some file →
        HasHeader file
    text names same is file at =
        let kept = new_plan old new name s.starts s.size s.max_bytes plan same in
        let now : (told after).bytes_under name ≡ Some file =
        subst (λ (under : List ℕ → Option (List ℕ)). under name ≡ Some file) (sym names) at in
        let count = ap length (kept.transfers ∙ starts) in
        let at_first = ap (told after).bytes_under
        (first_name_is new.stream.source name (kept.transfers ∙ starts) kept.files) ∙ now in
        let h = some_of (slice_get (headers_of (at_rest new)) 0)
        (one_there (headers_of (at_rest new)) (kept.headers ∙ ap length starts)) in
        (h.0, is.headers 0 (omega (arith, count)) file at_first h.0 h.1)

    pub reads : (failed : Type 0) → ¬ failed → SamePlan (at_rest old) (at_rest new) →
        IsBegun (told after) (at_rest new) → FirstHeadersRead (told before) (at_rest old) (told after) →
        HasReadFrom told is_calm faults failed before after →
        ReadsHeader told is_calm faults name before after
    reads failed not same is firsts read = record {
      read = retyped told is_calm faults failed ⊥ before after not (λ e. absurd e) read;
      left = left (told before) (told after) firsts;
      text = text read.names same is;
    }

  -- ---- it was not

  refused : (told : Told) (f : FeedFault) → RefusesAt told (at_rest old) f → (file : List ℕ) →
      told.bytes_under name ≡ Some file → (number : ℕ) × RefusesFirst file number f
  refused told f r file at =
      let there = r.there in
      let count = ap length starts_are in
      let zeroth : r.transfer ≡ 0 = omega (arith, there, count) in
      let at_first : told.bytes_under (first_name source r.transfer) ≡ Some file =
      ap (λ k. told.bytes_under (first_name source k)) zeroth ∙ ap told.bytes_under name_is ∙ at in
      (_, r.refuses file at_first)

  says : (told : Told) (beam : ℕ) (f : FeedFault) → RefusesAt told (at_rest old) f →
      SaysText told name beam (stop_of_header_at beam f)
  says told beam fault.ReadFault r = tt
  says told beam (fault.BadHeader k header.Memory) r = tt
  says told beam (fault.BadHeader k (header.Short had)) r =
      (refl, λ file at. (refused told (fault.BadHeader k (header.Short had)) r file at).1.1)
  says told beam (fault.BadHeader k (header.NotText place)) r =
      (refl, λ file at. (refused told (fault.BadHeader k (header.NotText place)) r file at).1.1)
  says told beam (fault.BadHeader k header.BadSize) r =
      (refl, λ file at. (refused told (fault.BadHeader k header.BadSize) r file at).1.1)

  unread : (before after : Told) (beam : ℕ) (f : FeedFault) → RefusesAt before (at_rest old) f →
      stop_of_header_at beam f ≡ Memory → (after ≡ before) ⊎ LeavesData before name after
  unread before after beam (fault.BadHeader k header.Memory) r is =
      inr (λ file at. absurd (refused before (fault.BadHeader k header.Memory) r file at).1.1)
  unread before after beam f r is = absurd cc

  -- a fault came before the header was judged
  breaks : (before : Told) (is_calm : Type 0) (after : Told) → BreaksFirstHeaders before is_calm (at_rest old) after →
      (file : List ℕ) → before.bytes_under name ≡ Some file → BreaksAt name file before after
  unfolding firsts_read
  breaks before is_calm after b file at =
      let there = b.there in
      let count : length source.starts.now ≡ 1 = ap length starts_are in
      let zeroth : b.transfer ≡ 0 = omega (arith, there, count) in
      let P : ℕ → Type 0 = λ t. BreaksAt (first_name source t) file
      (firsts_read (first_name source) (λ k. file) t before) after in
      subst (λ (x : List ℕ). BreaksAt x file before after) name_is (subst P zeroth
      (b.broke (λ k. file) (first_files before file at (b.transfer + 1) (ap (λ n. n + 1) zeroth))))

  -- a stop says that the inputs failed exactly where they did
  abbrev bad : FeedFault → Result (Unit {0}) FeedFault
  bad f = Err f

  fails_there : (beam : ℕ) (f : FeedFault) → bad f ≡ bad fault.ReadFault → stop_of_header_at beam f ≡ ReadFault
  fails_there beam fault.ReadFault e = refl
  fails_there beam (fault.BadHeader k cause) e = absurd cc

  fails_back : (beam : ℕ) (f : FeedFault) → stop_of_header_at beam f ≡ ReadFault → bad f ≡ bad fault.ReadFault
  fails_back beam fault.ReadFault e = refl
  fails_back beam (fault.BadHeader k header.Memory) e = absurd cc
  fails_back beam (fault.BadHeader k (header.Short had)) e = absurd cc
  fails_back beam (fault.BadHeader k (header.NotText place)) e = absurd cc
  fails_back beam (fault.BadHeader k header.BadSize) e = absurd cc

  pub fails : {I : Type 0} (told : I → Told) (is_calm : I → Type 0) (faults : I → ℕ) (beam : ℕ) (before after : I)
      (f : FeedFault) (stop : Stop) → RefusesAt (told before) (at_rest old) f →
      (bad f ≡ bad fault.ReadFault → BreaksFirstHeaders (told before) (is_calm before) (at_rest old) (told after)) →
      HasReadFrom told is_calm faults (bad f ≡ bad fault.ReadFault) before after →
      (is_calm before → HoldsAll (told before) (names_at (at_rest old)) → bad f ≢ bad fault.ReadFault) →
      stop ≡ stop_of_header_at beam f → FailsHeader told is_calm faults name beam before after stop
  fails told is_calm faults beam before after f stop r broke read serves is =
      rw is (record {
        read = retyped told is_calm faults (bad f ≡ bad fault.ReadFault) (stop_of_header_at beam f ≡ ReadFault) before
            after (fails_there beam f) (fails_back beam f) read;
        serves = λ calm there e. serves calm (rw plan.files (holds_one name (told before) there)) (fails_back beam f e);
        says = says (told before) beam f r;
        unread = unread (told before) (told after) beam f r;
        broke = λ e. breaks (told before) (is_calm before) (told after) (broke (fails_back beam f e));
      })

-- ---- one beam after another

module _ {I : Type 0} (told : I → Told) (is_open is_calm : I → Type 0) (faults : I → ℕ) (s : SettingsSeen) where
  pub read_more : (n : ℕ) (before mid : List I) (old new : I) → AreRead told is_calm faults s n before mid →
      n < length mid → ReadsHeader told is_calm faults (beam_name s n) (get_or mid n old) new →
      AreRead told is_calm faults s (n + 1) before (set mid n new)
  read_more n before mid old new all within read = record {
    lent = length-set mid n new ∙ all.lent;
    each = λ k x below. all_set mid new n within
        (λ j. ReadsHeader told is_calm faults (beam_name s j) (get_or before j x)) x (λ j less. all.each j x less)
        (rw (get_or_default mid n old x within ∙ all.others n x (omega arith)) at read) k below;
    others = λ k x over. others_stand mid new n within k x (λ e. omega (arith, e, over))
        ∙ all.others k x (omega (arith, over));
  }

  pub begun_more : (n : ℕ) (before mid : List I) (old new : I) (slots more : List (Option FeederSpace))
      (space : FeederSpace) → AreRead told is_calm faults s n before mid → AreBegun told is_open s n before mid slots →
      n < length mid → HasBegun told is_open s (beam_name s n) (get_or mid n old) new space →
      more ≡ slots ++ Some space ∷ [] → AreBegun told is_open s (n + 1) before (set mid n new) more
  begun_more n before mid old new slots more space read all within is grown = record {
    many = longer slots more (Some space) n all.many grown;
    each = λ k x below. one_more (λ j. SlotBegun told is_open s (beam_name s j) (get_or before j x)
        (get_or (set mid n new) j x) (get_or more j None)) n
        (λ j less.
        rw (
          others_stand mid new n within j x (λ e. omega (arith, e, less)),
          kept_at slots more (Some space) n all.many grown None j less,
        ) (all.each j x less))
        (rw (
          new_at slots more (Some space) n all.many grown None,
          get_or-set_same mid n new x within,
          sym (get_or_default mid n old x within ∙ read.others n x (omega arith)),
        ) is) k below;
  }
