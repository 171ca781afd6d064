use Rattle.std.proofs.Common.{◌≡◌, ℕ, suc, ◌+◌, ◌<◌, List, [], Option, Some, length, get_or, map, refl, sym, ap, ◌∙◌, inl, inr, arith}
use Rattle.std.specs.Prelude.{IsSome, slice_get, slice_index_or, string_bytes}
use Rattle.std.proofs.lemmas.Bool.{cases_eq}
use Rattle.std.proofs.lemmas.Option.{slice_get-get_or}
use Rattle.dada_model.specs.Fields.{HeaderText}
use mathlib.Core.List.{IsPrefix}
use Rattle.psr_base.specs.Told.{Told, history, opened, moved_by}
use Rattle.disk_feeder.specs.declared.source.Source.{Source}
use Rattle.disk_feeder.specs.Plan.{begin_at}
use Rattle.disk_feeder.specs.Sources.{first_name, KeepsHeaders}
use Rattle.disk_feeder.specs.Front.{front_of, BreaksAt}
use Rattle.disk_feeder.specs.History.{firsts_read}
use Rattle.disk_feeder.specs.Beginning.{KeepsSource, FirstsRead}
use Rattle.disk_feeder.proofs.Behind.{prefix_is, prefix_past}
use Rattle.disk_feeder.proofs.source.Source.read_headers.Goals as goal

keeps : (a b c : Source) (k : ℕ) → KeepsSource a b → KeepsHeaders b k c → KeepsSource a c
keeps a b c k f h = record {
  names = h.names ∙ f.names;
  starts = h.starts ∙ f.starts;
  limit = h.limit ∙ f.limit;
  firsts = h.firsts ∙ f.firsts;
  place = h.place ∙ f.place;
}

pub name_same : (old new : Source) (k : ℕ) → KeepsSource old new → first_name new k ≡ first_name old k
name_same old new k kept =
    ap (λ n. slice_index_or (map string_bytes n.now) (begin_at new.starts.now (length n.now) k) []) kept.names
    ∙ ap (λ s. slice_index_or (map string_bytes old.names.now) (begin_at s.now (length old.names.now) k) []) kept.starts

-- what is told under the name of a first file, in the words of a later state
told_still : (old now : Source) (told told' : Told) (k j : ℕ) (file : List ℕ) → KeepsSource old now →
    told'.bytes_under ≡ told.bytes_under → k ≡ j → told.bytes_under (first_name old k) ≡ Some file →
    told'.bytes_under (first_name now j) ≡ Some file
told_still old now told told' k j file kept names same known =
    ap (λ (f : List ℕ → Option (List ℕ)). f (first_name now j)) names
    ∙ ap told.bytes_under (name_same old now j kept)
    ∙ ap (λ (i : ℕ). told.bytes_under (first_name old i)) (sym same)
    ∙ known

-- whether something is
some_still : (old now : Source) (told told' : Told) (k : ℕ) → KeepsSource old now →
    told'.bytes_under ≡ told.bytes_under → IsSome (told.bytes_under (first_name old k)) →
    IsSome (told'.bytes_under (first_name now k))
some_still old now told told' k kept names some =
    rw (names, name_same old now k kept) some

-- no first header was read yet
none_read : (name_of file_of : ℕ → List ℕ) (told : Told) → told ≡ firsts_read name_of file_of 0 told
unfolding firsts_read
none_read name_of file_of told = refl

-- where it is what is told, it is all that was read
all_through : (name_of file_of : ℕ → List ℕ) (k count : ℕ) (old new : Told) → k ≡ count →
    new ≡ firsts_read name_of file_of count old →
    IsPrefix (history (firsts_read name_of file_of k old)) (history new)
all_through name_of file_of k count old new same read =
    prefix_is (history (firsts_read name_of file_of k old)) (history new)
    (ap history (ap (λ (n : ℕ). firsts_read name_of file_of n old) same ∙ sym read))

pub loop-transfer-init : goal.loop-transfer-init
loop-transfer-init g c =
    let told = g.I.Inputs.told c.args.inputs.now in
    record {
      kept = record { names = refl; starts = refl; limit = refl; firsts = refl; place = refl };
      headers = λ k below. absurd (omega arith);
      left = λ k last. absurd (omega arith);
      read = λ file_of are. none_read (first_name c.args.self.now) file_of told;
      through = λ k upto file_of are.
          all_through (first_name c.args.self.now) file_of k 0 told told (omega arith)
          (none_read (first_name c.args.self.now) file_of told);
      is_open = λ some. absurd (omega arith);
      names = refl;
      quiet = refl;
      count = omega arith;
      calm = λ calm. calm;
    }

-- one first header more was read
one_more : (name_of file_of : ℕ → List ℕ) (t : ℕ) (old mid new : Told) (name : List ℕ) →
    mid ≡ firsts_read name_of file_of t old → name ≡ name_of t →
    new ≡ moved_by (front_of (file_of t)) (opened name mid) → new ≡ firsts_read name_of file_of (t + 1) old
unfolding firsts_read
one_more name_of file_of t old mid new name so_far named read =
    let next : suc t ≡ t + 1 = omega arith in
    read ∙ ap (λ (n : List ℕ). moved_by (front_of (file_of t)) (opened n mid)) named
    ∙ ap (λ (m : Told). moved_by (front_of (file_of t)) (opened (name_of t) m)) so_far
    ∙ ap (λ (n : ℕ). firsts_read name_of file_of n old) next

-- a fault came at the next
breaks_next : (name_of file_of : ℕ → List ℕ) (t : ℕ) (old mid new : Told) (name : List ℕ) →
    mid ≡ firsts_read name_of file_of t old → name ≡ name_of t → BreaksAt name (file_of t) mid new →
    BreaksAt (name_of t) (file_of t) (firsts_read name_of file_of t old) new
breaks_next name_of file_of t old mid new name so_far named breaks =
    rw (← so_far, ← named) breaks

pub loop-transfer-preserved : goal.loop-transfer-preserved
loop-transfer-preserved g c =
    let i = g.I.Inputs in
    let before = c.loop-transfer.invariant in
    let old = c.args.self.now in
    let now = c.loop-transfer.self in
    let new = c.read_first.new.self in
    let t = c.loop-transfer.transfer in
    let told = i.told c.args.inputs.now in
    let told' = i.told c.loop-transfer.inputs in
    let read : FirstsRead told old (t + 1) (i.told c.read_first.new.inputs) = λ file_of are.
    one_more (first_name old) file_of t told told' (i.told c.read_first.new.inputs) (first_name now t)
    (before.read file_of (λ k below. are k (omega arith)))
    (name_same old now t before.kept)
    (c.in-Ok.ensures.read.known (file_of t)
    (told_still old now told told' t t (file_of t) before.kept before.names refl (are t (omega arith)))) in
    record {
      kept = keeps old now new t before.kept c.read_first.ensures.kept;
      headers = λ k below file known header at. elim (cases_eq k t) [
        | inl same ↦
            c.in-Ok.ensures.header file (told_still old now told told' k t file before.kept before.names same known)
            header
            (ap (slice_get new.headers.items) (sym same) ∙ at)
        | inr other ↦
            before.headers k (omega arith) file known header (sym (c.read_first.ensures.kept.others k other) ∙ at)
      ];
      left = λ k last file known.
          c.in-Ok.ensures.left file (told_still old now told told' k t file before.kept before.names (omega arith)
          known);
      read = read;
      through = λ k upto file_of are. elim (cases_eq k (t + 1)) [
        | inl same ↦
            all_through (first_name old) file_of k (t + 1) told (i.told c.read_first.new.inputs) same
            (read file_of (λ j below. are j (omega arith)))
        | inr other ↦
            prefix_past (history (firsts_read (first_name old) file_of k told)) told' (i.told c.read_first.new.inputs)
            (inr c.in-Ok.ensures.read.earlier) (before.through k (omega arith) file_of are)
      ];
      is_open = λ some. c.in-Ok.ensures.is_open;
      names = c.read_first.ensures.inputs.names ∙ before.names;
      quiet = c.in-Ok.ensures.inputs.quiet (λ e. absurd cc) ∙ before.quiet;
      count = omega (arith, before.count, c.read_first.ensures.inputs.count);
      calm = λ calm. c.read_first.ensures.inputs.calm (before.calm calm);
    }

pub returns-in-Err-clause-refused : goal.returns-in-Err-clause-refused
returns-in-Err-clause-refused g c =
    let i = g.I.Inputs in
    let before = c.loop-transfer.invariant in
    let old = c.args.self.now in
    let now = c.loop-transfer.self in
    let t = c.loop-transfer.transfer in
    let told = i.told c.args.inputs.now in
    let told' = i.told c.loop-transfer.inputs in
    let starts : length now.starts.now ≡ length old.starts.now = ap (λ s. length s.now) before.kept.starts in
    let headed : length now.headers.items ≡ length now.starts.now = now.headed in
    let below : t < length old.starts.now = omega arith in
    let same_number : begin_at now.starts.now (length now.names.now) t
    ≡ begin_at old.starts.now (length old.names.now) t =
    ap (λ s. begin_at s.now (length now.names.now) t) before.kept.starts
    ∙ ap (λ n. begin_at old.starts.now (length n.now) t) before.kept.names in
    record {
      transfer = t;
      there = below;
      names = rw (← same_number) c.in-Err.ensures.refused.0;
      refuses = λ file known.
          rw (← same_number)
          (c.in-Err.ensures.refused.1 file
          (told_still old now told told' t t file before.kept before.names refl known));
      earlier = λ k less file known.
          let none : HeaderText = record { size = 0; text = [] } in
          let header = get_or now.headers.items k none in (
            header,
            before.headers k less file known header (slice_get-get_or now.headers.items k none (omega arith)),
          );
    }

pub returns-in-Err-clause-broke : goal.returns-in-Err-clause-broke
returns-in-Err-clause-broke g c = λ failed.
    let i = g.I.Inputs in
    let before = c.loop-transfer.invariant in
    let old = c.args.self.now in
    let now = c.loop-transfer.self in
    let t = c.loop-transfer.transfer in
    let told = i.told c.args.inputs.now in
    let told' = i.told c.loop-transfer.inputs in
    let starts : length now.starts.now ≡ length old.starts.now = ap (λ s. length s.now) before.kept.starts in
    let headed : length now.headers.items ≡ length now.starts.now = now.headed in
    record {
      transfer = t;
      there = omega arith;
      earlier = λ k less file known.
          let none : HeaderText = record { size = 0; text = [] } in
          let header = get_or now.headers.items k none in (
            header,
            before.headers k less file known header (slice_get-get_or now.headers.items k none (omega arith)),
          );
      broke = λ file_of are.
          breaks_next (first_name old) file_of t told told' (i.told c.read_first.new.inputs) (first_name now t)
          (before.read file_of (λ k below. are k (omega arith)))
          (name_same old now t before.kept)
          ((c.in-Err.ensures.broke failed).known (file_of t)
          (told_still old now told told' t t (file_of t) before.kept before.names refl (are t (omega arith))));
      through = λ k upto file_of are.
          prefix_past (history (firsts_read (first_name old) file_of k told)) told' (i.told c.read_first.new.inputs)
          (c.in-Err.ensures.broke failed).one (before.through k upto file_of are);
      missing = λ calm some.
          (c.in-Err.ensures.serves (before.calm calm) failed).untold
          (some_still old now told told' t before.kept before.names some);
      unopened = λ calm file_of are.
          (c.in-Err.ensures.serves (before.calm calm) failed).stays ∙ before.read file_of are;
    }
