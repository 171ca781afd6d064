use Rattle.std.proofs.Common.{◌≡◌, ℕ, zero, suc, ◌+◌, ◌≤◌, ◌<◌, length, None, refl, ap, arith}
use Rattle.stream_model.specs.Walk.{FileStream, Whole, walk_stop, stop_at, header_stop, length_stop, data_between, first_or_whole}
use Rattle.stream_model.proofs.FileData.{data_grows, data_none}
use Rattle.stream_model.proofs.Stops.{never_whole, whole_from, none_from, both_none, none_of_both, within_limit, limit_of_none}
use Rattle.stream_model.proofs.walk_laws.whole_exactly.Goals as goal

each_none : (s : FileStream) → walk_stop s ≡ Whole → (k : ℕ) → k < length s.files → stop_at s k ≡ None
unfolding walk_stop
each_none s whole k below =
    whole_from (stop_at s) (never_whole s) 0 (length s.files) k whole (omega arith) (omega arith)

parts_none : (s : FileStream) (k : ℕ) → stop_at s k ≡ None → (header_stop s k ≡ None) × (length_stop s k ≡ None)
unfolding stop_at
parts_none s k none = both_none (header_stop s k) (length_stop s k) none

-- the data of all files, up to the last one
all_within : (s : FileStream) (n : ℕ) → n ≡ length s.files → ((k : ℕ) → k < n → length_stop s k ≡ None) →
    length (data_between s.files 0 n) ≤ s.max_bytes
all_within s zero is none = omega (arith, ap (length {A = ℕ}) (data_none s.files 0))
all_within s (suc n) is none =
    let e : n + 1 ≡ suc n = omega arith in
    rw e at (limit_of_none s n (none n (omega arith)))

all_none : (s : FileStream) → ((k : ℕ) → k < length s.files → header_stop s k ≡ None) →
    length (data_between s.files 0 (length s.files)) ≤ s.max_bytes → walk_stop s ≡ Whole
unfolding walk_stop stop_at
all_none s headers few =
    ap first_or_whole (none_from (stop_at s) 0 (length s.files) (λ k from below.
    none_of_both (header_stop s k) (length_stop s k) (headers k (omega arith))
    (within_limit s k (omega (arith, data_grows s.files (k + 1) (length s.files) (omega arith))))))

pub returns : goal.returns
returns c = λ s. (
  λ whole. (
    λ k below. (parts_none s k (each_none s whole k below)).0,
    all_within s (length s.files) refl (λ k below. (parts_none s k (each_none s whole k below)).1),
  ),
  λ parts. all_none s parts.0 parts.1,
)
