-- The passes and banks of shards are parted, place by place.
use Rattle.std.proofs.Common.{◌≡◌, ℕ, List, length, drop, take, Option}
use Rattle.dada_hdu.specs.declared.ended.HduEnded.{HduEnded}
use Rattle.session_readers.specs.declared.bank.Bank.{Bank}
use Rattle.session_readers.specs.declared.shard.ShardActor.{ShardActor}
use Rattle.search_session.specs.Books.{passes_of, banks_of}

-- those of the first n shards
pub record Parting (all : List (Option ShardActor)) (n : ℕ) (left : List (Option ShardActor))
    (passes : List (Option HduEnded)) (banks : List (Option Bank)) : Type 0 where
  pub rest : left ≡ drop n all
  pub passes_are : passes ≡ passes_of (take n all)
  pub banks_are : banks ≡ banks_of (take n all)
  pub passes_count : length passes ≡ n
  pub banks_count : length banks ≡ n
