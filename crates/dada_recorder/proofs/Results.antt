-- Facts of a result that two others give.
use Rattle.std.proofs.Common.{Result, Ok, Err, OnOk, OnErr}

pub both_ok : {T E : Type 0} {P Q R : Type 0} (result : Result T E) → (P → Q → R) → OnOk result P → OnOk result Q →
    OnOk result R
both_ok (Ok x) does p q = does p q
both_ok (Err e) does p q = tt

pub map_ok : {T E : Type 0} {P R : Type 0} (result : Result T E) → (P → R) → OnOk result P → OnOk result R
map_ok (Ok x) does p = does p
map_ok (Err e) does p = tt

pub map_err : {T E : Type 0} {P R : Type 0} (result : Result T E) → (P → R) → OnErr result P → OnErr result R
map_err (Ok x) does p = tt
map_err (Err e) does p = does p
