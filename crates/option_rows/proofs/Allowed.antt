-- A value in a row is one that its limits allow.
use Rattle.std.proofs.Common.{◌≡◌, ℕ, Bool, true, false, cond, refl}
use Rattle.std.specs.Prelude.{Option, Some, None, ℤ, pos, negsuc, is_some, unwrap_or, option_and_then}
use Rattle.option_rows.specs.declared.row.Limits.{Limits}
use Rattle.option_rows.specs.Rows.{limits_allow, if_allowed, number_read}
use Rattle.option_rows.specs.Laws.{ValuesAreAllowed}

allowed_by : (limits : Limits) (n : ℕ) (b : Bool) → limits_allow limits n ≡ b → is_some (cond b (Some n) None) ≡ true →
    limits_allow limits (unwrap_or (cond b (Some n) None) 0) ≡ true
allowed_by limits n true e some = e
allowed_by limits n false e some = (cc)

allowed_number : (limits : Limits) (z : Option ℤ) → is_some (option_and_then (if_allowed limits) z) ≡ true →
    limits_allow limits (unwrap_or (option_and_then (if_allowed limits) z) 0) ≡ true
allowed_number limits None some = (cc)
allowed_number limits (Some (pos n)) some = allowed_by limits n (limits_allow limits n) refl some
allowed_number limits (Some (negsuc n)) some = (cc)

pub values_are_allowed : ValuesAreAllowed
values_are_allowed row None default some = default
values_are_allowed row (Some text) default some = allowed_number row.limits (number_read row.reader text) some
