-- A layer that was laid, or was not, seen through the option that its constructor's result was turned into.
use Rattle.std.proofs.Common.{◌≡◌, IfOk, Some, None, Ok, Err, Result, sym, subst}
use Rattle.std.specs.Result.{result_ok}
use Rattle.std.proofs.lemmas.Option.{same_Some, none-some}
use Rattle.pools.specs.declared.refused.RefusedLayer.{RefusedLayer}
use Rattle.pools.specs.Layers.{fault_of}

pub made : {T E : Type 0} (r : Result T E) {x : T} (P : T → Type 0) → Some x ≡ result_ok r → IfOk r P → P x
made (Ok y) {x} P is h = subst P (sym (same_Some x y is)) h
made (Err e) {x} P is h = absurd (none-some x (sym is))

pub not_refused : {S P : Type 0} (r : Result S (RefusedLayer P)) → None ≡ result_ok r → fault_of r ≡ None → ⊥
not_refused (Ok s) is none = none-some s is
not_refused (Err e) is none = none-some e.fault (sym none)
