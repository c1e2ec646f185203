-- What holds of a result, whatever it is.
use Rattle.std.proofs.Common.{◌≡◌, Result, Ok, Err, OnOk, IfOk, IfErr, sym, subst}
use Rattle.std.specs.Result.{IsErrAnd}

pub ok_map : {T E : Type 0} (r : Result T E) (P Q : T → Type 0) → IfOk r P → ((x : T) → P x → Q x) → IfOk r Q
ok_map (Ok x) P Q p f = f x p
ok_map (Err e) P Q p f = tt

pub on_ok : {T E : Type 0} (r : Result T E) (P : T → Type 0) (Q : Type 0) → IfOk r P → ((x : T) → P x → Q) → OnOk r Q
on_ok (Ok x) P Q p f = f x p
on_ok (Err e) P Q p f = tt

pub err_map : {T E : Type 0} (r : Result T E) (P Q : E → Type 0) → IfErr r P → ((e : E) → P e → Q e) → IfErr r Q
err_map (Ok x) P Q p f = tt
err_map (Err e) P Q p f = f e p

-- a refusal that is passed on
pub err_same : {T E : Type 0} (r : Result T E) (x : E) (P : E → Type 0) → IsErrAnd r (λ e. e ≡ x) → P x → IfErr r P
err_same (Ok y) x P q p = tt
err_same (Err e) x P q p = subst P (sym q) p
