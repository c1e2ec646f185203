-- What a result's clauses say together.
use Rattle.std.specs.Prelude.{Result, Ok, Err, IfOk}

pub ok_both : {T E : Type 0} (r : Result T E) (P Q S : T → Type 0) → IfOk r P → IfOk r Q → ((x : T) → P x → Q x → S x) → IfOk r S
ok_both (Ok x) P Q S p q f = f x p q
ok_both (Err e) P Q S p q f = tt

pub ok_all : {T E : Type 0} (r : Result T E) (P Q R S : T → Type 0) → IfOk r P → IfOk r Q → IfOk r R → ((x : T) → P x → Q x → R x → S x) → IfOk r S
ok_all (Ok x) P Q R S p q o f = f x p q o
ok_all (Err e) P Q R S p q o f = tt
