-- The references of constraints, one more.
use Rattle.std.proofs.Common.{◌≡◌, ℕ, ◌<◌, List, [], ◌∷◌, ◌++◌, length, map, Option, refl, sym, ap, ◌∙◌, append_assoc, append-nil, arith}
use Rattle.xs_components.specs.declared.constraint.Constraint.{Constraint}
use Rattle.key_records.specs.References.{refers}
use Rattle.key_records.specs.declared.references.References.{References}
use Rattle.forest_keys.specs.inside.Keyrefs.{key_in, referred}

pub nothing-left : {X : Type 0} (xs : List X) → length xs ≡ 0 → xs ≡ []
nothing-left [] e = refl
nothing-left (x ∷ xs) e = cc

pub shorter : {X : Type 0} (xs rest : List X) (x : X) → xs ≡ x ∷ rest → length rest < length xs
shorter xs rest x e = let size = ap length e in omega (arith, size)

pub keys-next : (old new : References) (left rest all : List Constraint) (c : Constraint) (key : Option ℕ) → refers old ++ map key_in left ≡ map key_in all → left ≡ c ∷ rest → key ≡ referred c.kind → refers new ≡ refers old ++ key ∷ []
    → refers new ++ map key_in rest ≡ map key_in all
keys-next old new left rest all c key so e is put =
    ap (λ xs. xs ++ map key_in rest) put ∙ append_assoc (refers old) (key ∷ []) (map key_in rest) ∙ ap (λ (k : Option ℕ). refers old ++ k ∷ map key_in rest) is
    ∙ ap (λ xs. refers old ++ map key_in xs) (sym e) ∙ so

pub keys-end : (refs : References) (left all : List Constraint) → refers refs ++ map key_in left ≡ map key_in all → length left ≡ 0 → refers refs ≡ map key_in all
keys-end refs left all so none = sym (append-nil (refers refs)) ∙ ap (λ xs. refers refs ++ map key_in xs) (sym (nothing-left left none)) ∙ so
