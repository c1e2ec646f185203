-- The paths of the identity constraints of a set are read in one way.
use Rattle.std.proofs.Common.{◌≡◌, List, [], ◌∷◌, refl, ap}
use Rattle.std.specs.List.{AllZip}
use Rattle.tree_rows.specs.Forest.{Forest}
use Rattle.xs_components.specs.Tables.{Tables}
use Rattle.xs_components.specs.declared.constraint.Constraint.{Constraint}
use Rattle.assessment.specs.Attribution.{SchemaSet}
use Rattle.assessment.specs.Assessment.{Assessed}
use Rattle.xpath_subset.specs.Reads.{ArePathsOf, AreIdentities}
use Rattle.xpath_subset.specs.declared.paths.IdentityPaths.{IdentityPaths}
use Rattle.xpath_subset.proofs.Once.{paths-once}
use Rattle.what_is_found.specs.Identity.{beside_of}

each-once : (parts : List Constraint) (xs ys : List IdentityPaths) → AllZip ArePathsOf parts xs → AllZip ArePathsOf parts ys → xs ≡ ys
each-once [] [] [] p q = refl
each-once [] [] (y ∷ ys) p q = absurd q
each-once [] (x ∷ xs) ys p q = absurd p
each-once (c ∷ parts) [] ys p q = absurd p
each-once (c ∷ parts) (x ∷ xs) [] p q = absurd q
each-once (c ∷ parts) (x ∷ xs) (y ∷ ys) p q =
    let first = paths-once c x y p.0 q.0 in
    let rest = each-once parts xs ys p.1 q.1 in
    λ i. first i ∷ rest i

pub identities-once : (t : Tables) (xs ys : List IdentityPaths) → AreIdentities t xs → AreIdentities t ys → xs ≡ ys
identities-once t xs ys p q = each-once t.constraints.parts xs ys p q

pub beside-once : (s : SchemaSet) (xs ys : List IdentityPaths) → AreIdentities s.parts xs → AreIdentities s.parts ys → (f : Forest) (found : Assessed) → beside_of s xs f found ≡ beside_of s ys f found
beside-once s xs ys p q f found = ap (λ (identities : List IdentityPaths). beside_of s identities f found) (identities-once s.parts xs ys p q)
