-- A text is read in one way.
use Rattle.std.proofs.Common.{◌≡◌, ℕ, List, [], ◌∷◌, Some, sym, ◌∙◌}
use Rattle.std.specs.List.{AllZip}
use Rattle.std.proofs.lemmas.Option.{same_Some}
use Rattle.xs_components.specs.declared.constraint.Constraint.{Constraint}
use Rattle.xs_components.specs.declared.constraint.PathText.{PathText}
use Rattle.xpath_subset.specs.Grammar.{WrittenPaths, IsSelector, IsField}
use Rattle.xpath_subset.specs.declared.path.Path.{Path}
use Rattle.xpath_subset.specs.Reads.{IsReadAs, ArePathsOf}
use Rattle.xpath_subset.specs.declared.paths.IdentityPaths.{IdentityPaths}

read-once : (IsWritten : List ℕ → WrittenPaths → Type 0) (path : PathText) (xs ys : List Path) → IsReadAs IsWritten path xs → IsReadAs IsWritten path ys → xs ≡ ys
read-once IsWritten path xs ys a b = same_Some xs ys (sym (a.1 a.0.0 a.0.1) ∙ b.1 a.0.0 a.0.1)

fields-once : (paths : List PathText) (xs ys : List (List Path)) → AllZip (IsReadAs IsField) paths xs → AllZip (IsReadAs IsField) paths ys → xs ≡ ys
fields-once [] [] [] a b = λ i. []
fields-once [] (x ∷ xs) ys a b = absurd a
fields-once [] [] (y ∷ ys) a b = absurd b
fields-once (path ∷ paths) [] ys a b = absurd a
fields-once (path ∷ paths) (x ∷ xs) [] a b = absurd b
fields-once (path ∷ paths) (x ∷ xs) (y ∷ ys) a b =
    let first = read-once IsField path x y a.0 b.0 in
    let rest = fields-once paths xs ys a.1 b.1 in
    λ i. first i ∷ rest i

pub paths-once : (c : Constraint) (one other : IdentityPaths) → ArePathsOf c one → ArePathsOf c other → one ≡ other
paths-once c one other a b =
    let selector = read-once IsSelector c.selector one.selector other.selector a.selector b.selector in
    let fields = fields-once c.fields one.fields other.fields a.fields b.fields in
    λ i. record { selector = selector i; fields = fields i }
