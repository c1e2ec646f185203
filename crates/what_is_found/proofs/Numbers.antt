-- The numbers of entries.
use Rattle.std.proofs.Common.{◌≡◌, ◌≤◌, ◌==◌, ℕ, ◌+◌, List, [], ◌∷◌, ◌++◌, sym, ap, ◌∙◌, subst, arith}
use Rattle.std.specs.Prelude.{if◌then◌else◌}
use Rattle.tree_rows.specs.Forest.{Forest, none, text, element, Document}
use Rattle.tree_rows.specs.Whole.{HasRoot, times}
use Rattle.elem_governing.specs.declared.pairs.Governing.{Governing}
use Rattle.xs_names.specs.Scope.{first_scope}
use Rattle.assessment.specs.Attribution.{SchemaSet}
use Rattle.assessment.specs.Assessment.{Beside, Entry, Assessed, entries, other_pairs, root_pairs, AreAssessed, IsAssessment}
use Rattle.assess_records.specs.Numbered.{Scope, heads, scope_in}
use Rattle.what_is_found.specs.Identity.{beside_of}
use Rattle.what_is_found.specs.IsFound.{IsFound, times_found}

pub append-times : (key : ℕ) (xs ys : List Entry) → times_found key (xs ++ ys) ≡ times_found key xs + times_found key ys
append-times key [] ys = omega arith
append-times key (x ∷ xs) ys = omega (arith, append-times key xs ys)

module _ (s : SchemaSet) (b : Beside) where
  -- no number is found more often than the document has it
  times-within : (key : ℕ) (f : Forest) (scope : Scope) (pairs : List Governing) (found : Assessed) → AreAssessed s b scope pairs f found → times_found key (entries found) ≤ times key f
  times-within key none scope pairs found a = subst (λ (x : Assessed). times_found key (entries x) ≤ times key none) (sym a) (omega arith)
  times-within key (text number chars next) scope pairs found a = omega (arith, times-within key next scope pairs found a)
  times-within key (element number name bindings attributes children next) scope pairs found a =
      let under = times-within key children (scope_in s.names bindings scope) a.1 a.2 a.6 in
      let behind = times-within key next scope (other_pairs pairs) a.3 a.7 in
      let parts = append-times key (entries a.2) (entries a.3) in
      let own : ◌≡◌ {A = ℕ} (if a.0.number == key then 1 else 0) (if number == key then 1 else 0) = ap (λ (n : ℕ). if n == key then 1 else 0) a.5.number_is in
      let all : times_found key (a.0 ∷ (entries a.2 ++ entries a.3)) ≤ times key (element number name bindings attributes children next) = omega (arith, under, behind, parts, own) in
      subst (λ (x : Assessed). times_found key (entries x) ≤ times key (element number name bindings attributes children next)) (sym a.4) all

  -- the first entry is the root's
  root-first : (f : Forest) (found : Assessed) → HasRoot f → IsAssessment s b f found → (own : Entry) × (more : List Entry) × (entries found ≡ own ∷ more) × (own.number ≡ 1)
  root-first none found root a = absurd root
  root-first (text number chars next) found root a = absurd root
  root-first (element number name bindings attributes children next) found root a = (a.0, entries a.2 ++ entries a.3, ap entries a.4, a.5.number_is ∙ root.0)

module _ (s : SchemaSet) (d : Document) (es : List Entry) (is : IsFound s d es) where
  pub found-once : (key : ℕ) → times_found key es ≤ 1
  found-once key =
      let within = times-within s (beside_of s is.identities d.forest is.found) key d.forest first_scope (root_pairs s (heads s.names first_scope d.forest)) is.found is.assessed in
      omega (arith, within, is.tree.differ key, ap (times_found key) is.entries_are)

  pub found-first : (own : Entry) × (more : List Entry) × (es ≡ own ∷ more) × (own.number ≡ 1)
  found-first =
      let first = root-first s (beside_of s is.identities d.forest is.found) d.forest is.found is.tree.root is.assessed in
      (first.0, first.1, is.entries_are ∙ first.2, first.3)
