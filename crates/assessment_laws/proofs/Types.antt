-- What governs elements, where the table of names has grown: no type has a name that is new.
use Rattle.std.proofs.Common.{◌≡◌, inl, inr, ℕ, suc, ◌+◌, ◌<◌, ◌≤◌, Bool, true, false, ◌==◌, List, [], ◌∷◌, ◌++◌, Option, None, Some, map, length, if◌then◌else◌, refl, sym, ap, ◌∙◌, subst, arith, get_or}
use Rattle.std.specs.Prelude.{All, IfSome, bytes_eq}
use Rattle.std.specs.List.{position_from}
use Rattle.std.specs.Option.{option_map, option_and_then, option_or}
use Rattle.std.proofs.lemmas.Bool.{cases_eq, eqb-true}
use Rattle.std.proofs.lemmas.List.Elements.{All-head, All-tail, All-append, All-map}
use Rattle.std.proofs.lemmas.Option.{same_Some, slice_get-get_or}
use Rattle.xs_names.specs.Names.{NameTable, Grown, IsSound, same_name, name_number}
use Rattle.xs_names.specs.QName.{qname}
use Rattle.xs_names.specs.Scope.{resolved}
use Rattle.xs_names.specs.WhiteSpace.{collapsed}
use Rattle.xs_names.proofs.GrownLaws.{name_number-Grown, two_spaces}
use Rattle.xs_names.proofs.NumberingLaws.{slice_get-position_from}
use Rattle.xs_components.specs.Tables.{Tables}
use Rattle.xs_components.specs.declared.complex.ComplexType.{ComplexType}
use Rattle.xs_components.specs.declared.simple.SimpleType.{SimpleType}
use Rattle.component_tables.specs.Named.{type_names, type_at, type_with, own_type, named_type}
use Rattle.component_tables.specs.Symbols.{if_named, first_from}
use Rattle.component_tables.specs.Types.{global_of}
use Rattle.schema_values.specs.GrammarNames.{schema_namespace}
use Rattle.assess_records.specs.Numbered.{Scope}
use Rattle.elem_governing.specs.Governing.{declared_type, type_said, governed, govern_root, govern_child, child_mode, particle_declaration, accepting_particle}
use Rattle.elem_governing.specs.LocalType.{in_scope, qname_value, by_type, by_name, xsi_type}
use Rattle.elem_governing.specs.View.{AreKnown}
use Rattle.elem_governing.specs.declared.local_types.XsiType.{XsiType}
use Rattle.elem_governing.specs.declared.pairs.Governing.{Governing}
use Rattle.elem_governing.specs.declared.pairs.Mode.{Mode}
use Rattle.elem_governing.specs.declared.pairs.Mode.TheVariants.{Strict, Lax, Skip}
use Rattle.elem_governing.proofs.ScopeLaws.{resolved-known}
use Rattle.assessment_laws.specs.GrownThere.{ArePartsNamed}
use Rattle.assessment_laws.proofs.Spaces.{space-kept}

none-some : {X : Type 0} (x : X) → None ≡ Some x → ⊥
none-some x e = cc

-- an item that stands only among those that were added is behind the others
module _ {X : Type 0} (test : X → Bool) where
  late : (i n : ℕ) (xs ys : List X) → position_from test i xs ≡ None → position_from test i (xs ++ ys) ≡ Some n → i + length xs ≤ n
  late i n [] ys e f = let p = slice_get-position_from test i n ys f in omega (arith, p.2)
  late i n (x ∷ xs) ys e f = by (test x) (λ a b. late (i + 1) n xs ys a b) e f
    where
      by : (b : Bool) → (position_from test (i + 1) xs ≡ None → position_from test (i + 1) (xs ++ ys) ≡ Some n → i + 1 + length xs ≤ n) →
          (if b then Some i else position_from test (i + 1) xs) ≡ None → (if b then Some i else position_from test (i + 1) (xs ++ ys)) ≡ Some n → i + length (x ∷ xs) ≤ n
      by true rest a b = absurd (none-some i (sym a))
      by false rest a b = let r = rest a b in omega (arith, r)

-- no place has a name that is past those of all places
module _ (bound : ℕ) where
  abbrev IsBelow : Option ℕ → Type 0
  IsBelow o = IfSome o (λ n. n < bound)

  not-named : (o : Option ℕ) (place n : ℕ) → IsBelow o → bound ≤ n → if_named o place n ≡ None
  not-named None place n l le = refl
  not-named (Some own) place n l le = by (own == n) refl
    where
      by : (b : Bool) → (own == n) ≡ b → (if b then Some place else None) ≡ None
      by true e = let same = eqb-true own n e in absurd (omega (arith, same, l, le))
      by false e = refl

  no-place : (names : List (Option ℕ)) (place n : ℕ) → All IsBelow names → bound ≤ n → first_from names place n ≡ None
  no-place [] place n all le = refl
  no-place (o ∷ names) place n all le =
      let own = not-named o place n (All-head IsBelow o names all) le in
      let rest = no-place names (suc place) n (All-tail IsBelow o names all) le in
      λ i. option_or (own i) (rest i)

module _ (old new : NameTable) (g : Grown old new) (t : Tables) (named : ArePartsNamed old t) where
  types-named : All (IsBelow (length old.names)) (type_names t)
  types-named =
      All-append (IsBelow (length old.names)) (map (λ (part : SimpleType). part.name) t.simples.parts) (map (λ (part : ComplexType). part.name) t.complexes.parts)
      (All-map (IsBelow (length old.names)) (λ (part : SimpleType). part.name) t.simples.parts (λ k d l. named.simples k (get_or t.simples.parts k d) (slice_get-get_or t.simples.parts k d l)))
      (All-map (IsBelow (length old.names)) (λ (part : ComplexType). part.name) t.complexes.parts (λ k d l. named.complexes k (get_or t.complexes.parts k d) (slice_get-get_or t.complexes.parts k d l)))

  -- no type has a name that is new
  no-type : (n : ℕ) → length old.names ≤ n → type_with t n ≡ None
  no-type n le = ap (option_and_then (type_at t)) (no-place (length old.names) (type_names t) 0 n types-named le)

  named-kept : (space : ℕ) (local : List ℕ) (o p : Option ℕ) → name_number old space local ≡ o → name_number new space local ≡ p → option_and_then (type_with t) p ≡ option_and_then (type_with t) o
  named-kept space local (Some n) p e f = ap (option_and_then (type_with t)) (sym f ∙ name_number-Grown old new g space local n e)
  named-kept space local None None e f = refl
  named-kept space local None (Some n) e f =
      let behind = late (same_name (space, local)) 0 n old.names g.names.0 e (sym (ap (λ (names : List (ℕ × List ℕ)). position_from (same_name (space, local)) 0 names) g.names.1) ∙ f) in
      no-type n (omega (arith, behind))

  type-kept : (space : ℕ) (local : List ℕ) → space < length old.spaces → named_type new t space local ≡ named_type old t space local
  type-kept space local l =
      let chars = space-kept old new g space l in
      let by = named-kept space local (name_number old space local) (name_number new space local) refl refl in
      λ i. if bytes_eq (chars i) schema_namespace then own_type local else by i

  -- ---- in a scope

  module _ (sound : IsSound old) (scope : Scope) (known : AreKnown old scope) where
    space-within : (prefix : Option (List ℕ)) (space : ℕ) → resolved scope prefix ≡ Some space → space < length old.spaces
    space-within prefix space e = elim (cases_eq space 0) [
      | inl same ↦ let two = two_spaces old sound in omega (arith, same, two)
      | inr other ↦ resolved-known (length old.spaces) scope prefix space known e other
    ]

    value-within : (o : Option (Option (List ℕ) × List ℕ)) (name : ℕ × List ℕ) → option_and_then (in_scope scope) o ≡ Some name → name.0 < length old.spaces
    value-within None name e = absurd (none-some name e)
    value-within (Some parts) name e = of (resolved scope parts.0) refl e
      where
        of : (r : Option ℕ) → resolved scope parts.0 ≡ r → option_map (λ (space : ℕ). (space, parts.1)) r ≡ Some name → name.0 < length old.spaces
        of None is f = absurd (none-some name f)
        of (Some space) is f =
            subst (λ (n : ℕ). n < length old.spaces) (ap (λ (p : ℕ × List ℕ). p.0) (same_Some (space, parts.1) name f)) (space-within parts.0 space is)

    by-name-kept : (declaration : Option ℕ) (o : Option (ℕ × List ℕ)) → ((name : ℕ × List ℕ) → o ≡ Some name → name.0 < length old.spaces) → by_name new t declaration o ≡ by_name old t declaration o
    by-name-kept declaration None within = refl
    by-name-kept declaration (Some name) within = ap (by_type t declaration) (type-kept name.0 name.1 (within name refl))

    pub said-kept : (declaration : Option ℕ) (xsi : Option (List ℕ)) → xsi_type new t declaration xsi scope ≡ xsi_type old t declaration xsi scope
    said-kept declaration None = refl
    said-kept declaration (Some chars) = by-name-kept declaration (qname_value scope chars) (λ name e. value-within (qname (collapsed chars)) name e)

    governed-kept : (mode : Mode) (declaration : Option ℕ) (xsi : Option (List ℕ)) → governed new t mode declaration xsi scope ≡ governed old t mode declaration xsi scope
    governed-kept Skip declaration xsi = refl
    governed-kept Strict declaration xsi =
        ap (λ (said : XsiType). let pair : Governing = record { declaration = declaration; of = Some (type_said said (declared_type t declaration)); mode = Strict } in pair) (said-kept declaration xsi)
    governed-kept Lax declaration xsi =
        ap (λ (said : XsiType). let pair : Governing = record { declaration = declaration; of = Some (type_said said (declared_type t declaration)); mode = Lax } in pair) (said-kept declaration xsi)

    pub child-kept : (mode : Mode) (term : Option ℕ) (name : ℕ) (xsi : Option (List ℕ)) → govern_child new t mode term name xsi scope ≡ govern_child old t mode term name xsi scope
    child-kept mode term name xsi = governed-kept (child_mode mode (accepting_particle t term)) (particle_declaration t name (accepting_particle t term)) xsi

    pub root-kept : (name : ℕ) (xsi : Option (List ℕ)) → govern_root new t name xsi scope ≡ govern_root old t name xsi scope
    root-kept name xsi = governed-kept Strict (global_of t name) xsi
