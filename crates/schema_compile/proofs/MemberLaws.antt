-- The members of substitution groups have names of the table.
use Rattle.std.proofs.Common.{◌≡◌, ℕ, ◌<◌, Bool, true, false, refl, List, [], ◌∷◌, Option, Some, length, map, inl, inr, sym, ap, subst, ◌∙◌}
use Rattle.std.specs.Prelude.{All, Contains, unwrap_or}
use Rattle.std.specs.Option.{option_and_then}
use Rattle.std.proofs.lemmas.Bool.{cases_lt}
use Rattle.std.proofs.lemmas.List.Elements.{All-nil, All-cons, All-map, All-weaker, All-contains, All-contains_itself}
use Rattle.std.proofs.lemmas.Option.{none-some, slice_get_past}
use Rattle.xs_names.specs.Names.{NameTable}
use Rattle.xs_components.specs.Tables.{Tables}
use Rattle.xs_components.specs.declared.element.ElementDecl.{ElementDecl}
use Rattle.xs_components.specs.Heads.{names_of}
use Rattle.element_declarations.specs.Groups.{HasHead, named, through, is_named, IsGroup, IsEntry, AreGroups, head_of, part_name, name_of}
use Rattle.compiled_schema.specs.Usable.{AreNamed}
use Rattle.schema_compile.proofs.ContentLaws.{slice-there}

module _ (names : NameTable) (t : Tables) (are : AreNamed names t) where
  abbrev IsNumber : ℕ → Type 0
  IsNumber n = n < length names.names

  name-below : (element : ℕ) → element < length t.elements.parts → IsNumber (name_of t element)
  name-below element l =
      let at = slice-there t.elements.parts element l in
      subst (λ (o : Option ElementDecl). IsNumber (part_name o)) (sym at.1) (are.elements element at.0 at.1)

  -- an element that has a head is there
  element-there : (element head : ℕ) → head_of t element ≡ Some head → element < length t.elements.parts
  element-there element head is = elim (cases_lt element (length t.elements.parts)) [
    | inl l ↦ l
    | inr past ↦
        absurd (none-some head (sym (ap (λ (o : Option ElementDecl). option_and_then (λ (part : ElementDecl). part.head) o) (slice_get_past t.elements.parts element past)) ∙ is))
  ]

  member-there : (element head : ℕ) → HasHead t element head → element < length t.elements.parts
  member-there _ _ (named element head is) = element-there element head is
  member-there _ _ (through element above head is further) = element-there element above is

  group-below : (head : ℕ) (group : List ℕ) → IsGroup t head group → head < length t.elements.parts → All IsNumber group
  group-below head group g l =
      subst (All IsNumber) (sym g.all_names)
      (All-cons IsNumber (name_of t head) (map (name_of t) g.members) (name-below head l)
      (All-map IsNumber (name_of t) g.members
      (All-weaker (Contains g.members) (λ e. IsNumber (name_of t e)) (λ e c. name-below e (member-there e head ((g.exact e).0 c).has_head)) g.members (All-contains_itself g.members))))

  entry-below : (head : ℕ) (group : List ℕ) → IsEntry t head group → head < length t.elements.parts → All IsNumber group
  entry-below head group entry l = of (is_named t head) refl
    where
      of : (b : Bool) → is_named t head ≡ b → All IsNumber group
      of true e = group-below head group (entry.named e) l
      of false e = subst (All IsNumber) (sym (entry.other e)) (All-cons IsNumber (name_of t head) [] (name-below head l) (All-nil IsNumber))

  pub members-named : (members : List (List ℕ)) → AreGroups t members → (element n : ℕ) → Contains (names_of members element) n → n < length names.names
  members-named members g element n c = elim (cases_lt element (length members)) [
    | inl l ↦ All-contains IsNumber (names_of members element) n (entry-below element (names_of members element) (g.are element l) (subst (λ k. element < k) g.each l)) c
    | inr past ↦
        let none : names_of members element ≡ [] = ap (λ (o : Option (List ℕ)). unwrap_or o []) (slice_get_past members element past) in
        absurd (All-contains (λ m. ⊥) [] n (All-nil (λ m. ⊥)) (subst (λ (ns : List ℕ). Contains ns n) none c))
  ]
