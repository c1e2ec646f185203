-- Terms one after another.
use Rattle.std.proofs.Common.{◌≡◌, inl, inr, ℕ, zero, suc, ◌+◌, ◌<◌, Bool, true, false, List, [], ◌∷◌, ◌++◌, Option, Some, length, slice_get, refl, sym, ap, subst, ◌∙◌, arith}
use Rattle.std.specs.Prelude.{◌↔◌, All as Each, slice_index_or}
use Rattle.std.proofs.lemmas.Bool.{cases_eq}
use Rattle.std.proofs.lemmas.Option.{slice_get_within, slice_get_cases}
use Rattle.std.proofs.lemmas.List.{length_push}
use Rattle.std.proofs.lemmas.List.Elements.{All-nil, All-push}
use Rattle.xs_names.specs.Names.{NameTable}
use Rattle.xs_components.specs.Tables.{Tables}
use Rattle.xs_components.specs.declared.element.ElementDecl.{ElementDecl}
use Rattle.particle_restrict.specs.Tables.{HasType}
use Rattle.particle_restrict.specs.declared.terms.Declaration.{Declaration}
use Rattle.particle_restrict.specs.declared.terms.Space.{Space}
use Rattle.particle_restrict.specs.declared.terms.Term.{Term}
use Rattle.particle_restrict.specs.declared.terms.Term.TheVariants.{Element, Any}
use Rattle.derive_models.specs.AnyType.{IsOfAnyType}
use Rattle.derive_models.specs.Terms.{declaration_of, IsElementType, AreTerms}
use Rattle.derive_models.specs.Steps.{AreElements, IsSpaceAt, AreSpaces}

get-front : {X : Type 0} (xs : List X) (x : X) (k : ℕ) → k < length xs → slice_get (xs ++ x ∷ []) k ≡ slice_get xs k
get-front [] x k l = absurd (omega arith)
get-front (y ∷ ys) x zero l = refl
get-front (y ∷ ys) x (suc k) l = get-front ys x k (omega arith)

get-behind : {X : Type 0} (xs : List X) (x : X) → slice_get (xs ++ x ∷ []) (length xs) ≡ Some x
get-behind [] x = refl
get-behind (y ∷ ys) x = get-behind ys x

get-last : {X : Type 0} (xs : List X) (x : X) (k : ℕ) → length xs ≡ k → slice_get (xs ++ x ∷ []) k ≡ Some x
get-last xs x k e = subst (λ k. slice_get (xs ++ x ∷ []) k ≡ Some x) e (get-behind xs x)

-- ---- elements
module _ (t : Tables) (names : NameTable) (fixed : List (Option ℕ)) where
  pub elements-first : (terms : List Term) → terms ≡ [] → AreElements t names fixed 0 terms
  elements-first terms e = rw e (record {
    each = refl;
    right = λ n part l is. absurd (omega arith);
    types = All-nil (HasType (IsElementType t));
  })

  module _ (n id : ℕ) (there : (id ≡ n) × (n < length t.elements.parts)) (d : Declaration)
      (of : (part : ElementDecl) → slice_get t.elements.parts id ≡ Some part → d ≡ declaration_of t names fixed id part) where
    part-is : (part : ElementDecl) → slice_get t.elements.parts n ≡ Some part → d ≡ declaration_of t names fixed n part
    part-is part is = subst (λ k. slice_get t.elements.parts k ≡ Some part → d ≡ declaration_of t names fixed k part) there.0 (of part) is

    part-type : (part : ElementDecl) → slice_get t.elements.parts n ≡ Some part → IsElementType t d.of
    part-type part is = (n, slice_get_within t.elements.parts n part is, ap (λ (d : Declaration). d.of) (part-is part is))

    typed : IsElementType t d.of
    typed = elim (slice_get_cases t.elements.parts n).1 [
      | inl x ↦ part-type x.0 x.2
      | inr x ↦ (let l = there.1 in absurd (omega (arith, x.0)))
    ]

    pub elements-more : (terms new : List Term) → new ≡ terms ++ Element d ∷ [] → AreElements t names fixed n terms → AreElements t names fixed (n + 1) new
    elements-more terms new e was = rw e (record {
      each = length_push terms (Element d) ∙ ap (λ k. k + 1) was.each;
      right = right;
      types = All-push (HasType (IsElementType t)) terms (Element d) was.types typed;
    })
      where
        right : (k : ℕ) (part : ElementDecl) → k < n + 1 → slice_get t.elements.parts k ≡ Some part → slice_get (terms ++ Element d ∷ []) k ≡ Some (Element (declaration_of t names fixed k part))
        right k part l is = elim (cases_eq k n) [
          | inl same ↦ get-last terms (Element d) k (was.each ∙ sym same) ∙ ap (λ d. Some (Element d)) (subst (λ k. slice_get t.elements.parts k ≡ Some part → d ≡ declaration_of t names fixed k part) (sym same) (part-is part) is)
          | inr differ ↦ get-front terms (Element d) k (let w = was.each in omega arith) ∙ was.right k part (omega arith) is
        ]

-- ---- wildcards
module _ (t : Tables) (flags : List Bool) (old : List Term) where
  pub spaces-first : Each (HasType (IsElementType t)) old → AreSpaces t flags 0 old old
  spaces-first types = record {
    each = omega arith;
    kept = λ n l. refl;
    right = λ n l. absurd (omega arith);
    types = types;
  }

  pub spaces-more : (n id : ℕ) (space : Space) (terms new : List Term) → id ≡ n → IsSpaceAt t flags id space → new ≡ terms ++ Any space ∷ [] → AreSpaces t flags n old terms → AreSpaces t flags (n + 1) old new
  spaces-more n id space terms new at is e was = rw e (record {
    each = (let l = length_push terms (Any space) in let w = was.each in omega arith);
    kept = λ k l. get-front terms (Any space) k (let w = was.each in omega arith) ∙ was.kept k l;
    right = right;
    types = All-push (HasType (IsElementType t)) terms (Any space) was.types tt;
  })
    where
      right : (k : ℕ) → k < n + 1 → (space' : Space) × IsSpaceAt t flags k space' × (slice_get (terms ++ Any space ∷ []) (length old + k) ≡ Some (Any space'))
      right k l = elim (cases_eq k n) [
        | inl same ↦ (space, subst (λ j. IsSpaceAt t flags j space) (at ∙ sym same) is, get-last terms (Any space) (length old + k) (was.each ∙ ap (λ j. length old + j) (sym same)))
        | inr differ ↦ (let x = was.right k (omega arith) in (x.0, x.1, get-front terms (Any space) (length old + k) (let w = was.each in omega arith) ∙ x.2))
      ]

-- ---- both
pub terms-all : (t : Tables) (names : NameTable) (fixed : List (Option ℕ)) (flags : List Bool) (elements terms : List Term) → ((p : ℕ) → (slice_index_or flags p false ≡ true) ↔ IsOfAnyType t p) →
    AreElements t names fixed (length t.elements.parts) elements → AreSpaces t flags (length t.particles.parts) elements terms → AreTerms t names fixed terms
terms-all t names fixed flags elements terms flagged first second = record {
  elements = λ n part is. let l = slice_get_within t.elements.parts n part is in second.kept n (let e = first.each in omega arith) ∙ first.right n part l is;
  wildcards = λ n part wildcard is any. let l = slice_get_within t.particles.parts n part is in
      let x = second.right n l in
      (slice_index_or flags n false, flagged n, ap (λ k. slice_get terms (k + n)) (sym first.each) ∙ (x.2 ∙ ap (λ s. Some (Any s)) (x.1 part wildcard is any)));
}
