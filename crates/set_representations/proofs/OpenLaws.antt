-- An element more that opens a scope or none.
use Rattle.std.proofs.Common.{◌≡◌, ℕ, suc, ◌+◌, ◌<◌, ◌==◌, ◌&&◌, Bool, true, false, List, [], ◌∷◌, ◌++◌, Option, Some, None, length, if◌then◌else◌, refl, sym, ap, subst, ◌∙◌, arith, length-append, eq-eqb, eqb-true}
use Rattle.std.specs.Option.{unwrap_or}
use Rattle.std.proofs.lemmas.List.{append-nil, append_assoc}
use Rattle.tree_rows.specs.declared.row.Binding.{Binding}
use Rattle.xs_names.specs.Names.{NameTable, Grown}
use Rattle.xs_names.proofs.GrownLaws.{Grown-refl, Grown-trans}
use Rattle.schema_faults.specs.Constructs.{nearest}
use Rattle.schema_shape.specs.declared.forms.Shape.{Shape}
use Rattle.representations.specs.Lasting.{IsLasting}
use Rattle.set_representations.specs.Scopes.{has_some, opens, is_opener, bound, scope_of, openings, scope_place, scopes_in}
use Rattle.set_representations.specs.declared.item_places.ItemPlaces.{ItemPlaces}
use Rattle.set_representations.specs.inside.Building.{found, opened_place, scope_at, IsOpened}
use Rattle.set_representations.proofs.ScopeLaws.{length-scopes_in, scope_at-place}

-- a place that was put, and the others
put-place : (b : Bool) (place : ℕ) (o : Option ℕ) → unwrap_or (if b then Some place else o) 0 ≡ (if b then place else unwrap_or o 0)
put-place true place o = refl
put-place false place o = refl

nearest-some : (above item : ℕ) (bindings : List Binding) → has_some bindings ≡ true → nearest above item bindings ≡ item
nearest-some above item [] h = absurd (cc)
nearest-some above item (b ∷ bindings) h = refl

pub some-bindings : (bindings : List Binding) → (length bindings == 0) ≡ false → has_some bindings ≡ true
some-bindings [] h = absurd (cc)
some-bindings (b ∷ bindings) h = refl

pub no-bindings : (bindings : List Binding) → (length bindings == 0) ≡ true → has_some bindings ≡ false
no-bindings [] h = refl
no-bindings (b ∷ bindings) h = let none = eqb-true (length (b ∷ bindings)) 0 h in absurd (omega (arith, none))

nearest-none : (above item : ℕ) (bindings : List Binding) → has_some bindings ≡ false → nearest above item bindings ≡ above
nearest-none above item [] h = refl
nearest-none above item (b ∷ bindings) h = absurd (cc)

pub opened-Grown : (t u : NameTable) (base : List (List (List ℕ × ℕ))) (before : List Shape) (opened : ItemPlaces) (scopes : List (List (List ℕ × ℕ)))
    → Grown t u → IsOpened t base before opened scopes → IsOpened u base before opened scopes
opened-Grown t u base before opened scopes g is = record {
  begins = is.begins;
  places = is.places;
  all = λ later h. is.all later (Grown-trans t u later g h);
}

module _ (base : List (List (List ℕ × ℕ))) (before : List Shape) (shape : Shape) where
  abbrev first : ℕ
  first = length base

  place-closed : opens shape ≡ false → (item : ℕ) → scope_place first (shape ∷ before) item ≡ scope_place first before item
  place-closed closed item = ap (λ o. if o && shape.item == item then first + openings before else scope_place first before item) closed

  module _ (t : NameTable) (opened : ItemPlaces) (scopes : List (List (List ℕ × ℕ))) (is : IsOpened t base before opened scopes) where
    pub open-none : opens shape ≡ false → IsOpened t base (shape ∷ before) opened scopes
    open-none closed = record {
      begins = is.begins;
      places = λ item. is.places item ∙ sym (place-closed closed item);
      all = λ later g. is.all later g ∙ ap (λ (xs : List (List (List ℕ × ℕ))). base ++ xs)
          (sym (ap (λ o. scopes_in later before ++ (if o then bound later shape.bindings (scope_of later before shape.above) ∷ [] else [])) closed ∙ append-nil (scopes_in later before)));
    }

    pub place-none : opens shape ≡ false → opened_place opened shape.above ≡ scope_place first (shape ∷ before) (nearest shape.above shape.item shape.bindings)
    place-none closed = is.places shape.above ∙ sym (place-closed closed shape.above)
        ∙ ap (λ n. scope_place first (shape ∷ before) n) (sym (nearest-none shape.above shape.item shape.bindings closed))

    long : length scopes ≡ first + openings before
    long = ap length (is.all t (Grown-refl t)) ∙ length-append base (scopes_in t before) ∙ ap (λ n. first + n) (length-scopes_in t before)

    pub place-some : opens shape ≡ true → length scopes ≡ scope_place first (shape ∷ before) (nearest shape.above shape.item shape.bindings)
    place-some some =
        let self : (shape.item == shape.item) ≡ true = eq-eqb shape.item shape.item refl in
        long
        ∙ (λ j. if sym some j && sym self j then first + openings before else scope_place first before shape.item)
        ∙ ap (λ n. scope_place first (shape ∷ before) n) (sym (nearest-some shape.above shape.item shape.bindings some))

    pub open-some : (u : NameTable) (new : ItemPlaces) (place : ℕ) (scope : List (List ℕ × ℕ)) → Grown t u → opens shape ≡ true → place ≡ length scopes
        → IsLasting u (λ later. bound later shape.bindings (scope_at scopes (opened_place opened shape.above))) scope
        → ((other : ℕ) → found new other ≡ (if shape.item == other then Some place else found opened other))
        → IsOpened u base (shape ∷ before) new (scopes ++ scope ∷ [])
    open-some u new place scope g some at made put =
        let back : true ≡ opens shape = sym some in
        record {
          begins = is.begins;
          places = λ item.
              ap (λ (o : Option ℕ). unwrap_or o 0) (put item) ∙ put-place (shape.item == item) place (found opened item)
              ∙ (λ j. if back j && shape.item == item then (at ∙ long) j else is.places item j);
          all = λ later h.
              let there = is.all later (Grown-trans t u later g h) in
              let above : scope_at scopes (opened_place opened shape.above) ≡ scope_of later before shape.above =
              (λ j. scope_at (there j) (is.places shape.above j)) ∙ scope_at-place later base is.begins before shape.above in
              let own = bound later shape.bindings (scope_of later before shape.above) in
              (λ j. there j ++ (made later h ∙ ap (λ (s : List (List ℕ × ℕ)). bound later shape.bindings s) above) j ∷ [])
              ∙ append_assoc base (scopes_in later before) (own ∷ [])
              ∙ ap (λ o. base ++ (scopes_in later before ++ (if o then own ∷ [] else []))) (sym some);
        }
