-- The automata of types, one type after another.
use Rattle.std.proofs.Common.{◌≡◌, ◌≢◌, ◌⊎◌, inl, inr, ℕ, suc, ◌+◌, ◌*◌, ◌<◌, ◌≤◌, true, false, List, [], ◌∷◌, ◌++◌, Option, None, Some, length, take, get_or, refl, sym, ◌∙◌, subst, ap, arith}
use Rattle.std.specs.Prelude.{Contains, IfSome, slice_set}
use Rattle.std.specs.List.{sum_by}
use Rattle.std.specs.declared.cmp.Ordering.TheVariants.{Less, Greater}
use Rattle.std.proofs.lemmas.Bool.{cases_eq, cases_lt, false≢true}
use Rattle.std.proofs.lemmas.List.{length-set, get_or_past, get_or-set_same, get_or-set_other, take_more, take_all}
use Rattle.std.proofs.lemmas.List.Sums.{sum_by-cons, sum_by-set}
use Rattle.std.proofs.lemmas.List.Elements.{All-contains, All-get_or, Contains-append_left, Contains-push, Contains-push_cases}
use Rattle.std.proofs.lemmas.Option.{none-some, same_Some}
use Rattle.xs_codes.specs.declared.code.Code.{Code}
use Rattle.xs_codes.specs.declared.code.Code.TheVariants.{XLimitTable}
use Rattle.xs_codes.specs.declared.fault.Fault.{Fault}
use Rattle.xs_codes.specs.Codes.{order_of}
use Rattle.xs_codes.specs.Least.{place_in, sooner, is_before}
use Rattle.xs_names.specs.Names.{NameTable}
use Rattle.xs_components.specs.Tables.{Tables}
use Rattle.particle_models.specs.Unrolled.{positions_of}
use Rattle.particle_forms.specs.Models.{model_of}
use Rattle.content_automaton.specs.Symbols.{count_of}
use Rattle.content_models.specs.Built.{IsStateTotal, IsBuilt, HasRoom, IsRefused, states_of, cells_of}
use Rattle.content_models.specs.declared.automaton.ContentAutomaton.{ContentAutomaton}
use Rattle.content_models.specs.declared.refused.ModelError.{ModelError}
use Rattle.content_models.specs.declared.refused.ModelError.TheVariants as errors
use Rattle.schema_models.specs.declared.fault.ModelFault.{ModelFault}
use Rattle.schema_models.specs.declared.fault.ModelFault.TheVariants.{TooManyPositions, TooManyStates, TableTooLarge, Inconsistent, Ambiguous}
use Rattle.schema_models.specs.SetModels.{place_of, by_place, content_of, type_fault, code_of, most_cells, IsCellCount, IsPastCells, IsBrokenOf, IsBrokenAt}
use Rattle.schema_models.specs.declared.filling.Progress.{Progress}
use Rattle.schema_models.specs.inside.Steps.{IsInOrder, is_elsewhere, model_at, AreNone, taken, IsKindOf, IsLimit, IsNotBefore, IsMade, AreMade, IsOverLimitAt, IsWithout, IsSoFar, IsFilled, IsNext, IsVisit}
use Rattle.schema_models.proofs.OrderLaws.{less-greater, not-less-itself, upto, before}
use Rattle.schema_models.proofs.UniqueLaws.{total-below}
use Rattle.schema_models.proofs.CellLaws.{count-some, count-none, count-made, cells-bounded, past-cells}
use Rattle.schema_models.proofs.PlaceLaws.{not-before-left, not-before-right, some-of, stays, sooner-some, one-type, one-place, later-place, limit-first}

none-at : (models : List (Option ContentAutomaton)) → AreNone models → (k : ℕ) → model_at models k ≡ None
none-at models none k = elim (cases_lt k (length models)) [ inl l ↦ none k l | inr l ↦ get_or_past models k None l ]

none-taken : (models : List (Option ContentAutomaton)) → AreNone models → sum_by taken models ≡ 0
none-taken [] none = refl
none-taken (m ∷ models) none =
    let head : taken m ≡ 0 = ap taken (none 0 (omega arith)) in
    let rest : sum_by taken models ≡ 0 = none-taken models (λ k l. none (suc k) (omega (arith, l))) in
    let a : sum_by taken (m ∷ models) ≡ taken m + sum_by taken models = sum_by-cons taken m models in
    omega (arith, head, rest, a)

module _ (names : NameTable) (t : Tables) (members : List (List ℕ)) (classes : List ℕ) where
  -- the first limit that was passed is that of some visited type
  abbrev IsOf : List ℕ → Fault → Type 0
  IsOf done f = (type : ℕ) × Contains done type × IsOverLimitAt names t members classes type f

  module _ (done : List ℕ) (type : ℕ) (models : List (Option ContentAutomaton)) (left : ℕ) (first : Option Fault) (s : IsSoFar names t members classes done models left first) (there : type < length t.complexes.parts)
      (earlier : (k : ℕ) → Contains done k → by_place t k type ≡ Less) (all-before : (k : ℕ) → k < length t.complexes.parts → by_place t k type ≢ Greater → Contains (done ++ type ∷ []) k) where
    more : (k : ℕ) → Contains done k → Contains (done ++ type ∷ []) k
    more k c = Contains-append_left done (type ∷ []) k c

    itself : Contains (done ++ type ∷ []) type
    itself = Contains-push done type

    not-yet : model_at models type ≡ None
    not-yet = elim (s.waiting type) [ inl c ↦ absurd (not-less-itself t type (earlier type c)) | inr e ↦ e ]

    later-none : (k : ℕ) → by_place t k type ≡ Greater → model_at models k ≡ None
    later-none k g = elim (s.waiting k) [ inl c ↦ absurd (less-greater (sym (earlier k c) ∙ g)) | inr e ↦ e ]

    apart : (k : ℕ) → Contains done k → k ≢ type
    apart k c same = not-less-itself t type (subst (λ j. by_place t j type ≡ Less) same (earlier k c))

    found-more : (r : Option Fault) → IfSome r (IsOf done) → IfSome r (IsOf (done ++ type ∷ []))
    found-more None is = tt
    found-more (Some f) (k, c, over) = (k, more k c, over)

    -- with this type
    extend : (new : List (Option ContentAutomaton)) (cells : ℕ) (r : Option Fault) → length new ≡ length t.complexes.parts → cells + sum_by taken new ≡ most_cells → AreMade names t members classes new →
        ((k : ℕ) → Contains (done ++ type ∷ []) k ⊎ (model_at new k ≡ None)) → IfSome r (IsOf (done ++ type ∷ [])) →
        ((k : ℕ) → Contains done k → (g : Fault) → IsOverLimitAt names t members classes k g → IsNotBefore r g) →
        ((g : Fault) → IsOverLimitAt names t members classes type g → IsNotBefore r g) →
        ((k : ℕ) → Contains done k → model_at new k ≡ None → IsWithout names t members classes r k) →
        (model_at new type ≡ None → IsWithout names t members classes r type) → IsSoFar names t members classes (done ++ type ∷ []) new cells r
    extend new cells r long sums made waits found limits own without alone = record {
      each = long;
      cells = sums;
      made = made;
      waiting = waits;
      found = found;
      limits = λ k c. elim (Contains-push_cases done type k c) [ inl old ↦ limits k old | inr same ↦ subst (λ j. (g : Fault) → IsOverLimitAt names t members classes j g → IsNotBefore r g) same own ];
      without = λ k c. elim (Contains-push_cases done type k c) [ inl old ↦ without k old | inr same ↦ subst (λ j. model_at new j ≡ None → IsWithout names t members classes r j) same alone ];
    }

    waits-same : (k : ℕ) → Contains (done ++ type ∷ []) k ⊎ (model_at models k ≡ None)
    waits-same k = elim (s.waiting k) [ inl c ↦ inl (more k c) | inr e ↦ inr e ]

    -- behind the place of the first limit
    elsewhere-behind : (r : Option Fault) → IfSome r (IsOf done) → is_elsewhere r (place_of t type) ≡ true → (g : Fault) → IsBrokenAt names t members classes type g → IsNotBefore r g
    elsewhere-behind None is e g b = absurd (false≢true e)
    elsewhere-behind (Some f) (k, c, over) e g b =
        subst (λ (x : Fault). is_before x f ≡ false) (sym b.4) (later-place t f k type (code_of b.1) (code_of over.1) over.4 (earlier k c) e)

    elsewhere-some : (r : Option Fault) → is_elsewhere r (place_of t type) ≡ true → r ≡ None → ⊥
    elsewhere-some None e n = false≢true e
    elsewhere-some (Some f) e n = none-some f (sym n)

    -- at its place
    here-behind : (r : Option Fault) → IfSome r (IsOf done) → is_elsewhere r (place_of t type) ≡ false → (r ≡ None → ⊥) → (c : Code) → order_of XLimitTable ≤ order_of c → IsNotBefore r (type_fault t type c)
    here-behind None is e some c l = absurd (some refl)
    here-behind (Some f) (k, c', over) e some c l =
        let a : place_in f.phase f.code ≤ order_of XLimitTable = subst (λ (x : Fault). place_in x.phase x.code ≤ order_of XLimitTable) (sym over.4) (limit-first over.1 over.5) in
        one-place t f type c e (omega (arith, a, l))

    pub skipped : is_elsewhere first (place_of t type) ≡ true → IsSoFar names t members classes (done ++ type ∷ []) models left first
    skipped e =
        extend models left first s.each s.cells s.made waits-same (found-more first s.found) s.limits
        (λ g over. elsewhere-behind first s.found e g (over.0, over.1, over.2, over.3, over.4)) s.without
        (λ none. inr (elsewhere-some first e, elsewhere-behind first s.found e))

    pub nothing : content_of t type ≡ None → IsSoFar names t members classes (done ++ type ∷ []) models left first
    nothing none =
        extend models left first s.each s.cells s.made waits-same (found-more first s.found) s.limits
        (λ g over. absurd (none-some over.0 (sym none ∙ over.2))) s.without (λ e. inl none)

    -- the cells of what was visited, where no limit was passed
    visited-count : first ≡ None → (k : ℕ) → Contains done k → IsCellCount names t members classes k (taken (model_at models k))
    visited-count none k c = by (model_at models k) refl
      where
        by : (m : Option ContentAutomaton) → model_at models k ≡ m → IsCellCount names t members classes k (taken m)
        by None e = count-none names t members classes k (elim (s.without k c e) [ inl n ↦ n | inr w ↦ absurd (w.0 none) ])
        by (Some a) e = count-made names t members classes k a (s.made k a e)

    module _ (p : ℕ) (content : content_of t type ≡ Some p) where
      of-p : (q : ℕ) (kind : ModelFault) → content_of t type ≡ Some q → IsBrokenOf names t members classes type q kind → IsBrokenOf names t members classes type p kind
      of-p q kind is b = subst (λ x. IsBrokenOf names t members classes type x kind) (same_Some q p (sym is ∙ content)) b

      -- a model within the other limits passes that of cells alone
      only-cells : (count : ℕ) → positions_of (model_of t p) ≤ 2048 → IsStateTotal names t members p count → count ≤ 2048 → (kind : ModelFault) → IsLimit kind → IsBrokenOf names t members classes type p kind → (kind ≡ TableTooLarge) × IsPastCells names t members classes type
      only-cells count few total l TooManyPositions is b = absurd (omega (arith, few, b))
      only-cells count few total l TooManyStates is b = absurd (total-below names t members p count total l b.1)
      only-cells count few total l TableTooLarge is b = (refl, b)
      only-cells count few total l Inconsistent is b = absurd is
      only-cells count few total l Ambiguous is b = absurd is

      module _ (here : is_elsewhere first (place_of t type) ≡ false) where
        module _ (a : ContentAutomaton) (built : IsBuilt names t members classes p a) (room : HasRoom names t members p left a) where
          abbrev new_models : List (Option ContentAutomaton)
          new_models = slice_set models type (Some a)

          inside : type < length models
          inside = subst (λ n. type < n) (sym s.each) there

          own-model : model_at new_models type ≡ Some a
          own-model = get_or-set_same models type (Some a) None inside

          other-model : (k : ℕ) → k ≢ type → model_at new_models k ≡ model_at models k
          other-model k differ = get_or-set_other models type k (Some a) None differ

          own-made : IsMade names t members classes type a
          own-made = record { p = p; content = content; built = built; states = room.1 }

          made-new : AreMade names t members classes new_models
          made-new k b e = elim (cases_eq k type) [
            | inl same ↦ subst (λ j. IsMade names t members classes j b) (sym same)
                (subst (IsMade names t members classes type) (same_Some a b (sym own-model ∙ subst (λ j. model_at new_models j ≡ Some b) same e)) own-made)
            | inr differ ↦ s.made k b (sym (other-model k differ) ∙ e)
          ]

          module _ (rest : ℕ) (rest-is : rest + cells_of a ≡ left) where
            cells-new : rest + sum_by taken new_models ≡ most_cells
            cells-new =
                let x : sum_by taken new_models + taken (model_at models type) ≡ sum_by taken models + cells_of a = sum_by-set taken models type (Some a) None inside in
                let y : taken (model_at models type) ≡ 0 = ap taken not-yet in
                let z = s.cells in
                omega (arith, x, y, z, rest-is)

            count-new : first ≡ None → (k : ℕ) → k < length t.complexes.parts → by_place t k type ≢ Greater → IsCellCount names t members classes k (taken (model_at new_models k))
            count-new none k l up = elim (Contains-push_cases done type k (all-before k l up)) [
              | inl c ↦ subst (λ m. IsCellCount names t members classes k (taken m)) (sym (other-model k (apart k c))) (visited-count none k c)
              | inr same ↦ subst (λ j. IsCellCount names t members classes j (taken (model_at new_models j))) same
                  (subst (λ m. IsCellCount names t members classes type (taken m)) (sym own-model) (count-made names t members classes type a own-made))
            ]

            not-past : first ≡ None → IsPastCells names t members classes type → ⊥
            not-past none past =
                let x : sum_by (λ n. n) past.0 ≤ sum_by taken new_models = cells-bounded names t members classes new_models (length-set models type (Some a) ∙ s.each) type past.0 (count-new none) past.1 in
                let y = cells-new in let z = past.2 in omega (arith, x, y, z)

            own-limits : (g : Fault) → IsOverLimitAt names t members classes type g → IsNotBefore first g
            own-limits g over =
                let c = only-cells (states_of a) room.0 room.1 room.2 over.1 over.5 (of-p over.0 over.1 over.2 over.3) in
                subst (IsNotBefore first) (sym (over.4 ∙ ap (λ kind. type_fault t type (code_of kind)) c.0)) (by first refl c.1)
              where
                by : (r : Option Fault) → first ≡ r → IsPastCells names t members classes type → IsNotBefore r (type_fault t type XLimitTable)
                by None e past = absurd (not-past e past)
                by (Some f) e past =
                    here-behind (Some f) (subst (λ r. IfSome r (IsOf done)) e s.found) (subst (λ r. is_elsewhere r (place_of t type) ≡ false) e here)
                    (λ n. none-some f (sym n)) XLimitTable (omega arith)

            pub put : IsSoFar names t members classes (done ++ type ∷ []) new_models rest first
            put =
                extend new_models rest first (length-set models type (Some a) ∙ s.each) cells-new made-new waits (found-more first s.found) s.limits own-limits
                (λ k c e. s.without k c (sym (other-model k (apart k c)) ∙ e)) (λ e. absurd (none-some a (sym e ∙ own-model)))
              where
                waits : (k : ℕ) → Contains (done ++ type ∷ []) k ⊎ (model_at new_models k ≡ None)
                waits k = elim (cases_eq k type) [
                  | inl same ↦ inl (subst (Contains (done ++ type ∷ [])) (sym same) itself)
                  | inr differ ↦ elim (s.waiting k) [ inl c ↦ inl (more k c) | inr e ↦ inr (other-model k differ ∙ e) ]
                ]

        -- what is refused, is refused for the first code of the type
        least-kind : (error : ModelError) (kind : ModelFault) → IsRefused names t members classes p left error → IsKindOf error kind → (other : ModelFault) → IsBrokenOf names t members classes type p other → order_of (code_of kind) ≤ order_of (code_of other)
        least-kind errors.TooManyPositions kind r is other b = subst (λ k. order_of (code_of k) ≤ order_of (code_of other)) (sym is) (any other)
          where
            any : (o : ModelFault) → order_of (code_of TooManyPositions) ≤ order_of (code_of o)
            any TooManyPositions = omega arith
            any TooManyStates = omega arith
            any TableTooLarge = omega arith
            any Inconsistent = omega arith
            any Ambiguous = omega arith
        least-kind errors.TooManyStates kind r is other b = subst (λ k. order_of (code_of k) ≤ order_of (code_of other)) (sym is) (any other b)
          where
            any : (o : ModelFault) → IsBrokenOf names t members classes type p o → order_of (code_of TooManyStates) ≤ order_of (code_of o)
            any TooManyPositions b = let few = r.0 in absurd (omega (arith, few, b))
            any TooManyStates b = omega arith
            any TableTooLarge b = omega arith
            any Inconsistent b = omega arith
            any Ambiguous b = omega arith
        least-kind errors.TableTooLarge kind r is other b = subst (λ k. order_of (code_of k) ≤ order_of (code_of other)) (sym is) (any other b)
          where
            any : (o : ModelFault) → IsBrokenOf names t members classes type p o → order_of (code_of TableTooLarge) ≤ order_of (code_of o)
            any TooManyPositions b = let few = r.0 in absurd (omega (arith, few, b))
            any TooManyStates b = absurd (total-below names t members p r.1 r.3 r.5 b.1)
            any TableTooLarge b = omega arith
            any Inconsistent b = omega arith
            any Ambiguous b = omega arith

        -- a table that is too large for the cells that are left
        past : (r : IsRefused names t members classes p left errors.TableTooLarge) → first ≡ None → IsPastCells names t members classes type
        past (few, count, symbols, total, are, l, many) none =
            past-cells names t members classes models s.each type (count * count_of symbols) there not-yet
            (λ k l' differ up. elim (Contains-push_cases done type k (all-before k l' up)) [ inl c ↦ visited-count none k c | inr same ↦ absurd (differ (sym same)) ])
            later-none (count-some names t members classes type p (count * count_of symbols) content (count, symbols, total, are, refl)) (let z = s.cells in omega (arith, z, many))

        found-refused : (error : ModelError) (kind : ModelFault) → IsRefused names t members classes p left error → IsKindOf error kind → (r : Option Fault) → first ≡ r → IfSome (sooner r (Some (type_fault t type (code_of kind)))) (IsOf (done ++ type ∷ []))
        found-refused errors.TooManyPositions kind refused is r e =
            some-of (IsOf (done ++ type ∷ [])) r (Some (type_fault t type (code_of kind))) (found-more r (subst (λ x. IfSome x (IsOf done)) e s.found))
            (type, itself, (p, kind, content, subst (IsBrokenOf names t members classes type p) (sym is) refused, refl, subst IsLimit (sym is) tt))
        found-refused errors.TooManyStates kind refused is r e =
            some-of (IsOf (done ++ type ∷ [])) r (Some (type_fault t type (code_of kind))) (found-more r (subst (λ x. IfSome x (IsOf done)) e s.found))
            (type, itself, (p, kind, content, subst (IsBrokenOf names t members classes type p) (sym is) refused, refl, subst IsLimit (sym is) tt))
        found-refused errors.TableTooLarge kind refused is None e =
            (type, itself, (p, kind, content, subst (IsBrokenOf names t members classes type p) (sym is) (past refused e), refl, subst IsLimit (sym is) tt))
        found-refused errors.TableTooLarge kind refused is (Some f) e =
            let found : IfSome (Some f) (IsOf done) = subst (λ x. IfSome x (IsOf done)) e s.found in
            let behind : is_before (type_fault t type XLimitTable) f ≡ false = here-behind (Some f) found (subst (λ r. is_elsewhere r (place_of t type) ≡ false) e here) (λ n. none-some f (sym n)) XLimitTable (omega arith) in
            subst (λ x. IfSome x (IsOf (done ++ type ∷ []))) (sym (stays f (type_fault t type (code_of kind)) (subst (λ k. is_before (type_fault t type (code_of k)) f ≡ false) (sym is) behind)))
            (found-more (Some f) found)

        module _ (error : ModelError) (kind : ModelFault) (refused : IsRefused names t members classes p left error) (is : IsKindOf error kind) where
          abbrev fault : Fault
          fault = type_fault t type (code_of kind)

          own-behind : (g : Fault) → IsBrokenAt names t members classes type g → IsNotBefore (sooner first (Some fault)) g
          own-behind g b =
              not-before-right first (Some fault) g
              (subst (λ (x : Fault). is_before x fault ≡ false) (sym b.4) (one-type t type (code_of b.1) (code_of kind) (least-kind error kind refused is b.1 (of-p b.0 b.1 b.2 b.3))))

          pub refuse : IsSoFar names t members classes (done ++ type ∷ []) models left (sooner first (Some fault))
          refuse =
              extend models left (sooner first (Some fault)) s.each s.cells s.made waits-same (found-refused error kind refused is first refl)
              (λ k c g over. not-before-left first (Some fault) g (s.limits k c g over))
              (λ g over. own-behind g (over.0, over.1, over.2, over.3, over.4))
              (λ k c e. elim (s.without k c e) [ inl none ↦ inl none | inr w ↦ inr (sooner-some first fault, λ g b. not-before-left first (Some fault) g (w.1 g b)) ])
              (λ e. inr (sooner-some first fault, own-behind))

    next : (p : ℕ) (progress after : Progress) (new : List (Option ContentAutomaton)) → progress.cells_left ≡ left → progress.first ≡ first → content_of t type ≡ Some p → is_elsewhere first (place_of t type) ≡ false → IsNext names t members classes type p models progress new after → IsSoFar names t members classes (done ++ type ∷ []) new after.cells_left after.first
    next p progress after new l f content here (inl (a, built, room, new-is, rest, first-is)) =
        subst (λ r. IsSoFar names t members classes (done ++ type ∷ []) new after.cells_left r) (sym (first-is ∙ f))
        (subst (λ ms. IsSoFar names t members classes (done ++ type ∷ []) ms after.cells_left first) (sym new-is)
        (put p content here a built (subst (λ n. HasRoom names t members p n a) l room) after.cells_left (rest ∙ l)))
    next p progress after new l f content here (inr (error, kind, refused, is, new-is, rest, first-is)) =
        subst (λ r. IsSoFar names t members classes (done ++ type ∷ []) new after.cells_left r) (sym (first-is ∙ ap (λ x. sooner x (Some (type_fault t type (code_of kind)))) f))
        (subst (λ ms. IsSoFar names t members classes (done ++ type ∷ []) ms after.cells_left (sooner first (Some (type_fault t type (code_of kind))))) (sym new-is)
        (subst (λ n. IsSoFar names t members classes (done ++ type ∷ []) models n (sooner first (Some (type_fault t type (code_of kind))))) (sym (rest ∙ l))
        (refuse p content here error kind (subst (λ n. IsRefused names t members classes p n error) l refused) is)))

  module _ (order : List ℕ) (all : IsInOrder t order) where
    -- with the next type
    pub visited : (i type : ℕ) (models new : List (Option ContentAutomaton)) (progress after : Progress) → i < length order → type ≡ get_or order i type →
        IsSoFar names t members classes (take i order) models progress.cells_left progress.first → IsVisit names t members classes type models progress new after → IsSoFar names t members classes (take (i + 1) order) new after.cells_left after.first
    visited i type models new progress after l is s visit =
        subst (λ done. IsSoFar names t members classes done new after.cells_left after.first) (ap (λ x. take i order ++ x ∷ []) is ∙ sym (take_more order i type l)) (by visit)
      where
        there : type < length t.complexes.parts
        there = subst (λ k. k < length t.complexes.parts) (sym is) (All-get_or (λ k. k < length t.complexes.parts) order i type l all.there)

        earlier : (k : ℕ) → Contains (take i order) k → by_place t k type ≡ Less
        earlier k c = before t order i type k all l is c

        up : (k : ℕ) → k < length t.complexes.parts → by_place t k type ≢ Greater → Contains (take i order ++ type ∷ []) k
        up k below not-after =
            let e : suc i ≡ i + 1 = omega arith in
            subst (λ done. Contains done k) (take_more order i type l ∙ ap (λ x. take i order ++ x ∷ []) (sym is))
            (subst (λ n. Contains (take n order) k) e (upto t order i type k all l is below not-after))

        by : IsVisit names t members classes type models progress new after → IsSoFar names t members classes (take i order ++ type ∷ []) new after.cells_left after.first
        by (inl (e, same, kept)) =
            subst (λ ms. IsSoFar names t members classes (take i order ++ type ∷ []) ms after.cells_left after.first) (sym same)
            (subst (λ (q : Progress). IsSoFar names t members classes (take i order ++ type ∷ []) models q.cells_left q.first) (sym kept)
            (skipped (take i order) type models progress.cells_left progress.first s there earlier up e))
        by (inr (e, inl (none, same, kept))) =
            subst (λ ms. IsSoFar names t members classes (take i order ++ type ∷ []) ms after.cells_left after.first) (sym same)
            (subst (λ (q : Progress). IsSoFar names t members classes (take i order ++ type ∷ []) models q.cells_left q.first) (sym kept)
            (nothing (take i order) type models progress.cells_left progress.first s there earlier up none))
        by (inr (e, inr (p, content, step))) = next (take i order) type models progress.cells_left progress.first s there earlier up p progress after new refl refl content e step

    pub begins : (models : List (Option ContentAutomaton)) → length models ≡ length t.complexes.parts → AreNone models → IsSoFar names t members classes (take 0 order) models most_cells None
    begins models each none = record {
      each = each;
      cells = let z = none-taken models none in omega (arith, z);
      made = λ type a e. absurd (none-some a (sym (none-at models none type) ∙ e));
      waiting = λ type. inr (none-at models none type);
      found = tt;
      limits = λ type c. absurd (omega (arith, c.1));
      without = λ type c. absurd (omega (arith, c.1));
    }

    pub ends : (i : ℕ) (models : List (Option ContentAutomaton)) (left : ℕ) (first : Option Fault) → length order ≤ i → IsSoFar names t members classes (take i order) models left first → IsFilled names t members classes models first
    ends i models left first l s = record {
      each = s.each;
      made = s.made;
      found = found first s.found;
      limits = λ type there. s.limits type (in-all type there);
      without = λ type there. s.without type (in-all type there);
    }
      where
        whole : take i order ≡ order
        whole = take_all i order l

        in-all : (type : ℕ) → type < length t.complexes.parts → Contains (take i order) type
        in-all type there = subst (λ xs. Contains xs type) (sym whole) (all.each type there)

        found : (r : Option Fault) → IfSome r (IsOf (take i order)) → IfSome r (λ f. (type : ℕ) × (type < length t.complexes.parts) × IsOverLimitAt names t members classes type f)
        found None is = tt
        found (Some f) (k, c, over) = (k, All-contains (λ type. type < length t.complexes.parts) order k all.there (subst (λ xs. Contains xs k) whole c), over)
