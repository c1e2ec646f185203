-- An element with all that is below it, apart from its next siblings.
use Rattle.std.proofs.Common.{◌≡◌, ◌⊎◌, ℕ, ◌+◌, ◌≤◌, ◌==◌, List, [], ◌∷◌, Bool, true, false, Option, None, Some, refl, sym, ap, ◌∙◌, subst, inl, inr, arith}
use Rattle.std.specs.Prelude.{if◌then◌else◌}
use Rattle.std.specs.Option.{option_or}
use Rattle.std.proofs.lemmas.Bool.{eqb-true}
use Rattle.std.proofs.lemmas.Option.{none-some}
use Rattle.xs_names.specs.Names.{NameTable}
use Rattle.tree_rows.specs.Forest.{Forest, none, text, element}
use Rattle.tree_rows.specs.Whole.{HasRoot}
use Rattle.tree_edits.specs.Edits.{has}
use Rattle.elem_governing.specs.declared.pairs.Governing.{Governing}
use Rattle.assessment.specs.Local.{HasElement}
use Rattle.assessment.specs.Local as local
use Rattle.assessment.proofs.Alike.{element-counts}
use Rattle.edit_budgets.specs.Budget as budget
use Rattle.edit_budgets.specs.Lists.{parent_in}
use Rattle.doc_nodes.specs.Nodes.{Nodes}
use Rattle.doc_changes.specs.Stands.{StandFor}
use Rattle.doc_changes.proofs.Standing.{present_times}
use Rattle.doc_changes.specs.Readers.{element_numbers}
use Rattle.kept_inverses.proofs.Paths.{has-parent}

pub numbers-same : (f : Forest) → element_numbers f ≡ local.element_numbers f
numbers-same none = refl
numbers-same (text n chars next) = numbers-same next
numbers-same (element n name bindings attributes children next) = ap (λ (xs : List ℕ). n ∷ xs) (numbers-same next)

module _ (key : ℕ) where
  abbrev pub own-at : (f : Forest) → HasElement key f → Forest
  own-at none h = none
  own-at (text n chars next) h = own-at next h
  own-at (element n name bindings attributes children next) (inl e) = element n name bindings attributes children none
  own-at (element n name bindings attributes children next) (inr (inl h)) = own-at children h
  own-at (element n name bindings attributes children next) (inr (inr h)) = own-at next h

  pub own-numbers : (f : Forest) (h : HasElement key f) → element_numbers (own-at f h) ≡ key ∷ []
  own-numbers none h = absurd h
  own-numbers (text n chars next) h = own-numbers next h
  own-numbers (element n name bindings attributes children next) (inl e) = ap (λ (m : ℕ). m ∷ []) e
  own-numbers (element n name bindings attributes children next) (inr (inl h)) = own-numbers children h
  own-numbers (element n name bindings attributes children next) (inr (inr h)) = own-numbers next h

  pub own-below : (f : Forest) (h : HasElement key f) (m : ℕ) → HasElement m (own-at f h) → HasElement m f
  own-below none h m k = absurd h
  own-below (text n chars next) h m k = own-below next h m k
  own-below (element n name bindings attributes children next) (inl e) m (inl k) = inl k
  own-below (element n name bindings attributes children next) (inl e) m (inr (inl k)) = inr (inl k)
  own-below (element n name bindings attributes children next) (inl e) m (inr (inr k)) = absurd k
  own-below (element n name bindings attributes children next) (inr (inl h)) m k = inr (inl (own-below children h m k))
  own-below (element n name bindings attributes children next) (inr (inr h)) m k = inr (inr (own-below next h m k))

  pub own-stand : (t : NameTable) (ns : Nodes) (f : Forest) (h : HasElement key f) → StandFor t ns f → StandFor t ns (own-at f h)
  own-stand t ns none h st = absurd h
  own-stand t ns (text n chars next) h st = own-stand t ns next h st.1
  own-stand t ns (element n name bindings attributes children next) (inl e) st = (st.0, st.1, tt)
  own-stand t ns (element n name bindings attributes children next) (inr (inl h)) st = own-stand t ns children h st.1
  own-stand t ns (element n name bindings attributes children next) (inr (inr h)) st = own-stand t ns next h st.2

  pub own-moved : (before : Forest) (old new : ℕ → Governing) (f : Forest) (h : HasElement key f) → budget.moved before old new (own-at f h) ≤ budget.moved before old new f
  own-moved before old new none h = absurd h
  own-moved before old new (text n chars next) h = let r = own-moved before old new next h in omega (arith, r)
  own-moved before old new (element n name bindings attributes children next) (inl e) = omega arith
  own-moved before old new (element n name bindings attributes children next) (inr (inl h)) = let r = own-moved before old new children h in omega (arith, r)
  own-moved before old new (element n name bindings attributes children next) (inr (inr h)) = let r = own-moved before old new next h in omega (arith, r)

  -- an element without a parent is the root
  no-below : (n : ℕ) (children : Forest) (more : Option ℕ) → option_or (parent_in key (Some n) children) more ≡ None → HasElement key children → ⊥
  no-below n children more up h =
      let there = has-parent key (λ x. x) children n (present_times key children (element-counts key children h)) in
      none-some there.0 (sym up ∙ ap (λ (o : Option ℕ). option_or o more) there.1)

  top-by : (n : ℕ) (children next : Forest) (b : Bool) → (n == key) ≡ b → next ≡ none → (if b then None else option_or (parent_in key (Some n) children) (parent_in key None next)) ≡ None →
      (n ≡ key) ⊎ (HasElement key children ⊎ HasElement key next) → n ≡ key
  top-by n children next b e alone up (inl same) = same
  top-by n children next b e alone up (inr (inr h)) = absurd (subst (HasElement key) alone h)
  top-by n children next true e alone up (inr (inl h)) = eqb-true n key e
  top-by n children next false e alone up (inr (inl h)) = absurd (no-below n children (parent_in key None next) up h)

  pub top-is : (f : Forest) → HasRoot f → parent_in key None f ≡ None → HasElement key f → key ≡ 1
  top-is none root up h = absurd h
  top-is (text n chars next) root up h = absurd root
  top-is (element n name bindings attributes children next) root up h = sym (top-by n children next (n == key) refl root.1 up h) ∙ root.0
