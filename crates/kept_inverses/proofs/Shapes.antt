-- What elements a forest has where a node of it is changed.
use Rattle.std.proofs.Common.{◌≡◌, ◌⊎◌, ℕ, ◌+◌, ◌≤◌, ◌==◌, List, [], ◌∷◌, Bool, true, false, Option, None, Some, refl, sym, ap, ◌∙◌, subst, inl, inr, arith}
use Rattle.std.specs.Prelude.{if◌then◌else◌}
use Rattle.std.specs.Option.{option_or}
use Rattle.tree_rows.specs.Forest.{Forest, none, text, element, Document}
use Rattle.tree_rows.specs.declared.name.Expanded.{Expanded}
use Rattle.tree_rows.specs.declared.row.Attribute.{Attribute}
use Rattle.tree_rows.specs.declared.row.Binding.{Binding}
use Rattle.tree_edits.specs.Changes.{with_name, with_attributes}
use Rattle.tree_edits.specs.Edits.{Found, append, has, replaced, width}
use Rattle.tree_edits.proofs.Lying.{Lies}
use Rattle.assessment.specs.Local.{HasElement}
use Rattle.xs_names.specs.Names.{NameTable}
use Rattle.edit_budgets.specs.Lists as budget
use Rattle.doc_nodes.specs.Nodes.{Nodes, node}
use Rattle.doc_changes.specs.Held.{parent_at}
use Rattle.doc_changes.specs.Stands.{StandFor, StandsFor}
use Rattle.doc_tree.specs.Readers.{parent_in}
use Rattle.doc_tree.proofs.Answering.{parent_is}
use Rattle.kept_inverses.proofs.Paths.{IsFirst, has-parent, no-parent}

has-parts : (m : ℕ) (f g : Forest) → HasElement m (append f g) → HasElement m f ⊎ HasElement m g
has-parts m none g h = inr h
has-parts m (text n chars next) g h = has-parts m next g h
has-parts m (element n name bindings attributes children next) g (inl e) = inl (inl e)
has-parts m (element n name bindings attributes children next) g (inr (inl h)) = inl (inr (inl h))
has-parts m (element n name bindings attributes children next) g (inr (inr h)) = elim (has-parts m next g h) [ inl own ↦ inl (inr (inr own)) | inr later ↦ inr later ]

-- it has the elements that it had, where the node has
module _ (key : ℕ) (change : Forest → Forest) (few : (node : Forest) (m : ℕ) → HasElement m (change node) → HasElement m node) where
  text-elements : (n : ℕ) (chars : List ℕ) (next : Forest) (m : ℕ) (b : Bool) → (HasElement m (replaced key change next) → HasElement m next) →
      HasElement m (if b then append (change (text n chars none)) next else text n chars (replaced key change next)) → HasElement m next
  text-elements n chars next m true on h = elim (has-parts m (change (text n chars none)) next h) [ inl own ↦ absurd (few (text n chars none) m own) | inr later ↦ later ]
  text-elements n chars next m false on h = on h

  element-elements : (n : ℕ) (name : Expanded) (bindings : List Binding) (attributes : List Attribute) (children next : Forest) (m : ℕ) (b x : Bool) →
      (HasElement m (replaced key change children) → HasElement m children) → (HasElement m (replaced key change next) → HasElement m next) →
      HasElement m (if b then append (change (element n name bindings attributes children none)) next
      else (if x then element n name bindings attributes (replaced key change children) next else element n name bindings attributes children (replaced key change next))) →
      HasElement m (element n name bindings attributes children next)
  element-elements n name bindings attributes children next m true x below later h = elim (has-parts m (change (element n name bindings attributes children none)) next h) [
    | inl own ↦ elim (few (element n name bindings attributes children none) m own) [
      | inl e ↦ inl e
      | inr more ↦ elim more [ inl k ↦ inr (inl k) | inr k ↦ absurd k ]
    ]
    | inr k ↦ inr (inr k)
  ]
  element-elements n name bindings attributes children next m false true below later (inl e) = inl e
  element-elements n name bindings attributes children next m false true below later (inr (inl h)) = inr (inl (below h))
  element-elements n name bindings attributes children next m false true below later (inr (inr h)) = inr (inr h)
  element-elements n name bindings attributes children next m false false below later (inl e) = inl e
  element-elements n name bindings attributes children next m false false below later (inr (inl h)) = inr (inl h)
  element-elements n name bindings attributes children next m false false below later (inr (inr h)) = inr (inr (later h))

  pub replaced-elements : (f : Forest) (m : ℕ) → HasElement m (replaced key change f) → HasElement m f
  replaced-elements none m h = h
  replaced-elements (text n chars next) m h = text-elements n chars next m (n == key) (replaced-elements next m) h
  replaced-elements (element n name bindings attributes children next) m h =
      element-elements n name bindings attributes children next m (n == key) (has key children) (replaced-elements children m) (replaced-elements next m) h

pub named-elements : (name : Expanded) (node : Forest) (m : ℕ) → HasElement m (with_name name node) → HasElement m node
named-elements own none m h = h
named-elements own (text n chars next) m h = h
named-elements own (element n name bindings attributes children next) m h = h

pub attributed-elements : (change : List Attribute → List Attribute) (node : Forest) (m : ℕ) → HasElement m (with_attributes change node) → HasElement m node
attributed-elements change none m h = h
attributed-elements change (text n chars next) m h = h
attributed-elements change (element n name bindings attributes children next) m h = h

pub gone-elements : (own : Forest) (m : ℕ) → HasElement m none → HasElement m own
gone-elements own m h = absurd h

-- an element whose attributes are others is there
module _ (key : ℕ) (change : List Attribute → List Attribute) where
  text-there : (n : ℕ) (chars : List ℕ) (next : Forest) (b : Bool) → (HasElement key next → HasElement key (replaced key (with_attributes change) next)) → HasElement key next →
      HasElement key (if b then append (with_attributes change (text n chars none)) next else text n chars (replaced key (with_attributes change) next))
  text-there n chars next true on h = h
  text-there n chars next false on h = on h

  element-there : (n : ℕ) (name : Expanded) (bindings : List Binding) (attributes : List Attribute) (children next : Forest) (b x : Bool) →
      (HasElement key children → HasElement key (replaced key (with_attributes change) children)) → (HasElement key next → HasElement key (replaced key (with_attributes change) next)) →
      HasElement key (element n name bindings attributes children next) →
      HasElement key (if b then append (with_attributes change (element n name bindings attributes children none)) next
      else (if x then element n name bindings attributes (replaced key (with_attributes change) children) next else element n name bindings attributes children (replaced key (with_attributes change) next)))
  element-there n name bindings attributes children next true x below later h = h
  element-there n name bindings attributes children next false true below later (inl e) = inl e
  element-there n name bindings attributes children next false true below later (inr (inl h)) = inr (inl (below h))
  element-there n name bindings attributes children next false true below later (inr (inr h)) = inr (inr h)
  element-there n name bindings attributes children next false false below later (inl e) = inl e
  element-there n name bindings attributes children next false false below later (inr (inl h)) = inr (inl h)
  element-there n name bindings attributes children next false false below later (inr (inr h)) = inr (inr (later h))

  pub changed-element : (f : Forest) → HasElement key f → HasElement key (replaced key (with_attributes change) f)
  changed-element none h = h
  changed-element (text n chars next) h = text-there n chars next (n == key) (changed-element next) h
  changed-element (element n name bindings attributes children next) h =
      element-there n name bindings attributes children next (n == key) (has key children) (changed-element children) (changed-element next) h

-- ---- the parent of a node, by its number and by the tree

module _ (key : ℕ) (change : Forest → Forest) where
  parent-by : (n : ℕ) (children next : Forest) (par : Option ℕ) (b x : Bool) → has key children ≡ x → parent_in (Some n) key children ≡ budget.parent_in key (Some n) children →
      parent_in par key next ≡ budget.parent_in key par next → (if b then par else (if x then parent_in (Some n) key children else parent_in par key next)) ≡
      (if b then par else option_or (budget.parent_in key (Some n) children) (budget.parent_in key par next))
  parent-by n children next par true x e below later = refl
  parent-by n children next par false true e below later =
      let there = has-parent key change children n e in
      below ∙ there.1 ∙ sym (ap (λ (o : Option ℕ). option_or o (budget.parent_in key par next)) there.1)
  parent-by n children next par false false e below later =
      later ∙ sym (ap (λ (o : Option ℕ). option_or o (budget.parent_in key par next)) (no-parent key change children (Some n) e))

  parent-same : (f : Forest) (par : Option ℕ) → parent_in par key f ≡ budget.parent_in key par f
  parent-same none par = refl
  parent-same (text n chars next) par = ap (λ (o : Option ℕ). if n == key then par else o) (parent-same next par)
  parent-same (element n name bindings attributes children next) par =
      parent-by n children next par (n == key) (has key children) refl (parent-same children (Some n)) (parent-same next par)

  pub parent-found : (t : NameTable) (ns : Nodes) (d : Document) → StandsFor t ns d → budget.parent_in key None d.forest ≡ parent_at ns key
  parent-found t ns d z = sym (parent_is t ns d z key z.links (λ it is. (z.root it is).0) (node ns key) refl ∙ parent-same d.forest None)

  -- a sibling that goes makes them one fewer
  pub gone-width : (f : Forest) → IsFirst key f → width (replaced key (λ node. none) f) + 1 ≡ width f
  gone-width none h = absurd h
  gone-width (text n chars next) (inl e) = rw e (omega arith)
  gone-width (text n chars next) (inr h) = let r = gone-width next h.1 in rw h.0 (omega (arith, r))
  gone-width (element n name bindings attributes children next) (inl e) = rw e (omega arith)
  gone-width (element n name bindings attributes children next) (inr h) = let r = gone-width next h.2 in rw (h.0, h.1) (omega (arith, r))
