-- What governs an element whose attributes are others, where it is a child.
use Rattle.std.proofs.Common.{◌≡◌, ◌⊎◌, ℕ, ◌==◌, List, [], ◌∷◌, map, Bool, true, false, Option, None, Some, refl, sym, ap, ◌∙◌, subst, inl, inr}
use Rattle.std.specs.Prelude.{slice_get, if◌then◌else◌}
use Rattle.std.proofs.lemmas.Option.{none-some, same_Some, slice_get-map}
use Rattle.std.specs.Option.{option_map}
use Rattle.xs_names.specs.Names.{NameTable}
use Rattle.tree_rows.specs.Forest.{Forest, none, text, element, Document}
use Rattle.tree_rows.specs.declared.name.Expanded.{Expanded}
use Rattle.tree_rows.specs.declared.row.Attribute.{Attribute}
use Rattle.tree_rows.specs.declared.row.Binding.{Binding}
use Rattle.tree_edits.specs.Changes.{with_attributes}
use Rattle.tree_edits.specs.Edits.{append, has, replaced}
use Rattle.assess_records.specs.Numbered.{name_in}
use Rattle.assessment.specs.Local.{AreRead, HasElement, element_numbers}
use Rattle.doc_nodes.specs.Nodes.{Nodes}
use Rattle.doc_changes.specs.Stands.{StandsFor}
use Rattle.doc_changes.specs.Readers.{name_at}
use Rattle.doc_readers.specs.Heads.{readers_of}
use Rattle.doc_readers.proofs.Showing.{name_shown}
use Rattle.kept_changes.proofs.from_kept_records.Nodes.{shown}

-- the names of the elements among siblings
abbrev pub names_in : NameTable → Forest → List ℕ
names_in t none = []
names_in t (text n chars next) = names_in t next
names_in t (element n name bindings attributes children next) = name_in t name ∷ names_in t next

pub names-read : (t : NameTable) (ns : Nodes) (d : Document) → StandsFor t ns d → (f : Forest) → AreRead (readers_of t ns) f → ((m : ℕ) → HasElement m f → HasElement m d.forest) →
    map (name_at ns) (element_numbers f) ≡ names_in t f
names-read t ns d z none r has = refl
names-read t ns d z (text n chars next) r has = names-read t ns d z next r has
names-read t ns d z (element n name bindings attributes children next) r has =
    let own : name_at ns n ≡ name_in t name =
    sym (ap (name_in t) (sym r.0.name_is) ∙ name_shown t ns d z n (shown t ns d.forest z.nodes n (has n (inl refl)))) in
    ap (λ (x : ℕ). x ∷ map (name_at ns) (element_numbers next)) own ∙ ap (λ (xs : List ℕ). name_in t name ∷ xs) (names-read t ns d z next r.2 (λ m h. has m (inr (inr h))))

module _ (key : ℕ) (change : List Attribute → List Attribute) where
  abbrev changed : Forest → Forest
  changed f = replaced key (with_attributes change) f

  numbers-by : (n : ℕ) (name : Expanded) (bindings : List Binding) (attributes : List Attribute) (children next : Forest) (b x : Bool) → element_numbers (changed next) ≡ element_numbers next →
      element_numbers (if b then append (with_attributes change (element n name bindings attributes children none)) next
      else (if x then element n name bindings attributes (changed children) next else element n name bindings attributes children (changed next))) ≡ n ∷ element_numbers next
  numbers-by n name bindings attributes children next true x r = refl
  numbers-by n name bindings attributes children next false true r = refl
  numbers-by n name bindings attributes children next false false r = ap (λ (xs : List ℕ). n ∷ xs) r

  text-numbers : (n : ℕ) (chars : List ℕ) (next : Forest) (b : Bool) → element_numbers (changed next) ≡ element_numbers next →
      element_numbers (if b then append (with_attributes change (text n chars none)) next else text n chars (changed next)) ≡ element_numbers next
  text-numbers n chars next true r = refl
  text-numbers n chars next false r = r

  pub attributed-numbers : (f : Forest) → element_numbers (changed f) ≡ element_numbers f
  attributed-numbers none = refl
  attributed-numbers (text n chars next) = text-numbers n chars next (n == key) (attributed-numbers next)
  attributed-numbers (element n name bindings attributes children next) = numbers-by n name bindings attributes children next (n == key) (has key children) (attributed-numbers next)

  module _ (t : NameTable) where
    names-by : (n : ℕ) (name : Expanded) (bindings : List Binding) (attributes : List Attribute) (children next : Forest) (b x : Bool) → names_in t (changed next) ≡ names_in t next →
        names_in t (if b then append (with_attributes change (element n name bindings attributes children none)) next
        else (if x then element n name bindings attributes (changed children) next else element n name bindings attributes children (changed next))) ≡ name_in t name ∷ names_in t next
    names-by n name bindings attributes children next true x r = refl
    names-by n name bindings attributes children next false true r = refl
    names-by n name bindings attributes children next false false r = ap (λ (xs : List ℕ). name_in t name ∷ xs) r

    text-names : (n : ℕ) (chars : List ℕ) (next : Forest) (b : Bool) → names_in t (changed next) ≡ names_in t next →
        names_in t (if b then append (with_attributes change (text n chars none)) next else text n chars (changed next)) ≡ names_in t next
    text-names n chars next true r = refl
    text-names n chars next false r = r

    pub attributed-names : (f : Forest) → names_in t (changed f) ≡ names_in t f
    attributed-names none = refl
    attributed-names (text n chars next) = text-names n chars next (n == key) (attributed-names next)
    attributed-names (element n name bindings attributes children next) = names-by n name bindings attributes children next (n == key) (has key children) (attributed-names next)

-- what two lists come to alike is alike at each place
pub at-place : (f g : ℕ → ℕ) (xs : List ℕ) (i x : ℕ) → map f xs ≡ map g xs → slice_get xs i ≡ Some x → f x ≡ g x
at-place f g xs i x e there =
    same_Some (f x) (g x) (sym (slice_get-map f xs i ∙ ap (option_map f) there) ∙ ap (λ (ys : List ℕ). slice_get ys i) e ∙ (slice_get-map g xs i ∙ ap (option_map g) there))
