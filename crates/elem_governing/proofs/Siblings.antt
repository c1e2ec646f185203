-- One step along siblings.
use Rattle.std.proofs.Common.{◌≡◌, ℕ, ◌<◌, ◌≤◌, List, [], ◌∷◌, ◌++◌, length, refl, sym, ap, subst, ◌∙◌, arith, append_assoc, append-nil}
use Rattle.std.specs.Prelude.{All}
use Rattle.std.proofs.lemmas.List.Elements.{All-nil, All-cons}
use Rattle.xs_names.specs.Names.{NameTable}
use Rattle.tree_rows.specs.Forest.{Forest, none, text, element, count}
use Rattle.tree_rows.specs.Rows.{node}
use Rattle.tree_rows.specs.declared.name.Expanded.{Expanded}
use Rattle.tree_rows.specs.declared.row.Row.{Row}
use Rattle.tree_rows.specs.declared.row.Content.{Content}
use Rattle.tree_rows.specs.declared.row.Content.TheVariants as contents
use Rattle.assess_records.specs.Numbered.{Scope, heads, names_of, name_in, characters}
use Rattle.plain_tree.specs.Found.{HasName, HasNames}
use Rattle.plain_tree.proofs.Numbers.{name_within}

-- the names of the elements among siblings
abbrev pub names_in : NameTable → Forest → List ℕ
names_in t none = []
names_in t (text number chars next) = names_in t next
names_in t (element number name bindings attributes children next) = name_in t name ∷ names_in t next

pub names_are : (t : NameTable) (scope : Scope) (f : Forest) → names_in t f ≡ names_of (heads t scope f)
names_are t scope none = refl
names_are t scope (text number chars next) = names_are t scope next
names_are t scope (element number name bindings attributes children next) = ap (λ l. name_in t name ∷ l) (names_are t scope next)

names_known : (t : NameTable) (f : Forest) → HasNames t f → All (λ id. id < length t.names) (names_in t f)
names_known t none h = All-nil (λ id. id < length t.names)
names_known t (text number chars next) h = names_known t next h
names_known t (element number name bindings attributes children next) h =
    All-cons (λ id. id < length t.names) (name_in t name) (names_in t next) (name_within t name h.0.own) (names_known t next h.2)

-- where no sibling is left
pub ids_are : (t : NameTable) (f left : Forest) (ids : List ℕ) → left ≡ none → ids ++ names_in t left ≡ names_in t f → ids ≡ names_in t f
ids_are t f left ids e so_far = sym (append-nil ids) ∙ ap (λ l. ids ++ names_in t l) (sym e) ∙ so_far

pub ids_known : (t : NameTable) (f : Forest) (ids : List ℕ) → HasNames t f → ids ≡ names_in t f → All (λ id. id < length t.names) ids
ids_known t f ids h e = subst (All (λ id. id < length t.names)) (sym e) (names_known t f h)

-- ---- one step

module _ (t : NameTable) (left children next : Forest) (row : Row) (first : left ≡ node row.number row.content row.bindings row.attributes children next) where
  module _ (name : Expanded) (is : row.content ≡ contents.Element name) where
    here : left ≡ element row.number name row.bindings row.attributes children next
    here = first ∙ ap (λ c. node row.number c row.bindings row.attributes children next) is

    pub name_here : (u : NameTable) → u ≡ t → HasNames t left → HasName u name
    name_here u same h = subst (λ v. HasName v name) (sym same) (subst (HasNames t) here h).0.own

    pub names_next : HasNames t left → HasNames t next
    names_next h = (subst (HasNames t) here h).2

    pub name_more : (u : NameTable) (made new : List ℕ) (id : ℕ) → u ≡ t → id ≡ name_in u name → new ≡ made ++ id ∷ [] → new ++ names_in t next ≡ made ++ names_in t left
    name_more u made new id same e more =
        ap (λ l. l ++ names_in t next) more ∙ append_assoc made (id ∷ []) (names_in t next)
        ∙ ap (λ n. made ++ n ∷ names_in t next) (e ∙ ap (λ v. name_in v name) same) ∙ ap (λ f. made ++ names_in t f) (sym here)

    pub no_chars : characters next ≡ characters left
    no_chars = ap characters (sym here)

  module _ (chars : List ℕ) (is : row.content ≡ contents.Chars chars) where
    here_text : left ≡ text row.number chars next
    here_text = first ∙ ap (λ c. node row.number c row.bindings row.attributes children next) is

    pub names_behind : HasNames t left → HasNames t next
    names_behind h = subst (HasNames t) here_text h

    pub no_name : names_in t next ≡ names_in t left
    no_name = ap (names_in t) (sym here_text)

    pub more_chars : (made new : List ℕ) → new ≡ made ++ chars → new ++ characters next ≡ made ++ characters left
    more_chars made new more = ap (λ l. l ++ characters next) more ∙ append_assoc made chars (characters next) ∙ ap (λ f. made ++ characters f) (sym here_text)

  pub fewer : count next < count left
  fewer = subst (λ f. count next < count f) (sym first) (by row.content)
    where
      by : (c : Content) → count next < count (node row.number c row.bindings row.attributes children next)
      by (contents.Element name) = omega arith
      by (contents.Chars chars) = omega arith
