-- The table of names with those of a forest in which a node is changed.
use Rattle.std.proofs.Common.{◌≡◌, ◌⊎◌, inl, inr, ℕ, ◌+◌, ◌-◌, List, [], ◌∷◌, Bool, true, false, ◌==◌, if◌then◌else◌, sym, ap, ◌∙◌, subst, refl}
use Rattle.xs_names.specs.Names.{NameTable, Grown}
use Rattle.tree_rows.specs.Forest.{Forest, none, text, element, count}
use Rattle.tree_rows.specs.Naming.{same_name}
use Rattle.tree_rows.specs.declared.name.Expanded.{Expanded}
use Rattle.tree_rows.specs.declared.row.Attribute.{Attribute}
use Rattle.tree_rows.specs.declared.row.Binding.{Binding}
use Rattle.tree_edits.specs.Changes.{with_name, with_attributes as with_changed, set_in, unset_in}
use Rattle.tree_edits.specs.Edits.{append, insert_at, renumbered, Found, replaced, with_children, with_chars}
use Rattle.tree_edits.proofs.Keeping.{splits}
use Rattle.tree_edits.proofs.Lying.{Lies}
use Rattle.plain_tree.specs.Table.{with_expanded, with_bindings, with_attributes, with_tag, document_table}
use Rattle.plain_tree.specs.Found.{HasName, HasBindings, HasAttributes, HasTag, HasNames}
use Rattle.plain_tree.proofs.Tables.{grows_expanded, grows, names_kept, attributes_kept}
use Rattle.plain_tree.proofs.Staying.{expanded_stays, bindings_stay, attributes_stay, tag_stays, names_stay}

-- siblings one after the other
table-append : (t : NameTable) (f g : Forest) → document_table t (append f g) ≡ document_table (document_table t f) g
table-append t none g = refl
table-append t (text n chars next) g = table-append t next g
table-append t (element n name bindings attributes children next) g = table-append (document_table (with_tag t name bindings attributes) children) next g

names_parts : (t : NameTable) (f g : Forest) → HasNames t (append f g) → HasNames t f × HasNames t g
names_parts t none g h = (tt, h)
names_parts t (text n chars next) g h = names_parts t next g h
names_parts t (element n name bindings attributes children next) g h = let z = names_parts t next g h.2 in ((h.0, h.1, z.0), z.1)

-- new siblings before some whose names are there
table_before : (t : NameTable) (g next : Forest) → HasNames t next → document_table t (append g next) ≡ document_table t g
table_before t g next h = table-append t g next ∙ names_stay (document_table t g) next (names_kept t (document_table t g) (grows t g) next h)

table_inserted : (t : NameTable) (place : ℕ) (g f : Forest) → HasNames t f → document_table t (insert_at place g f) ≡ document_table t g
table_inserted t place g f h =
    let s = splits place g f in
    let z = names_parts t s.before s.after (subst (HasNames t) s.are h) in
    ap (document_table t) s.gives
    ∙ table-append t s.before (append g s.after)
    ∙ ap (λ u. document_table u (append g s.after)) (names_stay t s.before z.0)
    ∙ table_before t g s.after z.1

table_renumbered : (t : NameTable) (free : ℕ) (f : Forest) → document_table t (renumbered free f) ≡ document_table t f
table_renumbered t free none = refl
table_renumbered t free (text n chars next) = table_renumbered t (free + 1) next
table_renumbered t free (element n name bindings attributes children next) =
    ap (λ u. document_table u (renumbered (free + 1 + count children) next)) (table_renumbered (with_tag t name bindings attributes) (free + 1) children)
    ∙ table_renumbered (document_table (with_tag t name bindings attributes) children) (free + 1 + count children) next

-- the node of a number
pub names_lies : (t : NameTable) (key depth : ℕ) (f : Forest) (it : Found) → Lies key depth f it → HasNames t f → HasNames t it.node
names_lies t key depth none it l h = absurd l
names_lies t key depth (text n chars next) it (inl l) h = subst (λ (i : Found). HasNames t i.node) (sym l.1) tt
names_lies t key depth (text n chars next) it (inr l) h = names_lies t key depth next it l.1 h
names_lies t key depth (element n name bindings attributes children next) it (inl l) h = subst (λ (i : Found). HasNames t i.node) (sym l.1) (h.0, h.1, tt)
names_lies t key depth (element n name bindings attributes children next) it (inr (inl l)) h = names_lies t key (depth + 1) children it l.2 h.1
names_lies t key depth (element n name bindings attributes children next) it (inr (inr l)) h = names_lies t key depth next it l.2 h.2

pub table_replaced : (t : NameTable) (key depth : ℕ) (change : Forest → Forest) (f : Forest) (it : Found) → Lies key depth f it → HasNames t f
    → document_table t (replaced key change f) ≡ document_table t (change it.node)
table_replaced t key depth change none it l h = absurd l
table_replaced t key depth change (text n chars next) it (inl l) h =
    let q = l.0 in rw q (table_before t (change (text n chars none)) next h ∙ ap (λ (i : Found). document_table t (change i.node)) (sym l.1))
table_replaced t key depth change (text n chars next) it (inr l) h =
    let q = l.0 in rw q (table_replaced t key depth change next it l.1 h)
table_replaced t key depth change (element n name bindings attributes children next) it (inl l) h =
    let q = l.0 in rw q (table_before t (change (element n name bindings attributes children none)) next h.2 ∙ ap (λ (i : Found). document_table t (change i.node)) (sym l.1))
table_replaced t key depth change (element n name bindings attributes children next) it (inr (inl l)) h =
    let q = l.0 in let p = l.1 in
    let u : NameTable = document_table t (change it.node) in
    rw (q, p) (ap (λ v. document_table (document_table v (replaced key change children)) next) (tag_stays t name bindings attributes h.0)
    ∙ ap (λ v. document_table v next) (table_replaced t key (depth + 1) change children it l.2 h.1)
    ∙ names_stay u next (names_kept t u (grows t (change it.node)) next h.2))
table_replaced t key depth change (element n name bindings attributes children next) it (inr (inr l)) h =
    let q = l.0 in let p = l.1 in
    rw (q, p) (ap (λ v. document_table (document_table v children) (replaced key change next)) (tag_stays t name bindings attributes h.0)
    ∙ ap (λ v. document_table v (replaced key change next)) (names_stay t children h.1)
    ∙ table_replaced t key depth change next it l.2 h.2)

-- each change of an element
module _ (t : NameTable) (n : ℕ) (name : Expanded) (bindings : List Binding) (attributes : List Attribute) (children : Forest) (h : HasNames t (element n name bindings attributes children none)) where
  pub table_children : (place free : ℕ) (g : Forest) → document_table t (with_children place (renumbered free g) (element n name bindings attributes children none)) ≡ document_table t g
  table_children place free g =
      ap (λ u. document_table u (insert_at place (renumbered free g) children)) (tag_stays t name bindings attributes h.0)
      ∙ table_inserted t place (renumbered free g) children h.1
      ∙ table_renumbered t free g

  pub table_renamed : (own : Expanded) → document_table t (with_name own (element n name bindings attributes children none)) ≡ with_expanded t own
  table_renamed own =
      let u : NameTable = with_expanded t own in
      ap (λ v. document_table (with_attributes (with_expanded v own) attributes) children) (bindings_stay t bindings h.0.spaces)
      ∙ ap (λ v. document_table v children) (attributes_stay u attributes (attributes_kept t u (grows_expanded t own) attributes h.0.names))
      ∙ names_stay u children (names_kept t u (grows_expanded t own) children h.1)

  table_attributes : (more : List Attribute) → document_table t (element n name bindings more children none) ≡ document_table (with_attributes t more) children
  table_attributes more =
      ap (λ v. document_table (with_attributes (with_expanded v name) more) children) (bindings_stay t bindings h.0.spaces)
      ∙ ap (λ v. document_table (with_attributes v more) children) (expanded_stays t name h.0.own)

  set_by : (own : Expanded) (value : List ℕ) (x : Attribute) (xs : List Attribute) → HasAttributes t (x ∷ xs) → with_attributes t (set_in own value xs) ≡ with_expanded t own → (b : Bool)
      → with_attributes t (if b then record { name = own; value = value } ∷ xs else x ∷ set_in own value xs) ≡ with_expanded t own
  set_by own value x xs a later true = attributes_stay (with_expanded t own) xs (attributes_kept t (with_expanded t own) (grows_expanded t own) xs a.1)
  set_by own value x xs a later false = ap (λ u. with_attributes u (set_in own value xs)) (expanded_stays t x.name a.0) ∙ later

  set_names : (own : Expanded) (value : List ℕ) (xs : List Attribute) → HasAttributes t xs → with_attributes t (set_in own value xs) ≡ with_expanded t own
  set_names own value [] a = refl
  set_names own value (x ∷ xs) a = set_by own value x xs a (set_names own value xs a.1) (same_name x.name own)

  pub table_set : (own : Expanded) (value : List ℕ) → document_table t (with_changed (set_in own value) (element n name bindings attributes children none)) ≡ with_expanded t own
  table_set own value =
      let u : NameTable = with_expanded t own in
      table_attributes (set_in own value attributes)
      ∙ ap (λ v. document_table v children) (set_names own value attributes h.0.names)
      ∙ names_stay u children (names_kept t u (grows_expanded t own) children h.1)

  unset_by : (own : Expanded) (x : Attribute) (xs : List Attribute) → HasAttributes t (x ∷ xs) → HasAttributes t (unset_in own xs) → (b : Bool) → HasAttributes t (if b then xs else x ∷ unset_in own xs)
  unset_by own x xs a later true = a.1
  unset_by own x xs a later false = (a.0, later)

  unset_names : (own : Expanded) (xs : List Attribute) → HasAttributes t xs → HasAttributes t (unset_in own xs)
  unset_names own [] a = tt
  unset_names own (x ∷ xs) a = unset_by own x xs a (unset_names own xs a.1) (same_name x.name own)

  pub table_unset : (own : Expanded) → document_table t (with_changed (unset_in own) (element n name bindings attributes children none)) ≡ t
  table_unset own =
      table_attributes (unset_in own attributes)
      ∙ ap (λ v. document_table v children) (attributes_stay t (unset_in own attributes) (unset_names own attributes h.0.names))
      ∙ names_stay t children h.1

-- other characters bring no name
pub table_reworded : (t : NameTable) (chars : List ℕ) (node : Forest) → HasNames t node → document_table t (with_chars chars node) ≡ t
table_reworded t chars none h = refl
table_reworded t chars (text n old next) h = names_stay t next h
table_reworded t chars (element n name bindings attributes children next) h = names_stay t (element n name bindings attributes children next) h
