-- The table with a document's names in it has them all.
use Rattle.std.proofs.Common.{◌≡◌, ℕ, List, [], ◌∷◌, Option, Some, None}
use Rattle.std.specs.Prelude.{IsSome}
use Rattle.xs_names.specs.Names.{NameTable, Grown, space_number, with_space}
use Rattle.xs_names.proofs.GrownLaws.{Grown-refl, Grown-trans, Grown-with_space, Grown-with_name}
use Rattle.tree_rows.specs.Forest.{Forest, none, text, element}
use Rattle.tree_rows.specs.declared.name.Expanded.{Expanded}
use Rattle.tree_rows.specs.declared.row.Attribute.{Attribute}
use Rattle.tree_rows.specs.declared.row.Binding.{Binding}
use Rattle.plain_tree.specs.Numbers.{space_in}
use Rattle.plain_tree.specs.Table.{with_namespace, with_local, with_expanded, with_bindings, with_attributes, with_tag, document_table}
use Rattle.plain_tree.specs.Found.{HasName, HasBindings, HasAttributes, HasTag, HasNames}
use Rattle.plain_tree.proofs.Numbers.{space_put, space_kept, has_name_kept, has_expanded}

-- ---- the table grows

grows_namespace : (t : NameTable) (space : Option (List ℕ)) → Grown t (with_namespace t space)
grows_namespace t None = Grown-refl t
grows_namespace t (Some space) = Grown-with_space t space

pub grows_expanded : (t : NameTable) (name : Expanded) → Grown t (with_expanded t name)
grows_expanded t name =
    let u = with_namespace t name.namespace in
    Grown-trans t u (with_local u name) (grows_namespace t name.namespace) (Grown-with_name u (space_in u name.namespace) name.local)

grows_bindings : (t : NameTable) (bindings : List Binding) → Grown t (with_bindings t bindings)
grows_bindings t [] = Grown-refl t
grows_bindings t (b ∷ bindings) =
    Grown-trans t (with_space t b.namespace) (with_bindings t (b ∷ bindings)) (Grown-with_space t b.namespace) (grows_bindings (with_space t b.namespace) bindings)

grows_attributes : (t : NameTable) (attributes : List Attribute) → Grown t (with_attributes t attributes)
grows_attributes t [] = Grown-refl t
grows_attributes t (a ∷ attributes) =
    Grown-trans t (with_expanded t a.name) (with_attributes t (a ∷ attributes)) (grows_expanded t a.name) (grows_attributes (with_expanded t a.name) attributes)

grows_tag : (t : NameTable) (name : Expanded) (bindings : List Binding) (attributes : List Attribute) → Grown t (with_tag t name bindings attributes)
grows_tag t name bindings attributes =
    let u = with_bindings t bindings in
    let v = with_expanded u name in
    let w = with_attributes v attributes in
    Grown-trans t u w (grows_bindings t bindings) (Grown-trans u v w (grows_expanded u name) (grows_attributes v attributes))

pub grows : (t : NameTable) (f : Forest) → Grown t (document_table t f)
grows t none = Grown-refl t
grows t (text number chars next) = grows t next
grows t (element number name bindings attributes children next) =
    let u = with_tag t name bindings attributes in
    let v = document_table u children in
    Grown-trans t u (document_table v next) (grows_tag t name bindings attributes) (Grown-trans u v (document_table v next) (grows u children) (grows v next))

-- ---- what it has stays there

module _ (old new : NameTable) (g : Grown old new) where
  pub bindings_kept : (bindings : List Binding) → HasBindings old bindings → HasBindings new bindings
  bindings_kept [] h = tt
  bindings_kept (b ∷ bindings) h = (space_kept old new g b.namespace h.0, bindings_kept bindings h.1)

  pub attributes_kept : (attributes : List Attribute) → HasAttributes old attributes → HasAttributes new attributes
  attributes_kept [] h = tt
  attributes_kept (a ∷ attributes) h = (has_name_kept old new g a.name h.0, attributes_kept attributes h.1)

  pub tag_kept : (name : Expanded) (bindings : List Binding) (attributes : List Attribute) → HasTag old name bindings attributes → HasTag new name bindings attributes
  tag_kept name bindings attributes h = record {
    own = has_name_kept old new g name h.own;
    spaces = bindings_kept bindings h.spaces;
    names = attributes_kept attributes h.names;
  }

  pub names_kept : (f : Forest) → HasNames old f → HasNames new f
  names_kept none h = tt
  names_kept (text number chars next) h = names_kept next h
  names_kept (element number name bindings attributes children next) h =
      (tag_kept name bindings attributes h.0, names_kept children h.1, names_kept next h.2)

-- ---- what was put into it is there

has_bindings : (t : NameTable) (bindings : List Binding) → HasBindings (with_bindings t bindings) bindings
has_bindings t [] = tt
has_bindings t (b ∷ bindings) =
    let u = with_space t b.namespace in
    (space_kept u (with_bindings u bindings) (grows_bindings u bindings) b.namespace (space_put t b.namespace), has_bindings u bindings)

has_attributes : (t : NameTable) (attributes : List Attribute) → HasAttributes (with_attributes t attributes) attributes
has_attributes t [] = tt
has_attributes t (a ∷ attributes) =
    let u = with_expanded t a.name in
    (has_name_kept u (with_attributes u attributes) (grows_attributes u attributes) a.name (has_expanded t a.name), has_attributes u attributes)

has_tag : (t : NameTable) (name : Expanded) (bindings : List Binding) (attributes : List Attribute) → HasTag (with_tag t name bindings attributes) name bindings attributes
has_tag t name bindings attributes =
    let u = with_bindings t bindings in
    let v = with_expanded u name in
    let w = with_attributes v attributes in
    record {
      own = has_name_kept v w (grows_attributes v attributes) name (has_expanded u name);
      spaces = bindings_kept u w (Grown-trans u v w (grows_expanded u name) (grows_attributes v attributes)) bindings (has_bindings t bindings);
      names = has_attributes v attributes;
    }

pub found : (t : NameTable) (f : Forest) → HasNames (document_table t f) f
found t none = tt
found t (text number chars next) = found t next
found t (element number name bindings attributes children next) =
    let u = with_tag t name bindings attributes in
    let v = document_table u children in
    let w = document_table v next in (
      tag_kept u w (Grown-trans u v w (grows u children) (grows v next)) name bindings attributes (has_tag t name bindings attributes),
      names_kept v w (grows v next) children (found u children),
      found v next,
    )
