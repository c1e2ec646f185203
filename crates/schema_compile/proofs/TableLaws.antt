-- Tables of names that grow by the names of documents.
use Rattle.std.proofs.Common.{◌≡◌, ℕ, ◌<◌, ◌≤◌, Bool, true, false, ◌||◌, List, [], ◌∷◌, ◌++◌, Option, None, Some, length, if◌then◌else◌, refl, arith}
use Rattle.std.specs.List.{list_any}
use Rattle.std.specs.Option.{unwrap_or}
use Rattle.tree_rows.specs.declared.name.Expanded.{Expanded}
use Rattle.tree_rows.specs.declared.row.Binding.{Binding}
use Rattle.xs_names.specs.Names.{NameTable, same_name, name_number, with_space}
use Rattle.xs_names.specs.Numbering.{with_item, HasNoRepeats}
use Rattle.xs_names.proofs.GrownLaws.{Grown-with_name, within-name_number}
use Rattle.xs_names.proofs.NumberingLaws.{same_name-Decides, HasNoRepeats-with_item}
use Rattle.schema_values.specs.declared.spaces.SpaceToken.{SpaceToken}
use Rattle.schema_values.specs.declared.spaces.SpaceToken.TheVariants as tokens
use Rattle.schema_values.specs.declared.spaces.Spaces.{Spaces}
use Rattle.schema_values.specs.declared.spaces.Spaces.TheVariants as spaces
use Rattle.schema_shape.specs.declared.forms.Form.{Form}
use Rattle.schema_shape.specs.declared.forms.Form.TheVariants as forms
use Rattle.schema_shape.specs.declared.forms.Shape.{Shape}
use Rattle.schema_set.specs.declared.documents.SetDocument.{SetDocument}
use Rattle.representations.specs.declared.naming.Naming.{Naming}
use Rattle.representations.specs.Naming.{space_text, with_space_of, space_in, with_expanded, with_declared, with_global, with_reference, with_reference_if, declared_space, referred_space, naming_of, name_in}
use Rattle.representations.specs.Forms.{form_table, members_table, token_table, tokens_table, spaces_table}
use Rattle.representations.specs.Documents.{bindings_table, shape_table, shapes_table, document_table}
use Rattle.set_representations.specs.Documents.{shapes_of, set_table}

-- so many names a table has
abbrev pub count : NameTable → ℕ
count t = length t.names

-- one table has at least as many names as another, and each of them once if that has
pub record IsMore (t u : NameTable) : Type 0 where
  pub many : count t ≤ count u
  pub once : HasNoRepeats t.names → HasNoRepeats u.names

at-least : (a b c : ℕ) → a ≤ b → b ≤ c → a ≤ c
at-least a b c l m = omega (arith, l, m)

pub then-more : (a b c : NameTable) → IsMore a b → IsMore b c → IsMore a c
then-more a b c l m = record { many = at-least (count a) (count b) (count c) l.many m.many; once = λ once. m.once (l.once once) }

pub same : (t : NameTable) → IsMore t t
same t = record { many = omega arith; once = λ once. once }

space-more : (t : NameTable) (name : List ℕ) → IsMore t (with_space t name)
space-more t name = record { many = omega arith; once = λ once. once }

pub some-more : (a b : ℕ) → 0 < a → a ≤ b → 0 < b
some-more a b p l = omega (arith, p, l)

-- a list with an item is not empty
module _ {X : Type 0} where
  either-some : (b : Bool) (xs ys : List X) → 0 < length xs → 0 < length ys → 0 < length (if b then xs else ys)
  either-some true xs ys p q = p
  either-some false xs ys p q = q

  item-some : (test : X → X → Bool) (xs : List X) (x : X) → 0 < length (with_item test xs x)
  item-some test [] x = omega arith
  item-some test (y ∷ ys) x = either-some (list_any (test x) (y ∷ ys)) (y ∷ ys) ((y ∷ ys) ++ x ∷ []) (omega arith) (omega arith)

-- the number of a name is below the count, where there is a name
found-below : (t : NameTable) (found : Option ℕ) → ((n : ℕ) → found ≡ Some n → n < count t) → 0 < count t → unwrap_or found 0 < count t
found-below t None each p = p
found-below t (Some n) each p = each n refl

pub name-below : (t : NameTable) (space : Option (List ℕ)) (local : List ℕ) → 0 < count t → name_in t space local < count t
name-below t space local p = found-below t (name_number t (space_in t space) local) (within-name_number t (space_in t space) local) p

expanded-more : (t : NameTable) (space : Option (List ℕ)) (local : List ℕ) → IsMore t (with_expanded t space local)
expanded-more t space local = record {
  many = (Grown-with_name (with_space_of t space) (space_in (with_space_of t space) space) local).more_names;
  once = HasNoRepeats-with_item same_name same_name-Decides t.names (space_in (with_space_of t space) space, local);
}

pub expanded-some : (t : NameTable) (space : Option (List ℕ)) (local : List ℕ) → 0 < count (with_expanded t space local)
expanded-some t space local = item-some same_name (with_space_of t space).names (space_in (with_space_of t space) space, local)

module _ (naming : Naming) where
  declared-more : (in_target : Bool) (name : Option (List ℕ)) (t : NameTable) → IsMore t (with_declared naming in_target name t)
  declared-more in_target None t = same t
  declared-more in_target (Some local) t = expanded-more t (declared_space naming in_target) local

  pub reference-more : (name : Option Expanded) (t : NameTable) → IsMore t (with_reference_if naming name t)
  reference-more None t = same t
  reference-more (Some name) t = expanded-more t (referred_space naming name.namespace) name.local

  pub two-more : (a b : Option Expanded) (t : NameTable) → IsMore t (with_reference_if naming a (with_reference_if naming b t))
  two-more a b t = then-more t (with_reference_if naming b t) (with_reference_if naming a (with_reference_if naming b t)) (reference-more b t) (reference-more a (with_reference_if naming b t))

  pub three-more : (a b c : Option Expanded) (t : NameTable) → IsMore t (with_reference_if naming a (with_reference_if naming b (with_reference_if naming c t)))
  three-more a b c t = then-more _ _ _ (two-more b c t) (reference-more a (with_reference_if naming b (with_reference_if naming c t)))

  members-more : (members : List Expanded) (t : NameTable) → IsMore t (members_table naming members t)
  members-more [] t = same t
  members-more (member ∷ members) t = then-more _ _ _ (expanded-more t (referred_space naming member.namespace) member.local) (members-more members (with_reference naming member t))

  token-more : (token : SpaceToken) (t : NameTable) → IsMore t (token_table token t)
  token-more tokens.Target t = same t
  token-more tokens.Local t = same t
  token-more (tokens.Named space) t = space-more t space

  tokens-more : (listed : List SpaceToken) (t : NameTable) → IsMore t (tokens_table listed t)
  tokens-more [] t = same t
  tokens-more (token ∷ more) t = then-more _ _ _ (token-more token t) (tokens-more more (token_table token t))

  spaces-more : (listed : Spaces) (t : NameTable) → IsMore t (spaces_table listed t)
  spaces-more spaces.Any t = same t
  spaces-more spaces.Other t = same t
  spaces-more (spaces.These listed) t = tokens-more listed t

  form-more : (form : Form) (t : NameTable) → IsMore t (form_table naming form t)
  form-more (forms.Import namespace location) t = space-more t (space_text namespace)
  form-more (forms.Element form) t = then-more _ _ _ (declared-more (form.global || unwrap_or form.qualified naming.elements_qualified) form.name t)
      (three-more form.head form.of form.reference (with_declared naming (form.global || unwrap_or form.qualified naming.elements_qualified) form.name t))
  form-more (forms.Attribute form) t = then-more _ _ _ (declared-more (form.global || unwrap_or form.qualified naming.attributes_qualified) form.name t)
      (two-more form.of form.reference (with_declared naming (form.global || unwrap_or form.qualified naming.attributes_qualified) form.name t))
  form-more (forms.ComplexType form) t = declared-more true form.name t
  form-more (forms.SimpleType name finals) t = declared-more true name t
  form-more (forms.Group name) t = expanded-more t naming.target name
  form-more (forms.AttributeGroup name) t = expanded-more t naming.target name
  form-more (forms.Identity kind name refer) t = then-more _ _ _ (expanded-more t naming.target name) (reference-more refer (with_global naming name t))
  form-more (forms.Derivation by_extension base) t = reference-more base t
  form-more (forms.GroupReference to occurs) t = reference-more to t
  form-more (forms.AttributeGroupReference to) t = reference-more to t
  form-more (forms.Any wildcard occurs) t = spaces-more wildcard.spaces t
  form-more (forms.AnyAttribute wildcard) t = spaces-more wildcard.spaces t
  form-more (forms.Restriction base) t = reference-more base t
  form-more (forms.ItemType of) t = reference-more of t
  form-more (forms.Union members) t = members-more members t
  form-more _ t = same t

  bindings-more : (bindings : List Binding) (t : NameTable) → IsMore t (bindings_table bindings t)
  bindings-more [] t = same t
  bindings-more (binding ∷ bindings) t = then-more _ _ _ (space-more t binding.namespace) (bindings-more bindings (with_space t binding.namespace))

  shape-more : (shape : Shape) (t : NameTable) → IsMore t (shape_table naming shape t)
  shape-more shape t = then-more _ _ _ (bindings-more shape.bindings t) (form-more shape.form (bindings_table shape.bindings t))

  pub shapes-more : (shapes : List Shape) (t : NameTable) → IsMore t (shapes_table naming shapes t)
  shapes-more [] t = same t
  shapes-more (shape ∷ shapes) t = then-more _ _ _ (shape-more shape t) (shapes-more shapes (shape_table naming shape t))

document-more : (d : SetDocument) (t : NameTable) → IsMore t (document_table d.target (shapes_of d) t)
document-more d t = then-more _ _ _ (space-more t (space_text d.target)) (shapes-more (naming_of d.target (shapes_of d)) (shapes_of d) (with_space_of t d.target))

pub set-more : (ds : List SetDocument) (t : NameTable) → IsMore t (set_table t ds)
set-more [] t = same t
set-more (d ∷ ds) t = then-more _ _ _ (document-more d t) (set-more ds (document_table d.target (shapes_of d) t))
