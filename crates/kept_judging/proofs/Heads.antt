-- The head of an element by numbers: its scope, and that its names are in the table.
use Rattle.std.proofs.Common.{◌≡◌, ◌<◌, ℕ, zero, suc, List, [], ◌∷◌, ◌++◌, length, map, All, Bool, true, false, Option, None, Some, refl, sym, ap, subst, arith}
use Rattle.std.specs.Prelude.{reverse}
use Rattle.std.specs.Option.{option_map}
use Rattle.std.proofs.lemmas.Bool.{false≢true}
use Rattle.std.proofs.lemmas.Option.{same_Some, none-some}
use Rattle.std.proofs.lemmas.List.{reverse-append}
use Rattle.std.proofs.lemmas.List.Elements.{All-nil, All-cons, All-head, All-tail, All-push, All-map, All-append}
use Rattle.xs_names.specs.Names.{NameTable}
use Rattle.xs_names.specs.Scope.{first_scope}
use Rattle.xs_names.proofs.GrownLaws.{two_spaces}
use Rattle.tree_rows.specs.Forest.{Document}
use Rattle.tree_rows.specs.declared.row.NodeKind.{NodeKind}
use Rattle.tree_rows.specs.declared.row.NodeKind.TheVariants as kinds
use Rattle.assess_records.specs.declared.shape.NamedText.{NamedText}
use Rattle.elem_governing.specs.View.{AreKnown}
use Rattle.doc_nodes.specs.Nodes.{Node, Nodes, node, depth_by, is_element_by, is_element_at, is_element, IsSound as AreSound}
use Rattle.doc_nodes.specs.declared.content.Content.{Content}
use Rattle.doc_nodes.specs.declared.content.Content.TheVariants as contents
use Rattle.doc_changes.specs.Held.{kind_in, kind_at, parent_at, attributes_at, bindings_at}
use Rattle.doc_changes.specs.Stands.{StandsFor}
use Rattle.doc_changes.specs.Readers.{own_scope, outer_scope, scope_upto, scope_at}
use Rattle.doc_changes.proofs.Reading.{scope_below, scope_root, depth_below}
use Rattle.doc_readers.specs.Heads.{text_named, texts_named, pair_of}
use Rattle.doc_readers.proofs.Showing.{are_numbers}
use Rattle.kept_state.proofs.from_kept_records.Nodes.{shown, root-there}

-- ---- a number of an element

kind-in : (c : Content) → is_element c ≡ true → Some (kind_in c) ≡ Some kinds.Element
kind-in (contents.Element e) is = refl
kind-in (contents.Chars chars) is = absurd (false≢true is)

kind-by : (o : Option Node) → is_element_by o ≡ true → option_map (λ (it : Node). kind_in it.content) o ≡ Some kinds.Element
kind-by None is = absurd (false≢true is)
kind-by (Some it) is = kind-in it.content is

pub element-kind : (ns : Nodes) (n : ℕ) → is_element_at ns n ≡ true → kind_at ns n ≡ Some kinds.Element
element-kind ns n is = kind-by (node ns n) is

told : NodeKind → Bool
told kinds.Element = true
told kinds.Chars = false

not-element : kinds.Chars ≡ kinds.Element → ⊥
unfolding told
not-element e = false≢true (ap told e)

by-kind-in : (c : Content) → Some (kind_in c) ≡ Some kinds.Element → is_element c ≡ true
by-kind-in (contents.Element e) is = refl
by-kind-in (contents.Chars chars) is = absurd (not-element (same_Some kinds.Chars kinds.Element is))

by-kind : (o : Option Node) → option_map (λ (it : Node). kind_in it.content) o ≡ Some kinds.Element → is_element_by o ≡ true
by-kind None is = absurd (none-some kinds.Element is)
by-kind (Some it) is = by-kind-in it.content is

-- the root is an element
pub root-element : (t : NameTable) (ns : Nodes) (d : Document) → StandsFor t ns d → is_element_at ns 1 ≡ true
root-element t ns d z = by-kind (node ns 1) (shown t ns d.forest z.nodes 1 (root-there d.forest z.tree.root))

-- ---- what is in the table

all-reverse : {X : Type 0} (P : X → Type 0) (xs : List X) → All P xs → All P (reverse xs)
all-reverse P [] h = All-nil P
all-reverse P (x ∷ xs) h = subst (All P) (sym (reverse-append (x ∷ []) xs)) (All-push P (reverse xs) x (all-reverse P xs (All-tail P x xs h)) (All-head P x xs h))

module _ (t : NameTable) (ns : Nodes) (d : Document) (z : StandsFor t ns d) where
  abbrev IsSpace : List ℕ × ℕ → Type 0
  IsSpace b = b.1 < length t.spaces

  first-known : AreKnown t first_scope
  first-known = let two = two_spaces t z.table in All-cons IsSpace _ [] (omega arith) (All-nil IsSpace)

  own-known : (n : ℕ) → AreKnown t (own_scope ns n)
  own-known n = all-reverse IsSpace (map pair_of (bindings_at ns n)) (All-map IsSpace pair_of (bindings_at ns n) (are_numbers t ns d z n).spaces)

  outer-known : (scope : ℕ → List (List ℕ × ℕ)) → ((p : ℕ) → AreKnown t (scope p)) → (o : Option ℕ) → AreKnown t (outer_scope scope o)
  outer-known scope all None = first-known
  outer-known scope all (Some p) = all p

  upto-known : (levels n : ℕ) → AreKnown t (scope_upto ns levels n)
  unfolding scope_upto
  upto-known zero n = All-append IsSpace (own_scope ns n) first_scope (own-known n) first-known
  upto-known (suc levels) n =
      All-append IsSpace (own_scope ns n) (outer_scope (scope_upto ns levels) (parent_at ns n)) (own-known n) (outer-known (scope_upto ns levels) (λ p. upto-known levels p) (parent_at ns n))

  -- the namespaces of its scope
  pub scope-known : (n : ℕ) → AreKnown t (scope_at ns n)
  scope-known n = upto-known (depth_by (node ns n)) n

  -- the names of its attributes
  pub texts-named : (n : ℕ) → All (λ (a : NamedText). a.name < length t.names) (texts_named ns n)
  texts-named n = All-map (λ (a : NamedText). a.name < length t.names) text_named (attributes_at ns n) (are_numbers t ns d z n).names
