-- What a node of a document has before it is changed.
use Rattle.std.proofs.Common.{◌≡◌, ℕ, ◌<◌, List, length, true, sym, ap, ◌∙◌, subst, Option, Some}
use Rattle.std.specs.Option.{option_map, option_and_then}
use Rattle.std.proofs.lemmas.Option.{same_Some}
use Rattle.xs_names.specs.Names.{NameTable}
use Rattle.tree_rows.specs.Forest.{none, text, Document}
use Rattle.tree_rows.specs.declared.row.NodeKind.TheVariants as kinds
use Rattle.tree_edits.specs.Edits.{Found, found}
use Rattle.tree_edits.specs.Tests.{is_element, is_text}
use Rattle.tree_edits.proofs.Lying.{lies}
use Rattle.doc_nodes.specs.Nodes.{Node, Nodes, node}
use Rattle.doc_nodes.specs.declared.content.Content.{Content}
use Rattle.doc_changes.specs.Held.{kind_at, kind_in, name_in, chars_in}
use Rattle.doc_changes.specs.Stands.{IsText, expanded_of, StandsFor}
use Rattle.doc_changes.proofs.Lain.{stand_lies}
use Rattle.doc_changes.proofs.Placing.{parent_of}
use Rattle.tree_edits.specs.Sites.{node_by, node_of, name_of, chars_of}
use Rattle.tree_edits.proofs.InverseLying.{text_at}

module _ (t : NameTable) (ns : Nodes) (d : Document) (z : StandsFor t ns d) (key : ℕ) where
  pub element_kind : is_element (found key 1 d.forest) ≡ true → kind_at ns key ≡ Some kinds.Element
  element_kind e = let o = parent_of t ns d key z e in ap (option_map (λ (x : Node). kind_in x.content)) o.shown.is ∙ ap (λ (x : Content). Some (kind_in x)) o.shown.content

  -- the number of the name of an element
  pub own_name : (n : ℕ) → is_element (found key 1 d.forest) ≡ true → option_and_then (λ (it : Node). name_in it.content) (node ns key) ≡ Some n
      → (n < length t.names) × (expanded_of t n ≡ name_of (node_of key d.forest))
  own_name n e is =
      let o = parent_of t ns d key z e in
      let own = same_Some o.shown.parts.name n (sym (ap (option_and_then (λ (it : Node). name_in it.content)) o.shown.is ∙ ap name_in o.shown.content) ∙ is) in (
        subst (λ (m : ℕ). m < length t.names) own o.shown.known.name,
        sym (ap (expanded_of t) own) ∙ o.shown.name_is ∙ sym (ap (λ (it : Option Found). name_of (node_by it)) o.is_found),
      )

  own_text : (e : is_text (found key 1 d.forest) ≡ true) → IsText ns key (text_at key d.forest e).chars
  own_text e =
      let a = text_at key d.forest e in
      let it : Found = record { depth = a.depth; node = text key a.chars none } in
      (stand_lies t ns key 1 d.forest it (lies key 1 d.forest it a.is_found) z.nodes).0

  pub text_kind : is_text (found key 1 d.forest) ≡ true → kind_at ns key ≡ Some kinds.Chars
  text_kind e = let o = own_text e in ap (option_map (λ (x : Node). kind_in x.content)) o.is ∙ ap (λ (x : Content). Some (kind_in x)) o.content

  -- the characters of a text
  pub own_chars : (chars : List ℕ) → is_text (found key 1 d.forest) ≡ true → option_and_then (λ (it : Node). chars_in it.content) (node ns key) ≡ Some chars
      → chars ≡ chars_of (node_of key d.forest)
  own_chars chars e is =
      let a = text_at key d.forest e in let o = own_text e in
      let own = same_Some a.chars chars (sym (ap (option_and_then (λ (it : Node). chars_in it.content)) o.is ∙ ap chars_in o.content) ∙ is) in
      sym own ∙ sym (ap (λ (it : Option Found). chars_of (node_by it)) a.is_found)
