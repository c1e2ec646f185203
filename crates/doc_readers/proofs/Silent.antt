-- What an element and a text show of characters.
use Rattle.std.proofs.Common.{◌≡◌, ℕ, [], Option, None, Some, true, false, refl}
use Rattle.std.specs.Prelude.{unwrap_or}
use Rattle.std.specs.Option.{option_and_then}
use Rattle.doc_nodes.specs.Nodes.{Node, Nodes, node, is_element, is_element_by, is_element_at}
use Rattle.doc_nodes.specs.declared.content.Content.{Content}
use Rattle.doc_nodes.specs.declared.content.Content.TheVariants.{Element, Chars}
use Rattle.doc_changes.specs.Held.{chars_in}
use Rattle.doc_changes.specs.Readers.{chars_by, chars_at}

silent-in : (c : Content) → is_element c ≡ true → unwrap_or (chars_in c) [] ≡ []
silent-in (Element e) is = refl
silent-in (Chars chars) is = let bad : false ≡ true = is in absurd (cc)

silent-by : (o : Option Node) → is_element_by o ≡ true → chars_by o ≡ []
silent-by None is = refl
silent-by (Some it) is = silent-in it.content is

-- an element is no text
pub silent : (ns : Nodes) (n : ℕ) → is_element_at ns n ≡ true → chars_at ns n ≡ []
silent ns n is = silent-by (node ns n) is

-- what is read of a node that may be a text
pub read-by : (o : Option Node) → unwrap_or (option_and_then (λ (it : Node). chars_in it.content) o) [] ≡ chars_by o
read-by None = refl
read-by (Some it) = refl
