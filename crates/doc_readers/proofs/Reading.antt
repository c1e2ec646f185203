-- What is read of nodes is what the tree has.
use Rattle.std.proofs.Common.{◌≡◌, ℕ, List, [], ◌∷◌, ◌++◌, ap, ◌∙◌, refl}
use Rattle.xs_names.specs.Names.{NameTable}
use Rattle.tree_rows.specs.Forest.{Forest, none, text, element}
use Rattle.assess_records.specs.Numbered.{characters}
use Rattle.assessment.specs.Local.{AreRead, element_numbers}
use Rattle.doc_nodes.specs.Nodes.{Nodes}
use Rattle.doc_changes.specs.Readers as nodes
use Rattle.doc_readers.specs.Heads.{readers_of}

same_characters : (f : Forest) → nodes.characters f ≡ characters f
same_characters none = refl
same_characters (text number chars next) = ap (λ l. chars ++ l) (same_characters next)
same_characters (element number name bindings attributes children next) = same_characters next

same_numbers : (f : Forest) → nodes.element_numbers f ≡ element_numbers f
same_numbers none = refl
same_numbers (text number chars next) = same_numbers next
same_numbers (element number name bindings attributes children next) = ap (λ l. number ∷ l) (same_numbers next)

pub readers_are : (t : NameTable) (ns : Nodes) (f : Forest) → nodes.AreRead t ns f → AreRead (readers_of t ns) f
readers_are t ns none r = tt
readers_are t ns (text number chars next) r = readers_are t ns next r
readers_are t ns (element number name bindings attributes children next) r = (
  record {
    name_is = r.0.name_is;
    bindings_are = r.0.bindings_are;
    attributes_are = r.0.attributes_are;
    chars_are = r.0.chars_are ∙ same_characters children;
    children_are = r.0.children_are ∙ same_numbers children;
  },
  readers_are t ns children r.1,
  readers_are t ns next r.2,
)
