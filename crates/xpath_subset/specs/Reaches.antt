-- What a path reaches: the nodes that it selects where it is evaluated at an element (Structures 3.11.4, 3.11.6; XPath 1.0, 2).
-- A node is named by the way down to it: the expanded names of the elements below the one where the path begins, the last of them
-- the node itself or the one that has the attribute, and the attribute's name where the node is an attribute.
use Rattle.std.specs.Prelude.{◌≡◌, ℕ, false, List, [], ◌∷◌, ◌++◌, Option, None, Some, Any}
use Rattle.xs_names.specs.Names.{NameTable, space_of, local_of}
use Rattle.xpath_subset.specs.declared.path.NameTest.{NameTest}
use Rattle.xpath_subset.specs.declared.path.NameTest.TheVariants as tests
use Rattle.xpath_subset.specs.declared.path.Step.{Step}
use Rattle.xpath_subset.specs.declared.path.Step.TheVariants.{Itself, Child}
use Rattle.xpath_subset.specs.declared.path.Path.{Path}

-- the number of a name's namespace, and its local part (Namespaces in XML 1.0, 2.1)
abbrev pub ExpandedName : Type 0
ExpandedName = ℕ × List ℕ

abbrev pub expanded_name : NameTable → ℕ → ExpandedName
expanded_name names name = (space_of names name, local_of names name)

-- XPath 1.0, 2.3: `*` admits each name, `prefix:*` those of the namespace, a QName the one name
abbrev pub Admits : NameTest → ExpandedName → Type 0
Admits tests.Any name = Unit {0}
Admits (tests.Namespace space) name = name.0 ≡ space
Admits (tests.Name space local) name = (name.0 ≡ space) × (name.1 ≡ local)

-- the steps lead from an element down along elements of these names: `.` stays, a name test goes to a child that it admits
abbrev pub LeadsDown : List Step → List ExpandedName → Type 0
LeadsDown [] [] = Unit {0}
LeadsDown [] (name ∷ names) = ⊥
LeadsDown (Itself ∷ steps) names = LeadsDown steps names
LeadsDown (Child test ∷ steps) [] = ⊥
LeadsDown (Child test ∷ steps) (name ∷ names) = Admits test name × LeadsDown steps names

-- an attribute is reached by a test that admits it, an element where there is no such test
abbrev pub AdmitsAttribute : Option NameTest → Option ExpandedName → Type 0
AdmitsAttribute None None = Unit {0}
AdmitsAttribute None (Some name) = ⊥
AdmitsAttribute (Some test) None = ⊥
AdmitsAttribute (Some test) (Some name) = Admits test name

-- Structures 3.11.4, 3.11.6: the path reaches the node to which the elements of these names lead down, or its attribute of that
-- name. After `.//` the steps begin anywhere on the way, else where the path begins
pub record Reaches (path : Path) (elements : List ExpandedName) (attribute : Option ExpandedName) : Type 0 where
  pub skipped : List ExpandedName
  pub followed : List ExpandedName
  pub way : elements ≡ skipped ++ followed
  pub from_the_element : path.anywhere ≡ false → skipped ≡ []
  pub steps : LeadsDown path.steps followed
  pub last : AdmitsAttribute path.attribute attribute

-- Structures 3.11.6: a selector or a field reaches what one of its paths reaches
abbrev pub IsReached : List Path → List ExpandedName → Option ExpandedName → Type 0
IsReached paths elements attribute = Any (λ path. Reaches path elements attribute) paths
