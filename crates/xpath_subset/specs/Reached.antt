-- What a selector or a field reaches, as a test that answers (Structures 3.11.4, 3.11.6).
use Rattle.std.specs.Prelude.{◌==◌, ◌&&◌, ◌||◌, Bool, true, false, if◌then◌else◌, List, [], ◌∷◌, Option, None, Some, bytes_eq}
use Rattle.std.specs.List.{list_any}
use Rattle.xpath_subset.specs.Reaches.{ExpandedName}
use Rattle.xpath_subset.specs.declared.path.NameTest.{NameTest}
use Rattle.xpath_subset.specs.declared.path.NameTest.TheVariants as tests
use Rattle.xpath_subset.specs.declared.path.Step.{Step}
use Rattle.xpath_subset.specs.declared.path.Step.TheVariants.{Itself, Child}
use Rattle.xpath_subset.specs.declared.path.Path.{Path}

-- `*` admits each name, `prefix:*` those of the namespace, a QName the one name
abbrev pub admits : NameTest → ExpandedName → Bool
admits tests.Any name = true
admits (tests.Namespace space) name = name.0 == space
admits (tests.Name space local) name = (name.0 == space) && bytes_eq name.1 local

-- the steps lead from an element down along elements of these names
abbrev pub leads_down : List Step → List ExpandedName → Bool
leads_down [] [] = true
leads_down [] (name ∷ names) = false
leads_down (Itself ∷ steps) names = leads_down steps names
leads_down (Child test ∷ steps) [] = false
leads_down (Child test ∷ steps) (name ∷ names) = admits test name && leads_down steps names

-- they do from the element or from one on the way, as after `.//`
abbrev pub leads_from_anywhere : List Step → List ExpandedName → Bool
leads_from_anywhere steps [] = leads_down steps []
leads_from_anywhere steps (name ∷ names) = leads_down steps (name ∷ names) || leads_from_anywhere steps names

abbrev pub admits_attribute : Option NameTest → Option ExpandedName → Bool
admits_attribute None None = true
admits_attribute None (Some name) = false
admits_attribute (Some test) None = false
admits_attribute (Some test) (Some name) = admits test name

abbrev pub leads : Bool → List Step → List ExpandedName → Bool
leads true steps names = leads_from_anywhere steps names
leads false steps names = leads_down steps names

-- the path reaches the node to which the elements of these names lead down, or its attribute of that name
abbrev pub path_reaches : Path → List ExpandedName → Option ExpandedName → Bool
path_reaches path elements attribute = admits_attribute path.attribute attribute && leads path.anywhere path.steps elements

-- a selector or a field reaches what one of its paths reaches
unfoldable pub reached : List Path → List ExpandedName → Option ExpandedName → Bool
reached paths elements attribute = list_any (λ path. path_reaches path elements attribute) paths
