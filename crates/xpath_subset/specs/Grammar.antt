-- Paths of identity constraints as they are written: Structures 3.11.6, Selector and Field.
use Rattle.std.specs.Prelude.{◌≡◌, ℕ, Bool, true, false, List, [], ◌∷◌, ◌++◌, map, Option, None, Some, Result, Ok, Err, codes}
use Rattle.std.specs.Option.{option_map, option_and_then}
use Rattle.std.specs.Str.{chars, IsUtf8}
use Rattle.xs_names.specs.Characters.{is_ncname}
use Rattle.xs_names.specs.QName.{joined}
use Rattle.xs_names.specs.Scope.{resolved}
use Rattle.xs_names.specs.White.{is_white}
use Rattle.xpath_subset.specs.declared.path.NameTest.{NameTest}
use Rattle.xpath_subset.specs.declared.path.NameTest.TheVariants as tests
use Rattle.xpath_subset.specs.declared.path.Step.{Step}
use Rattle.xpath_subset.specs.declared.path.Step.TheVariants as steps
use Rattle.xpath_subset.specs.declared.path.Path.{Path}
use Rattle.xpath_subset.specs.declared.reading.XPathFault.{XPathFault}
use Rattle.xpath_subset.specs.declared.reading.XPathFault.TheVariants.{Syntax, Unbound}

-- a name test: `*`, `prefix:*` or a QName
pub data WrittenTest : Type 0 where
  star : WrittenTest
  any_of : List ℕ → WrittenTest
  name : Option (List ℕ) → List ℕ → WrittenTest

-- a step: `.`, a name test after `child::` or alone, or a name test after `attribute::` or `@`
pub data WrittenStep : Type 0 where
  itself : WrittenStep
  child : Bool → WrittenTest → WrittenStep
  attribute : Bool → WrittenTest → WrittenStep

-- a path: `.//` or not, the steps before the last one, and the last step
pub record WrittenPath : Type 0 where
  pub anywhere : Bool
  pub steps : List WrittenStep
  pub last : WrittenStep

-- a name test is one token, and the names in it are NCNames (Namespaces in XML 1.0, 4)
abbrev pub test_token : WrittenTest → List ℕ
test_token star = codes "*"
test_token (any_of prefix) = prefix ++ codes ":*"
test_token (name prefix local) = joined prefix local

abbrev pub IsName : List ℕ → Type 0
IsName text = IsUtf8 text × (is_ncname (chars text) ≡ true)

abbrev pub HasNames : WrittenTest → Type 0
HasNames star = Unit {0}
HasNames (any_of prefix) = IsName prefix
HasNames (name None local) = IsName local
HasNames (name (Some prefix) local) = IsName prefix × IsName local

abbrev pub IsTest : WrittenTest → List ℕ → Type 0
IsTest test text = (text ≡ test_token test) × HasNames test

-- the text is a token, then white space or nothing, and then what the second argument tells
abbrev pub Follows : List ℕ → (List ℕ → Type 0) → List ℕ → Type 0
Follows token IsRest text = (gap : List ℕ) × (rest : List ℕ) × (text ≡ token ++ (gap ++ rest)) × (is_white gap ≡ true) × IsRest rest

-- a step to elements, and the last step of a field, which may go to attributes
abbrev pub IsElementStep : WrittenStep → List ℕ → Type 0
IsElementStep itself text = text ≡ codes "."
IsElementStep (child false test) text = IsTest test text
IsElementStep (child true test) text = Follows (codes "child::") (IsTest test) text
IsElementStep (attribute axis test) text = ⊥

abbrev pub IsLastOfField : WrittenStep → List ℕ → Type 0
IsLastOfField itself text = IsElementStep itself text
IsLastOfField (child axis test) text = IsElementStep (child axis test) text
IsLastOfField (attribute false test) text = Follows (codes "@") (IsTest test) text
IsLastOfField (attribute true test) text = Follows (codes "attribute::") (IsTest test) text

-- items with a separator after each, and then a last one; white space or nothing stands before and after a separator
abbrev pub EndsIn : {A B : Type 0} → ℕ → (A → List ℕ → Type 0) → (B → List ℕ → Type 0) → List A → B → List ℕ → Type 0
EndsIn separator IsItem IsLast [] last text = IsLast last text
EndsIn separator IsItem IsLast (item ∷ items) last text =
    (front : List ℕ) × (gap : List ℕ) × (rest : List ℕ) × (text ≡ front ++ (gap ++ rest)) × (is_white gap ≡ true) × IsItem item front
    × Follows (separator ∷ []) (EndsIn separator IsItem IsLast items last) rest

-- Path ::= ('.//')? ( Step '/' )* Last
abbrev pub StartsAnywhere : Bool → (List ℕ → Type 0) → List ℕ → Type 0
StartsAnywhere false IsRest text = IsRest text
StartsAnywhere true IsRest text = Follows (codes ".//") IsRest text

abbrev pub IsPath : (WrittenStep → List ℕ → Type 0) → WrittenPath → List ℕ → Type 0
IsPath IsLast path text = StartsAnywhere path.anywhere (EndsIn 0x2F IsElementStep IsLast path.steps path.last) text

-- Selector ::= Path ( '|' Path )*, with a last step to elements; a field's last step may go to attributes
abbrev pub WrittenPaths : Type 0
WrittenPaths = List WrittenPath × WrittenPath

abbrev pub ArePaths : (WrittenStep → List ℕ → Type 0) → List ℕ → WrittenPaths → Type 0
ArePaths IsLast text paths = EndsIn 0x7C (IsPath IsLast) (IsPath IsLast) paths.0 paths.1 text

abbrev pub IsSelector : List ℕ → WrittenPaths → Type 0
IsSelector text paths = ArePaths IsElementStep text paths

abbrev pub IsField : List ℕ → WrittenPaths → Type 0
IsField text paths = ArePaths IsLastOfField text paths

-- what a name test means where the prefixes are bound so; nothing where its prefix is not bound. A name without a prefix has
-- no namespace
abbrev pub test_meaning : List (List ℕ × ℕ) → WrittenTest → Option NameTest
test_meaning scope star = Some tests.Any
test_meaning scope (any_of prefix) = option_map tests.Namespace (resolved scope (Some prefix))
test_meaning scope (name None local) = Some (tests.Name 0 local)
test_meaning scope (name (Some prefix) local) = option_map (λ space. tests.Name space local) (resolved scope (Some prefix))

-- the items, where each is there
abbrev pub all_there : {A : Type 0} → List (Option A) → Option (List A)
all_there [] = Some []
all_there (None ∷ items) = None
all_there (Some item ∷ items) = option_map (λ rest. item ∷ rest) (all_there items)

-- a step to elements alone means a step
abbrev pub step_meaning : List (List ℕ × ℕ) → WrittenStep → Option Step
step_meaning scope itself = Some steps.Itself
step_meaning scope (child axis test) = option_map steps.Child (test_meaning scope test)
step_meaning scope (attribute axis test) = None

abbrev pub steps_meaning : List (List ℕ × ℕ) → List WrittenStep → Option (List Step)
steps_meaning scope written = all_there (map (step_meaning scope) written)

abbrev pub to_elements : Bool → List Step → Path
to_elements anywhere way = record { anywhere = anywhere; steps = way; attribute = None }

abbrev pub to_attributes : Bool → List Step → NameTest → Path
to_attributes anywhere way test = record { anywhere = anywhere; steps = way; attribute = Some test }

-- steps and a last one
abbrev pub way_meaning : List (List ℕ × ℕ) → Bool → List WrittenStep → WrittenStep → Option Path
way_meaning scope anywhere written itself = option_map (to_elements anywhere) (steps_meaning scope (written ++ itself ∷ []))
way_meaning scope anywhere written (child axis test) = option_map (to_elements anywhere) (steps_meaning scope (written ++ child axis test ∷ []))
way_meaning scope anywhere written (attribute axis test) =
    option_and_then (λ way. option_map (to_attributes anywhere way) (test_meaning scope test)) (steps_meaning scope written)

abbrev pub path_meaning : List (List ℕ × ℕ) → WrittenPath → Option Path
path_meaning scope path = way_meaning scope path.anywhere path.steps path.last

abbrev pub paths_meaning : List (List ℕ × ℕ) → WrittenPaths → Option (List Path)
paths_meaning scope paths = all_there (map (path_meaning scope) (paths.0 ++ paths.1 ∷ []))

-- what a text of a grammar is read as: the meaning of each way in which it is written, and there is one. It is outside the
-- grammar where there is none, and a prefix is not bound where it has no meaning
abbrev pub IsReading : {W V : Type 0} → (W → Type 0) → (W → Option V) → Result V XPathFault → Type 0
IsReading {W = W} IsWritten meaning (Ok value) = ((written : W) × IsWritten written) × ((written : W) → IsWritten written → meaning written ≡ Some value)
IsReading {W = W} IsWritten meaning (Err Unbound) = ((written : W) × IsWritten written) × ((written : W) → IsWritten written → meaning written ≡ None)
IsReading {W = W} IsWritten meaning (Err Syntax) = (written : W) → ¬ (IsWritten written)
