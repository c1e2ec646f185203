-- Elements in document order.
use Rattle.std.specs.Prelude.{◌≡◌, ℕ, [], ◌==◌, Option, Some, None, if◌then◌else◌, refl}
use Rattle.std.specs.Option.{option_or}
use Rattle.tree_rows.specs.Forest.{Forest, none, text, element}
use Rattle.tree_rows.specs.declared.name.Expanded.{Expanded}
use Rattle.tree_edits.specs.Edits.{has}

-- the first element among siblings: in document order it comes before what is below it, and texts have nothing below them
abbrev pub first_element : Forest → Option ℕ
first_element none = None
first_element (text number chars next) = first_element next
first_element (element number name bindings attributes children next) = Some number

-- the element that comes next in document order after the node of this number, where such a one comes after the siblings; none where
-- there is no such node
abbrev pub next_in : ℕ → Option ℕ → Forest → Option ℕ
next_in key later none = None
next_in key later (text number chars next) = if number == key then option_or (first_element next) later else next_in key later next
next_in key later (element number name bindings attributes children next) =
    if number == key then option_or (first_element children) (option_or (first_element next) later)
    else (if has key children then next_in key (option_or (first_element next) later) children else next_in key later next)

-- the element that comes next in document order after the node of this number; none where that is the last, or of no node
abbrev pub next_of : ℕ → Forest → Option ℕ
next_of key f = next_in key None f

-- the same, but none of those below the node
abbrev pub past_in : ℕ → Option ℕ → Forest → Option ℕ
past_in key later none = None
past_in key later (text number chars next) = if number == key then option_or (first_element next) later else past_in key later next
past_in key later (element number name bindings attributes children next) =
    if number == key then option_or (first_element next) later
    else (if has key children then past_in key (option_or (first_element next) later) children else past_in key later next)

abbrev pub past_of : ℕ → Forest → Option ℕ
past_of key f = past_in key None f

-- for example: 1 has the children 2, which has the text 3, and 4
abbrev example_name : Expanded
example_name = record { namespace = None; local = [] }

abbrev example : Forest
example = element 1 example_name [] [] (element 2 example_name [] [] (text 3 [] none) (element 4 example_name [] [] none none)) none

pub example-below : next_of 1 example ≡ Some 2
example-below = refl

pub example-beside : next_of 3 example ≡ Some 4
example-beside = refl

pub example-last : next_of 4 example ≡ None
example-last = refl
