-- What stands in an element.
use Rattle.std.specs.Prelude.{ℕ, Bool, true, false, not, ◌&&◌, ◌||◌, nat_le, List, [], ◌∷◌, drop}
use Rattle.std.specs.List.{prefix_len}
use Rattle.xs_names.specs.White.{is_white}
use Rattle.tree_rows.specs.Forest.{Forest, none, text, element}
use Rattle.schema_values.specs.GrammarNames.{tag_of}
use Rattle.schema_values.specs.Table.{is_in}
use Rattle.schema_values.specs.declared.grammar_kinds.Step.{Step}
use Rattle.schema_values.specs.declared.grammar_kinds.Tag.{Tag}

-- the elements among the siblings by their names, in order
abbrev pub child_tags : Forest → List Tag
child_tags none = []
child_tags (text number chars next) = child_tags next
child_tags (element number name bindings attributes children next) = tag_of name ∷ child_tags next

-- a text among the siblings has characters other than white space
abbrev pub has_characters : Forest → Bool
has_characters none = false
has_characters (text number chars next) = not (is_white chars) || has_characters next
has_characters (element number name bindings attributes children next) = has_characters next

-- a step takes so many children
abbrev pub allows : Step → ℕ → Bool
allows step n = (not step.required || nat_le 1 n) && (step.repeats || nat_le n 1)

-- the children are those of the steps in order: each step takes all that come next of its class
abbrev pub follows : List Step → List Tag → Bool
follows [] [] = true
follows [] (tag ∷ tags) = false
follows (step ∷ steps) tags =
    allows step (prefix_len (is_in step.class) tags) && follows steps (drop (prefix_len (is_in step.class) tags) tags)
