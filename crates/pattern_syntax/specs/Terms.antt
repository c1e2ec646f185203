-- What a `Terms` holds.
use Rattle.std.specs.Prelude.{List, map}
use Rattle.xs_positions.specs.Tree.{Tree}
use Rattle.pattern_syntax.specs.Classes.{Class, class_of}
use Rattle.pattern_syntax.specs.Regex.{Regex}
use Rattle.pattern_syntax.specs.Trees.{regex_of}
use Rattle.pattern_syntax.specs.declared.terms.Terms.{Terms}

-- the classes, by number
abbrev pub classes_of : Terms → List Class
classes_of terms = map class_of terms.classes.items

-- the terms over the numbers of classes
abbrev pub trees_of : Terms → List Tree
trees_of terms = terms.expr

-- the regular expressions, by number
abbrev pub regexes_of : Terms → List Regex
regexes_of terms = map (regex_of (classes_of terms)) (trees_of terms)
