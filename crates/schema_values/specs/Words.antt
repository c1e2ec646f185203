-- Words of which an attribute has one, or a set.
use Rattle.std.specs.Prelude.{ℕ, Bool, true, false, ◌||◌, List, [], ◌∷◌, codes}
use Rattle.std.specs.List.{list_all, list_any}
use Rattle.std.specs.Str.{bytes_eq}
use Rattle.xs_names.specs.WhiteSpace.{items}
use Rattle.schema_values.specs.declared.grammar_kinds.ValueKind.{ValueKind}
use Rattle.schema_values.specs.declared.grammar_kinds.ValueKind.TheVariants as v
use Rattle.xs_components.specs.declared.common.Methods.{Methods}

-- the words that a value of this kind may be, or of which it may be a list
abbrev pub words_of : ValueKind → List (List ℕ)
words_of v.Form = codes "qualified" ∷ codes "unqualified" ∷ []
words_of v.Use = codes "optional" ∷ codes "prohibited" ∷ codes "required" ∷ []
words_of v.Process = codes "strict" ∷ codes "lax" ∷ codes "skip" ∷ []
words_of v.WhiteSpace = codes "preserve" ∷ codes "replace" ∷ codes "collapse" ∷ []
words_of v.Block = codes "extension" ∷ codes "restriction" ∷ codes "substitution" ∷ []
words_of v.ComplexFinal = codes "extension" ∷ codes "restriction" ∷ []
words_of v.SimpleFinal = codes "restriction" ∷ codes "list" ∷ codes "union" ∷ []
words_of v.AnyFinal = codes "extension" ∷ codes "restriction" ∷ codes "list" ∷ codes "union" ∷ []
words_of _ = []

abbrev pub is_word : ValueKind → List ℕ → Bool
is_word kind text = list_any (bytes_eq text) (words_of kind)

abbrev pub are_words : ValueKind → List (List ℕ) → Bool
are_words kind words = list_all (is_word kind) words

abbrev pub is_all : List ℕ → Bool
is_all text = bytes_eq text (codes "#all")

-- #all, or a list of words
abbrev pub is_set : ValueKind → List ℕ → Bool
is_set kind text = is_all text || are_words kind (items text)

-- #all, or the word is in the list
abbrev pub has_method : List ℕ → List ℕ → Bool
has_method method text = is_all text || list_any (bytes_eq method) (items text)

-- the methods of a set; #all is each of them
abbrev pub set_of : List ℕ → Methods
set_of text = record {
  extension = has_method (codes "extension") text;
  restriction = has_method (codes "restriction") text;
  substitution = has_method (codes "substitution") text;
  by_list = has_method (codes "list") text;
  by_union = has_method (codes "union") text;
}
