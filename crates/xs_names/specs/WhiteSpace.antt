-- White space, Datatypes 4.3.6, and the items of a list, Datatypes 4.2.1.2. Texts are bytes in UTF-8: the four characters
-- of white space are one byte each, and no other character has these bytes.
use Rattle.std.specs.Prelude.{◌≡◌, ℕ, ◌==◌, ◌||◌, not, Bool, true, false, List, [], ◌∷◌, map, filter, if◌then◌else◌, codes, refl}
use Rattle.std.specs.List.{slice_split, join_with_byte, list_all}
use Rattle.xs_names.specs.declared.handling.WhiteSpace.{WhiteSpace}
use Rattle.xs_names.specs.declared.handling.WhiteSpace.TheVariants.{Preserve, Replace, Collapse}

abbrev pub is_space : ℕ → Bool
is_space c = c == 0x20

-- tab, line feed and carriage return
abbrev pub to_space : ℕ → ℕ
to_space c = if (c == 0x9) || (c == 0xA) || (c == 0xD) then 0x20 else c

-- 4.3.6, replace: all occurrences of tab, line feed and carriage return are replaced with a space
abbrev pub replaced : List ℕ → List ℕ
replaced text = map to_space text

abbrev pub is_item : List ℕ → Bool
is_item [] = false
is_item (c ∷ cs) = true

-- what stands between spaces, the empty pieces left out, with a space between each two
abbrev pub joined : List (List ℕ) → List ℕ
joined pieces = join_with_byte 0x20 (filter is_item pieces)

-- 4.2.1.2: the items of a list are what stands between its white space
abbrev pub items : List ℕ → List (List ℕ)
items text = filter is_item (slice_split is_space (replaced text))

-- 4.3.6, collapse: after replace, sequences of spaces are collapsed to a single one, and spaces at the ends are removed
abbrev pub collapsed : List ℕ → List ℕ
collapsed text = joined (slice_split is_space (replaced text))

abbrev pub normalized : WhiteSpace → List ℕ → List ℕ
normalized Preserve text = text
normalized Replace text = replaced text
normalized Collapse text = collapsed text

-- no character is white space
abbrev pub is_bare : List ℕ → Bool
is_bare text = list_all (λ c. not (is_space (to_space c))) text

-- 4.3.6: of two ways the one that leaves less, collapse before replace and replace before preserve; a type derived from
-- another may not treat white space by a weaker one than that does
abbrev pub stronger : WhiteSpace → WhiteSpace → WhiteSpace
stronger Preserve b = b
stronger Replace Preserve = Replace
stronger Replace Replace = Replace
stronger Replace Collapse = Collapse
stronger Collapse b = Collapse

-- for example
pub example-collapsed : collapsed (codes "  to  be\n") ≡ codes "to be"
example-collapsed = refl

pub example-items : items (codes " a\tb  ") ≡ codes "a" ∷ codes "b" ∷ []
example-items = refl
