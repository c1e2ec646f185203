-- The sets of characters that have an escape of their own, and the wildcard (Datatypes, appendix F.1.1).
use Rattle.std.specs.Prelude.{ℕ, Bool, not, ◌&&◌, ◌||◌, ◌==◌, nat_le}
use Rattle.xs_names.specs.Characters.{is_name_start, is_name_char}
use Rattle.ucd_category.specs.GeneralCategory.{general_category, general_category_eq}
use Rattle.ucd_category.specs.GeneralCategoryGroup.{in_group}
use Rattle.ucd_category.specs.declared.GeneralCategory.TheVariants.{DecimalNumber}
use Rattle.ucd_category.specs.declared.GeneralCategoryGroup.{GeneralCategoryGroup}
use Rattle.ucd_category.specs.declared.GeneralCategoryGroup.TheVariants.{Punctuation, Separator, Other}
use Rattle.pattern_syntax.specs.declared.set.Block.{Block}
use Rattle.pattern_syntax.specs.declared.set.Block.TheVariants.{BasicLatin, LatinOneSupplement, LatinExtendedA, LatinExtendedB}
use Rattle.pattern_syntax.specs.declared.set.CharSet.{CharSet}
use Rattle.pattern_syntax.specs.declared.set.CharSet.TheVariants.{NotLineEnd, Space, NameStart, NameChar, Digit, Word, InCategory, InGroup, InBlock}

-- the code points of a block, from the first to the last
abbrev pub block_bounds : Block → ℕ × ℕ
block_bounds BasicLatin = (0x0, 0x7F)
block_bounds LatinOneSupplement = (0x80, 0xFF)
block_bounds LatinExtendedA = (0x100, 0x17F)
block_bounds LatinExtendedB = (0x180, 0x24F)

abbrev pub in_block : Block → ℕ → Bool
in_block block c = nat_le (block_bounds block).0 c && nat_le c (block_bounds block).1

-- the character's general category is one of the group
abbrev pub has_group : GeneralCategoryGroup → ℕ → Bool
has_group group c = in_group group (general_category c)

abbrev pub in_set : CharSet → ℕ → Bool
in_set NotLineEnd c = not (c == 0xA || c == 0xD)
in_set Space c = c == 0x20 || c == 0x9 || c == 0xA || c == 0xD
in_set NameStart c = is_name_start c
in_set NameChar c = is_name_char c
in_set Digit c = general_category_eq (general_category c) DecimalNumber
in_set Word c = not (has_group Punctuation c || has_group Separator c || has_group Other c)
in_set (InCategory category) c = general_category_eq (general_category c) category
in_set (InGroup group) c = has_group group c
in_set (InBlock block) c = in_block block c
