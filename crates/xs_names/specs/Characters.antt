-- The characters of names, and the names: XML 1.0 Fifth Edition, 2.3, and Namespaces in XML 1.0, 3.
use Rattle.std.specs.Prelude.{◌≡◌, ℕ, List, [], ◌∷◌, Bool, true, false, not, ◌&&◌, ◌||◌, ◌==◌, nat_le, codes, refl}
use Rattle.std.specs.List.{list_all, list_any}

-- some range of the table holds the character
abbrev pub in_ranges : List (ℕ × ℕ) → ℕ → Bool
in_ranges [] c = false
in_ranges (range ∷ ranges) c = (nat_le range.0 c && nat_le c range.1) || in_ranges ranges c

-- XML 1.0, production 4: NameStartChar
abbrev pub name_start_ranges : List (ℕ × ℕ)
name_start_ranges =
    (0x3A, 0x3A) ∷ (0x41, 0x5A) ∷ (0x5F, 0x5F) ∷ (0x61, 0x7A) ∷ (0xC0, 0xD6) ∷ (0xD8, 0xF6) ∷ (0xF8, 0x2FF)
    ∷ (0x370, 0x37D) ∷ (0x37F, 0x1FFF) ∷ (0x200C, 0x200D) ∷ (0x2070, 0x218F) ∷ (0x2C00, 0x2FEF) ∷ (0x3001, 0xD7FF)
    ∷ (0xF900, 0xFDCF) ∷ (0xFDF0, 0xFFFD) ∷ (0x1_0000, 0xE_FFFF) ∷ []

-- XML 1.0, production 4a: what NameChar adds to NameStartChar
abbrev pub more_name_ranges : List (ℕ × ℕ)
more_name_ranges = (0x2D, 0x2E) ∷ (0x30, 0x39) ∷ (0xB7, 0xB7) ∷ (0x300, 0x36F) ∷ (0x203F, 0x2040) ∷ []

abbrev pub is_name_start : ℕ → Bool
is_name_start c = in_ranges name_start_ranges c

abbrev pub is_name_char : ℕ → Bool
is_name_char c = is_name_start c || in_ranges more_name_ranges c

abbrev pub is_colon : ℕ → Bool
is_colon c = c == 0x3A

-- XML 1.0, production 5: Name ::= NameStartChar (NameChar)*
abbrev pub is_name : List ℕ → Bool
is_name [] = false
is_name (c ∷ cs) = is_name_start c && list_all is_name_char cs

-- XML 1.0, production 7: Nmtoken ::= (NameChar)+
abbrev pub is_nmtoken : List ℕ → Bool
is_nmtoken [] = false
is_nmtoken (c ∷ cs) = list_all is_name_char (c ∷ cs)

-- Namespaces in XML 1.0, production 4: NCName ::= Name - (Char* ':' Char*)
abbrev pub is_ncname : List ℕ → Bool
is_ncname cs = is_name cs && not (list_any is_colon cs)

-- for example
pub example-ncname : is_ncname (codes "xs-1.0") ≡ true
example-ncname = refl

pub example-colon : is_ncname (codes "xs:element") ≡ false
example-colon = refl

pub example-name : is_name (codes "xs:element") ≡ true
example-name = refl

pub example-nmtoken : is_nmtoken (codes "-1") ≡ true
example-nmtoken = refl
