-- QNames: Namespaces in XML 1.0, 4.
use Rattle.std.specs.Prelude.{◌≡◌, ℕ, List, ◌∷◌, ◌++◌, true, ◌&&◌, Option, None, Some, Result, Ok, Err, if◌then◌else◌, codes, refl}
use Rattle.std.specs.Borrow.{Bor}
use Rattle.std.specs.List.{before_first, after_first}
use Rattle.std.specs.Str.{chars}
use Rattle.xs_names.specs.Characters.{is_colon, is_ncname}

-- a text or a list of characters, from its prefix and its local part
abbrev pub joined : Option (List ℕ) → List ℕ → List ℕ
joined None local = local
joined (Some prefix) local = prefix ++ 0x3A ∷ local

-- the characters are a QName with this prefix and this local part
-- QName ::= PrefixedName | UnprefixedName, PrefixedName ::= Prefix ':' LocalPart, UnprefixedName ::= LocalPart, Prefix ::= NCName, LocalPart ::= NCName
abbrev pub IsQName : List ℕ → Option (List ℕ) → List ℕ → Type 0
IsQName cs None local = (cs ≡ local) × (is_ncname local ≡ true)
IsQName cs (Some prefix) local = (cs ≡ prefix ++ 0x3A ∷ local) × (is_ncname prefix ≡ true) × (is_ncname local ≡ true)

-- the characters are a QName in no way
abbrev pub IsNoQName : List ℕ → Type 0
IsNoQName cs = (prefix : Option (List ℕ)) (local : List ℕ) → ¬ (IsQName cs prefix local)

-- what a prefix reads as
abbrev pub prefix_of : (List ℕ → List ℕ) → Option (Bor (List ℕ)) → Option (List ℕ)
prefix_of read None = None
prefix_of read (Some prefix) = Some (read prefix.now)

-- the prefix and the local part of a text, where it is a QName
abbrev pub qname : List ℕ → Option (Option (List ℕ) × List ℕ)
qname text =
    if is_ncname (chars text) then Some (None, text)
    else (if is_ncname (chars (before_first is_colon text)) && is_ncname (chars (after_first is_colon text))
    then Some (Some (before_first is_colon text), after_first is_colon text) else None)

-- the parts that were found
abbrev pub found_parts : {E : Type 0} → Result (Option (Bor (List ℕ)) × Bor (List ℕ)) E → Option (Option (List ℕ) × List ℕ)
found_parts (Ok parts) = Some (prefix_of (λ p. p) parts.0, parts.1.now)
found_parts (Err _) = None

-- for example
pub example-prefixed : qname (codes "xs:element") ≡ Some (Some (codes "xs"), codes "element")
unfolding chars
example-prefixed = refl

pub example-two_colons : qname (codes "a:b:c") ≡ None
unfolding chars
example-two_colons = refl
