-- The class names of `\p{..}` (Datatypes, appendix F.1.1): categories and blocks.
use Rattle.std.specs.Prelude.{◌≡◌, ℕ, Bool, false, ◌&&◌, ◌==◌, if◌then◌else◌, List, [], ◌∷◌, Option, Some, None, codes, bytes_eq, refl}
use Rattle.ucd_category.specs.declared.GeneralCategory.TheVariants as category
use Rattle.ucd_category.specs.declared.GeneralCategoryGroup.TheVariants as group
use Rattle.pattern_syntax.specs.declared.set.Block.TheVariants.{BasicLatin, LatinOneSupplement, LatinExtendedA, LatinExtendedB}
use Rattle.pattern_syntax.specs.declared.set.CharSet.{CharSet}
use Rattle.pattern_syntax.specs.declared.set.CharSet.TheVariants.{InCategory, InGroup, InBlock}

-- a major class: L, M, N, P, Z, S, C
abbrev pub group_named : ℕ → Option CharSet
group_named c =
    if c == 76 then Some (InGroup group.Letter) else (if c == 77 then Some (InGroup group.Mark) else
    (if c == 78 then Some (InGroup group.Number) else (if c == 80 then Some (InGroup group.Punctuation) else
    (if c == 90 then Some (InGroup group.Separator) else (if c == 83 then Some (InGroup group.Symbol) else
    (if c == 67 then Some (InGroup group.Other) else None))))))

-- Lu, Ll, Lt, Lm, Lo
abbrev pub letter_named : ℕ → Option CharSet
letter_named d =
    if d == 117 then Some (InCategory category.UppercaseLetter) else (if d == 108 then Some (InCategory category.LowercaseLetter) else
    (if d == 116 then Some (InCategory category.TitlecaseLetter) else (if d == 109 then Some (InCategory category.ModifierLetter) else
    (if d == 111 then Some (InCategory category.OtherLetter) else None))))

-- Mn, Mc, Me
abbrev pub mark_named : ℕ → Option CharSet
mark_named d =
    if d == 110 then Some (InCategory category.NonspacingMark) else (if d == 99 then Some (InCategory category.SpacingMark) else
    (if d == 101 then Some (InCategory category.EnclosingMark) else None))

-- Nd, Nl, No
abbrev pub number_named : ℕ → Option CharSet
number_named d =
    if d == 100 then Some (InCategory category.DecimalNumber) else (if d == 108 then Some (InCategory category.LetterNumber) else
    (if d == 111 then Some (InCategory category.OtherNumber) else None))

-- Pc, Pd, Ps, Pe, Pi, Pf, Po
abbrev pub punctuation_named : ℕ → Option CharSet
punctuation_named d =
    if d == 99 then Some (InCategory category.ConnectorPunctuation) else (if d == 100 then Some (InCategory category.DashPunctuation) else
    (if d == 115 then Some (InCategory category.OpenPunctuation) else (if d == 101 then Some (InCategory category.ClosePunctuation) else
    (if d == 105 then Some (InCategory category.InitialPunctuation) else (if d == 102 then Some (InCategory category.FinalPunctuation) else
    (if d == 111 then Some (InCategory category.OtherPunctuation) else None))))))

-- Zs, Zl, Zp
abbrev pub separator_named : ℕ → Option CharSet
separator_named d =
    if d == 115 then Some (InCategory category.SpaceSeparator) else (if d == 108 then Some (InCategory category.LineSeparator) else
    (if d == 112 then Some (InCategory category.ParagraphSeparator) else None))

-- Sm, Sc, Sk, So
abbrev pub symbol_named : ℕ → Option CharSet
symbol_named d =
    if d == 109 then Some (InCategory category.MathSymbol) else (if d == 99 then Some (InCategory category.CurrencySymbol) else
    (if d == 107 then Some (InCategory category.ModifierSymbol) else (if d == 111 then Some (InCategory category.OtherSymbol) else None)))

-- Cc, Cf, Co, Cn
abbrev pub other_named : ℕ → Option CharSet
other_named d =
    if d == 99 then Some (InCategory category.Control) else (if d == 102 then Some (InCategory category.Format) else
    (if d == 111 then Some (InCategory category.PrivateUse) else (if d == 110 then Some (InCategory category.Unassigned) else None)))

abbrev pub category_named : ℕ → ℕ → Option CharSet
category_named c d =
    if c == 76 then letter_named d else (if c == 77 then mark_named d else (if c == 78 then number_named d else
    (if c == 80 then punctuation_named d else (if c == 90 then separator_named d else
    (if c == 83 then symbol_named d else (if c == 67 then other_named d else None))))))

abbrev pub block_named : List ℕ → Option CharSet
block_named name =
    if bytes_eq name (codes "IsBasicLatin") then Some (InBlock BasicLatin) else
    (if bytes_eq name (codes "IsLatin-1Supplement") then Some (InBlock LatinOneSupplement) else
    (if bytes_eq name (codes "IsLatinExtended-A") then Some (InBlock LatinExtendedA) else
    (if bytes_eq name (codes "IsLatinExtended-B") then Some (InBlock LatinExtendedB) else None)))

-- the characters of the class of a name, where it is an accepted one
abbrev pub set_named : List ℕ → Option CharSet
set_named [] = None
set_named (c ∷ []) = group_named c
set_named (c ∷ (d ∷ [])) = category_named c d
set_named (c ∷ (d ∷ (e ∷ name))) = block_named (c ∷ (d ∷ (e ∷ name)))

-- the name is written as one of a block
abbrev pub begins_is : List ℕ → Bool
begins_is [] = false
begins_is (c ∷ []) = false
begins_is (c ∷ (d ∷ name)) = c == 73 && d == 115

pub example-block : set_named (codes "IsLatin-1Supplement") ≡ Some (InBlock LatinOneSupplement)
example-block = refl

pub example-surrogates : set_named (codes "Cs") ≡ None
example-surrogates = refl
