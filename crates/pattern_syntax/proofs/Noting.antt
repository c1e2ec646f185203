-- What the machine has noted behind an expression: its first class name that is not accepted, and whether a number is large.
use Rattle.std.proofs.Common.{◌≡◌, ℕ, Bool, true, false, ◌||◌, List, [], ◌∷◌, ◌++◌, Option, Some, None, refl, ap, sym, ◌∙◌}
use Rattle.std.specs.List.{list_any}
use Rattle.pattern_syntax.specs.declared.fault.PatternFault.{PatternFault}
use Rattle.pattern_syntax.specs.declared.fault.Notes.{Notes}
use Rattle.pattern_syntax.specs.Notes.{name_fault, first_of, is_large, with_name, with_number}
use Rattle.pattern_syntax.specs.Reading.{first_fault}
use Rattle.pattern_syntax.specs.Grammar.{RegExp, alone, joined, Branch, no_piece, piece, Atom, normal, wildcard, single, special, bracketed, group, Quantifier, once, optional, any_number, at_least_once, exactly, at_least, between, Bracketed, only, less, Part, one, range, set, Escape, several, property, number, escape_names, part_names, parts_names, bracketed_names, quantifier_numbers, regexp_names, branch_names, atom_names, regexp_numbers, branch_numbers, atom_numbers}
use Rattle.pattern_syntax.proofs.Effects.{escape_noted, part_noted, parts_noted, bracketed_noted, quantifier_noted, regexp_noted, branch_noted, atom_noted}

-- the notes with these names and numbers
abbrev noted_with : Notes → List (List ℕ) → List ℕ → Notes
noted_with m names numbers = record { bad_name = first_of m.bad_name (first_fault names); too_large = m.too_large || list_any is_large numbers }

first_of_none : {A : Type 0} (x : Option A) → first_of x None ≡ x
first_of_none None = refl
first_of_none (Some a) = refl

first_of_assoc : {A : Type 0} (x y z : Option A) → first_of (first_of x y) z ≡ first_of x (first_of y z)
first_of_assoc None y z = refl
first_of_assoc (Some a) y z = refl

or_false : (x : Bool) → (x || false) ≡ x
or_false true = refl
or_false false = refl

or_assoc : (x y z : Bool) → ((x || y) || z) ≡ (x || (y || z))
or_assoc true y z = refl
or_assoc false y z = refl

first_fault_append : (xs ys : List (List ℕ)) → first_fault (xs ++ ys) ≡ first_of (first_fault xs) (first_fault ys)
first_fault_append [] ys = refl
first_fault_append (x ∷ xs) ys = ap (first_of (name_fault x)) (first_fault_append xs ys) ∙ sym (first_of_assoc (name_fault x) (first_fault xs) (first_fault ys))

any_append : (xs ys : List ℕ) → list_any is_large (xs ++ ys) ≡ (list_any is_large xs || list_any is_large ys)
any_append [] ys = refl
any_append (x ∷ xs) ys = ap (λ t. is_large x || t) (any_append xs ys) ∙ sym (or_assoc (is_large x) (list_any is_large xs) (list_any is_large ys))

same_notes : (x y : Option PatternFault) (a b : Bool) → x ≡ y → a ≡ b → ◌≡◌ {A = Notes} (record { bad_name = x; too_large = a }) (record { bad_name = y; too_large = b })
same_notes x y a b e f = λ i. record { bad_name = e i; too_large = f i }

nothing_noted : (m : Notes) → m ≡ noted_with m [] []
nothing_noted m = same_notes m.bad_name (first_of m.bad_name None) m.too_large (m.too_large || false) (sym (first_of_none m.bad_name)) (sym (or_false m.too_large))

more_noted : (m : Notes) (names others : List (List ℕ)) (xs ys : List ℕ) → noted_with (noted_with m names xs) others ys ≡ noted_with m (names ++ others) (xs ++ ys)
more_noted m names others xs ys =
    same_notes _ _ _ _
    (first_of_assoc m.bad_name (first_fault names) (first_fault others) ∙ ap (first_of m.bad_name) (sym (first_fault_append names others)))
    (or_assoc m.too_large (list_any is_large xs) (list_any is_large ys) ∙ ap (λ t. m.too_large || t) (sym (any_append xs ys)))

one_name : (m : Notes) (name : List ℕ) → with_name m name ≡ noted_with m (name ∷ []) []
one_name m name = same_notes _ _ _ _ (ap (first_of m.bad_name) (sym (first_of_none (name_fault name)))) (sym (or_false m.too_large))

one_number : (m : Notes) (n : ℕ) → with_number m n ≡ noted_with m [] (n ∷ [])
one_number m n = same_notes _ _ _ _ (sym (first_of_none m.bad_name)) (ap (λ t. m.too_large || t) (sym (or_false (is_large n))))

escape_noted_is : (m : Notes) (of : Escape) → escape_noted m of ≡ noted_with m (escape_names of) []
escape_noted_is m (several letter) = nothing_noted m
escape_noted_is m (property complement name) = one_name m name

part_noted_is : (m : Notes) (p : Part) → part_noted m p ≡ noted_with m (part_names p) []
part_noted_is m (one letter) = nothing_noted m
part_noted_is m (range first last) = nothing_noted m
part_noted_is m (set of) = escape_noted_is m of

parts_noted_is : (m : Notes) (ps : List Part) → parts_noted m ps ≡ noted_with m (parts_names ps) []
parts_noted_is m [] = nothing_noted m
parts_noted_is m (p ∷ ps) = ap (λ n. parts_noted n ps) (part_noted_is m p) ∙ parts_noted_is (noted_with m (part_names p) []) ps ∙ more_noted m (part_names p) (parts_names ps) [] []

bracketed_noted_is : (b : Bracketed) (m : Notes) → bracketed_noted m b ≡ noted_with m (bracketed_names b) []
bracketed_noted_is (only ms) m = parts_noted_is m ms.parts
bracketed_noted_is (less ms sub) m =
    ap (λ n. bracketed_noted n sub) (parts_noted_is m ms.parts) ∙ bracketed_noted_is sub (noted_with m (parts_names ms.parts) []) ∙ more_noted m (parts_names ms.parts) (bracketed_names sub) [] []

quantifier_noted_is : (m : Notes) (q : Quantifier) → quantifier_noted m q ≡ noted_with m [] (quantifier_numbers q)
quantifier_noted_is m once = nothing_noted m
quantifier_noted_is m optional = nothing_noted m
quantifier_noted_is m any_number = nothing_noted m
quantifier_noted_is m at_least_once = nothing_noted m
quantifier_noted_is m (exactly digits) = one_number m (number digits)
quantifier_noted_is m (at_least digits) = one_number m (number digits)
quantifier_noted_is m (between least most) =
    ap (λ n. with_number n (number most)) (one_number m (number least)) ∙ one_number (noted_with m [] (number least ∷ [])) (number most) ∙ more_noted m [] [] (number least ∷ []) (number most ∷ [])

mutual
  pub regexp_noted_is : (r : RegExp) (m : Notes) → regexp_noted r m ≡ noted_with m (regexp_names r) (regexp_numbers r)
  regexp_noted_is (alone branch) m = branch_noted_is branch m
  regexp_noted_is (joined branch branches) m =
      ap (regexp_noted branches) (branch_noted_is branch m)
      ∙ regexp_noted_is branches (noted_with m (branch_names branch) (branch_numbers branch))
      ∙ more_noted m (branch_names branch) (regexp_names branches) (branch_numbers branch) (regexp_numbers branches)

  branch_noted_is : (branch : Branch) (m : Notes) → branch_noted branch m ≡ noted_with m (branch_names branch) (branch_numbers branch)
  branch_noted_is no_piece m = nothing_noted m
  branch_noted_is (piece atom quantifier pieces) m =
      ap (λ n. branch_noted pieces (quantifier_noted n quantifier)) (atom_noted_is atom m)
      ∙ ap (branch_noted pieces) (quantifier_noted_is (noted_with m (atom_names atom) (atom_numbers atom)) quantifier)
      ∙ branch_noted_is pieces (noted_with (noted_with m (atom_names atom) (atom_numbers atom)) [] (quantifier_numbers quantifier))
      ∙ more_noted (noted_with m (atom_names atom) (atom_numbers atom)) [] (branch_names pieces) (quantifier_numbers quantifier) (branch_numbers pieces)
      ∙ more_noted m (atom_names atom) (branch_names pieces) (atom_numbers atom) (quantifier_numbers quantifier ++ branch_numbers pieces)

  atom_noted_is : (atom : Atom) (m : Notes) → atom_noted atom m ≡ noted_with m (atom_names atom) (atom_numbers atom)
  atom_noted_is (normal c) m = nothing_noted m
  atom_noted_is wildcard m = nothing_noted m
  atom_noted_is (single e) m = nothing_noted m
  atom_noted_is (special of) m = escape_noted_is m of
  atom_noted_is (bracketed class) m = bracketed_noted_is class m
  atom_noted_is (group inside) m = regexp_noted_is inside m
