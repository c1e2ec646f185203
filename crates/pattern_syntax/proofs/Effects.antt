-- What the machine holds behind each part of an expression.
use Rattle.std.proofs.Common.{◌≡◌, ℕ, Bool, true, false, List, [], ◌∷◌, ◌++◌, Option, Some, None, refl, ap, sym, ◌∙◌, append_assoc}
use Rattle.std.proofs.lemmas.List.{append-nil}
use Rattle.pattern_syntax.specs.declared.class.ClassItem.TheVariants.{One}
use Rattle.pattern_syntax.specs.Classes.{Group}
use Rattle.pattern_syntax.specs.Regex.{Regex, repeated, sequence_of, choice_of}
use Rattle.pattern_syntax.specs.declared.fault.Notes.{Notes}
use Rattle.pattern_syntax.specs.Built.{Frame, Built, with_piece, with_bounds, opened, barred, closed, closed_into, all_branches}
use Rattle.pattern_syntax.specs.Classed.{Classed, no_group, with_item, with_negation, with_group, whole_class}
use Rattle.pattern_syntax.specs.Notes.{with_name, with_number}
use Rattle.pattern_syntax.specs.Grammar.{RegExp, alone, joined, Branch, no_piece, piece, Atom, normal, wildcard, single, special, bracketed, group, Quantifier, once, optional, any_number, at_least_once, exactly, at_least, between, Bracketed, only, less, Members, Part, one, range, set, Escape, several, property, part_item, parts_items, hyphen, members_group, bracketed_class, number, bound, quantified, branches_of, pieces_of, atom_regex}
use Rattle.pattern_syntax.proofs.Lists.{change_last_snoc}

-- ---- notes

abbrev pub escape_noted : Notes → Escape → Notes
escape_noted m (several letter) = m
escape_noted m (property complement name) = with_name m name

abbrev pub part_noted : Notes → Part → Notes
part_noted m (one letter) = m
part_noted m (range first last) = m
part_noted m (set escape) = escape_noted m escape

abbrev pub parts_noted : Notes → List Part → Notes
parts_noted m [] = m
parts_noted m (part ∷ parts) = parts_noted (part_noted m part) parts

abbrev pub bracketed_noted : Notes → Bracketed → Notes
bracketed_noted m (only members) = parts_noted m members.parts
bracketed_noted m (less members subtracted) = bracketed_noted (parts_noted m members.parts) subtracted

abbrev pub quantifier_noted : Notes → Quantifier → Notes
quantifier_noted m once = m
quantifier_noted m optional = m
quantifier_noted m any_number = m
quantifier_noted m at_least_once = m
quantifier_noted m (exactly digits) = with_number m (number digits)
quantifier_noted m (at_least digits) = with_number m (number digits)
quantifier_noted m (between least most) = with_number (with_number m (number least)) (number most)

abbrev mutual
  pub regexp_noted : RegExp → Notes → Notes
  regexp_noted (alone branch) m = branch_noted branch m
  regexp_noted (joined branch branches) m = regexp_noted branches (branch_noted branch m)

  pub branch_noted : Branch → Notes → Notes
  branch_noted no_piece m = m
  branch_noted (piece atom quantifier pieces) m = branch_noted pieces (quantifier_noted (atom_noted atom m) quantifier)

  pub atom_noted : Atom → Notes → Notes
  atom_noted (normal c) m = m
  atom_noted wildcard m = m
  atom_noted (single e) m = m
  atom_noted (special of) m = escape_noted m of
  atom_noted (bracketed class) m = bracketed_noted m class
  atom_noted (group inside) m = regexp_noted inside m

-- ---- classes

abbrev pub parts_classed : Classed → List Part → Classed
parts_classed k [] = k
parts_classed k (part ∷ parts) = parts_classed (with_item k (part_item part)) parts

abbrev pub negated_by : Bool → Classed → Classed
negated_by true k = with_negation k
negated_by false k = k

abbrev pub hyphened_by : Bool → Classed → Classed
hyphened_by true k = with_item k (One 45)
hyphened_by false k = k

abbrev pub members_classed : Classed → Members → Classed
members_classed k m = hyphened_by m.last_hyphen (parts_classed (hyphened_by m.first_hyphen (negated_by m.negated k)) m.parts)

abbrev pub bracketed_classed : Classed → Bracketed → Classed
bracketed_classed k (only members) = members_classed k members
bracketed_classed k (less members subtracted) = bracketed_classed (with_group (members_classed k members)) subtracted

parts_classed_is : (k : Classed) (parts : List Part) → parts_classed k parts ≡ record { groups = k.groups; hand = record { negated = k.hand.negated; items = k.hand.items ++ parts_items parts } }
parts_classed_is k [] = ap (λ l. record { groups = k.groups; hand = record { negated = k.hand.negated; items = l } }) (sym (append-nil k.hand.items))
parts_classed_is k (part ∷ parts) =
    parts_classed_is (with_item k (part_item part)) parts
    ∙ ap (λ l. record { groups = k.groups; hand = record { negated = k.hand.negated; items = l } }) (append_assoc k.hand.items (part_item part ∷ []) (parts_items parts))

hyphened_by_is : (b : Bool) (k : Classed) → hyphened_by b k ≡ record { groups = k.groups; hand = record { negated = k.hand.negated; items = k.hand.items ++ hyphen b } }
hyphened_by_is true k = refl
hyphened_by_is false k = ap (λ l. record { groups = k.groups; hand = record { negated = k.hand.negated; items = l } }) (sym (append-nil k.hand.items))

negated_by_is : (b : Bool) (gs : List Group) → negated_by b (record { groups = gs; hand = no_group }) ≡ record { groups = gs; hand = record { negated = b; items = [] } }
negated_by_is true gs = refl
negated_by_is false gs = refl

-- the group of the members, behind groups that are done
pub members_classed_is : (gs : List Group) (m : Members) → members_classed (record { groups = gs; hand = no_group }) m ≡ record { groups = gs; hand = members_group m }
members_classed_is gs m =
    ap (λ k. hyphened_by m.last_hyphen (parts_classed (hyphened_by m.first_hyphen k) m.parts)) (negated_by_is m.negated gs)
    ∙ ap (λ k. hyphened_by m.last_hyphen (parts_classed k m.parts)) (hyphened_by_is m.first_hyphen (record { groups = gs; hand = record { negated = m.negated; items = [] } }))
    ∙ ap (hyphened_by m.last_hyphen) (parts_classed_is (record { groups = gs; hand = record { negated = m.negated; items = hyphen m.first_hyphen } }) m.parts)
    ∙ hyphened_by_is m.last_hyphen (record { groups = gs; hand = record { negated = m.negated; items = hyphen m.first_hyphen ++ parts_items m.parts } })
    ∙ ap (λ l. record { groups = gs; hand = record { negated = m.negated; items = l } }) (append_assoc (hyphen m.first_hyphen) (parts_items m.parts) (hyphen m.last_hyphen))

pub whole_bracketed : (gs : List Group) (b : Bracketed) → whole_class (bracketed_classed (record { groups = gs; hand = no_group }) b) ≡ gs ++ bracketed_class b
whole_bracketed gs (only m) = ap whole_class (members_classed_is gs m)
whole_bracketed gs (less m subtracted) =
    ap (λ k. whole_class (bracketed_classed (with_group k) subtracted)) (members_classed_is gs m)
    ∙ whole_bracketed (gs ++ members_group m ∷ []) subtracted
    ∙ append_assoc gs (members_group m ∷ []) (bracketed_class subtracted)

-- ---- expressions

abbrev pub quantifier_built : Built → Quantifier → Built
quantifier_built b once = b
quantifier_built b optional = with_bounds b 0 (Some 1)
quantifier_built b any_number = with_bounds b 0 None
quantifier_built b at_least_once = with_bounds b 1 None
quantifier_built b (exactly digits) = with_bounds b (bound digits) (Some (bound digits))
quantifier_built b (at_least digits) = with_bounds b (bound digits) None
quantifier_built b (between least most) = with_bounds b (bound least) (Some (bound most))

abbrev pub branch_built : Branch → Built → Built
branch_built no_piece b = b
branch_built (piece atom quantifier pieces) b = branch_built pieces (quantifier_built (with_piece b (atom_regex atom)) quantifier)

abbrev pub regexp_built : RegExp → Built → Built
regexp_built (alone branch) b = branch_built branch b
regexp_built (joined branch branches) b = regexp_built branches (barred (branch_built branch b))

with_bounds_last : (b : Built) (r : Regex) (least : ℕ) (most : Option ℕ) → with_bounds (with_piece b r) least most ≡ with_piece b (repeated r least most)
with_bounds_last b r least most =
    ap (λ l. record { outer = b.outer; here = record { branches = b.here.branches; pieces = l } }) (change_last_snoc (λ x. repeated x least most) b.here.pieces r)

quantifier_built_is : (b : Built) (r : Regex) (q : Quantifier) → quantifier_built (with_piece b r) q ≡ with_piece b (quantified r q)
quantifier_built_is b r once = refl
quantifier_built_is b r optional = with_bounds_last b r 0 (Some 1)
quantifier_built_is b r any_number = with_bounds_last b r 0 None
quantifier_built_is b r at_least_once = with_bounds_last b r 1 None
quantifier_built_is b r (exactly digits) = with_bounds_last b r (bound digits) (Some (bound digits))
quantifier_built_is b r (at_least digits) = with_bounds_last b r (bound digits) None
quantifier_built_is b r (between least most) = with_bounds_last b r (bound least) (Some (bound most))

branch_built_is : (branch : Branch) (b : Built) → branch_built branch b ≡ record { outer = b.outer; here = record { branches = b.here.branches; pieces = b.here.pieces ++ pieces_of branch } }
branch_built_is no_piece b = ap (λ l. record { outer = b.outer; here = record { branches = b.here.branches; pieces = l } }) (sym (append-nil b.here.pieces))
branch_built_is (piece atom quantifier pieces) b =
    ap (branch_built pieces) (quantifier_built_is b (atom_regex atom) quantifier)
    ∙ branch_built_is pieces (with_piece b (quantified (atom_regex atom) quantifier))
    ∙ ap (λ l. record { outer = b.outer; here = record { branches = b.here.branches; pieces = l } }) (append_assoc b.here.pieces (quantified (atom_regex atom) quantifier ∷ []) (pieces_of pieces))

pub regexp_outer : (r : RegExp) (b : Built) → (regexp_built r b).outer ≡ b.outer
regexp_outer (alone branch) b = ap (λ x. x.outer) (branch_built_is branch b)
regexp_outer (joined branch branches) b = regexp_outer branches (barred (branch_built branch b)) ∙ ap (λ x. x.outer) (branch_built_is branch b)

pub regexp_branches : (r : RegExp) (outer : List Frame) (bs : List Regex) →
    all_branches (regexp_built r (record { outer = outer; here = record { branches = bs; pieces = [] } })).here ≡ bs ++ branches_of r
regexp_branches (alone branch) outer bs = ap (λ x. all_branches x.here) (branch_built_is branch (record { outer = outer; here = record { branches = bs; pieces = [] } }))
regexp_branches (joined branch branches) outer bs =
    ap (λ x. all_branches (regexp_built branches (barred x)).here) (branch_built_is branch (record { outer = outer; here = record { branches = bs; pieces = [] } }))
    ∙ regexp_branches branches outer (bs ++ sequence_of (pieces_of branch) ∷ [])
    ∙ append_assoc bs (sequence_of (pieces_of branch) ∷ []) (branches_of branches)

-- a group that is read whole is one piece more
pub closed_group : (r : RegExp) (b : Built) → closed (regexp_built r (opened b)) ≡ Some (with_piece b (choice_of (branches_of r)))
closed_group r b =
    ap (λ l. closed_into (regexp_built r (opened b)).here l) (regexp_outer r (opened b))
    ∙ ap (λ l. Some (with_piece b (choice_of l))) (regexp_branches r (b.here ∷ b.outer) [])
