-- Simple validity: Structures 3.14.4, Datatypes 4.1.4.
use Rattle.std.specs.Prelude.{◌≡◌, ℕ, nat_lt, Bool, true, false, if◌then◌else◌, List, [], ◌∷◌, ◌++◌, length, Option, None, Some, Result, Ok, Err}
use Rattle.std.specs.Option.{unwrap_or}
use Rattle.xs_names.specs.WhiteSpace.{normalized, items}
use Rattle.xs_codes.specs.declared.builtin.Builtin.TheVariants.{AnySimpleType}
use Rattle.xs_codes.specs.declared.code.Code.{Code}
use Rattle.xs_codes.specs.declared.code.Code.TheVariants.{CvcDatatypeValid1, XLimitItems}
use Rattle.simple_values.specs.declared.atoms.TypedAtom.{TypedAtom}
use Rattle.facet_checks.specs.declared.list.FacetList.{FacetList}
use Rattle.facets.specs.declared.atomic.Accepted.{Accepted}
use Rattle.facets.specs.declared.facets.Facets.{Facets}
use Rattle.facets.specs.declared.known.Judged.{Judged}
use Rattle.facets.specs.declared.known.Known.{Known}
use Rattle.facets.specs.declared.known.Known.TheVariants as knowns
use Rattle.facets.specs.UnionMembers.{Members}
use Rattle.facets.specs.Atomic.{IsAtomicRead, way_of}
use Rattle.facets.specs.Making.{no_members, with_member}
use Rattle.facets.specs.Source.{of_builtin, list_of, union_of, IsUnionJudged}
use Rattle.facets.specs.Facets.{IsStepJudged}
use Rattle.facets.specs.Trying.{Scope, is_limit, atoms_in, IsListJudged}
use Rattle.simple_types.specs.TypeTree.{TypeTree, not_simple, built_in, restriction, list_type, union_type, MemberTrees, no_member, member}

-- what is known of a type that is made from another: its own facets are, and what its literals are where that is known of
-- the other
abbrev pub made_from : Known → Known
made_from knowns.Whole = knowns.Whole
made_from _ = knowns.Facets

abbrev pub made_from_both : Known → Known → Known
made_from_both knowns.Whole known = made_from known
made_from_both _ known = knowns.Facets

-- a step leaves as much known as there was, or nothing where a facet of it is undefined
abbrev pub known_behind : Known → Option Facets → Known
known_behind known None = knowns.Neither
known_behind known (Some facets) = known

-- the facets of a list, whatever its items are
abbrev pub list_of_any : Facets
list_of_any = unwrap_or (list_of (of_builtin AnySimpleType)) (of_builtin AnySimpleType)

-- cos-list-of-atomic (Structures 3.14.6): a list of lists has no literals
abbrev pub IsListKnown : Option Facets → Known → Facets → Known → Type 0
IsListKnown (Some made) item facets known = (facets ≡ made) × (known ≡ made_from item)
IsListKnown None item facets known = (facets ≡ list_of_any) × (known ≡ knowns.Facets)

abbrev mutual
  -- The facets in force for a type, and what is known of it (Structures 3.14.6): those of a built-in type; those that a step
  -- leaves in force behind those of the base; for a list collapsed white space; for a union none. What is left undefined by a
  -- facet that does not fit, stands twice or is not read, leaves undefined what is made from it.
  pub AreInForce : TypeTree → Facets → Known → Type 0
  AreInForce not_simple facets known = (facets ≡ of_builtin AnySimpleType) × (known ≡ knowns.Neither)
  AreInForce (built_in kind) facets known = (facets ≡ of_builtin kind) × (known ≡ knowns.Whole)
  AreInForce (restriction base step) facets known =
      (behind : Facets) × (base_known : Known) × (judged : Judged) × AreInForce base behind base_known
      × IsStepJudged behind base_known step judged
      × (facets ≡ unwrap_or judged.facets behind) × (known ≡ known_behind base_known judged.facets)
  AreInForce (list_type item) facets known =
      (of : Facets) × (item_known : Known) × AreInForce item of item_known × IsListKnown (list_of of) item_known facets known
  AreInForce (union_type members) facets known = (all : Members) × AreMembers members no_members knowns.Whole all known × (facets ≡ union_of all)

  -- the members of a union behind others
  pub AreMembers : MemberTrees → Members → Known → Members → Known → Type 0
  AreMembers no_member front front_known all known = (all ≡ front) × (known ≡ front_known)
  AreMembers (member first rest) front front_known all known =
      (of : Facets) × (of_known : Known) × AreInForce first of of_known
      × AreMembers rest (with_member front of) (made_from_both front_known of_known) all known

-- the facets of a type whose literals are known
abbrev pub IsMade : TypeTree → Facets → Type 0
IsMade tree facets = AreInForce tree facets knowns.Whole

-- an item of a list that is not valid: its own limit, else cvc-datatype-valid.1
abbrev pub item_code : Code → Code
item_code code = if is_limit code then code else CvcDatatypeValid1

module _ (IsItem : List ℕ → Result Accepted Code → Type 0) where
  abbrev pub IsItemThen : Result Accepted Code → (List TypedAtom → Type 0) → Result (List TypedAtom) Code → Type 0
  IsItemThen (Err code) Rest outcome = outcome ≡ Err (item_code code)
  IsItemThen (Ok accepted) Rest outcome = Rest (atoms_in accepted.value)

  -- the items behind those that are read; the first that is not valid gives the code
  abbrev pub AreItems : List TypedAtom → List (List ℕ) → Result (List TypedAtom) Code → Type 0
  AreItems front [] outcome = outcome ≡ Ok front
  AreItems front (text ∷ texts) outcome =
      (first : Result Accepted Code) × IsItem text first × IsItemThen first (λ atoms. AreItems (front ++ atoms) texts outcome) outcome

  abbrev pub IsListIf : Bool → FacetList → List ℕ → Result Accepted Code → Type 0
  IsListIf true facets text outcome = outcome ≡ Err XLimitItems
  IsListIf false facets text outcome =
      (atoms : Result (List TypedAtom) Code) × AreItems [] (items text) atoms × IsListJudged facets text atoms outcome

  -- x-limit.items: a list has more than 65,536 items. Else its items are read, and then the facets are tried.
  abbrev pub IsList : FacetList → List ℕ → Result Accepted Code → Type 0
  IsList facets text outcome =
      IsListIf (nat_lt 65_536 (length (items (normalized (way_of facets) text)))) facets (normalized (way_of facets) text) outcome

abbrev pub IsTrialIf : Bool → Code → Type 0 → Result Accepted Code → Type 0
IsTrialIf true code Rest outcome = outcome ≡ Err code
IsTrialIf false code Rest outcome = Rest

-- a member that accepts the text decides, and so does one that answers a limit; or else the members behind it are tried
abbrev pub IsTrialThen : Result Accepted Code → Type 0 → Result Accepted Code → Type 0
IsTrialThen (Ok accepted) Rest outcome = outcome ≡ Ok accepted
IsTrialThen (Err code) Rest outcome = IsTrialIf (is_limit code) code Rest outcome

abbrev mutual
  -- What a text comes to by a type with these facets in force. A literal of a built-in type, or a list of literals of the item
  -- type, is judged by them; so is what the first member of a union accepts that accepts the text, as that member reads it.
  pub IsLiteral : TypeTree → FacetList → Scope → List ℕ → Result Accepted Code → Type 0
  IsLiteral not_simple facets scope text outcome = ⊥
  IsLiteral (built_in kind) facets scope text outcome = IsAtomicRead kind facets scope text outcome
  IsLiteral (restriction base step) facets scope text outcome = IsLiteral base facets scope text outcome
  IsLiteral (list_type item) facets scope text outcome =
      IsList (λ part answer. (of : Facets) × IsMade item of × IsLiteral item of.list scope part answer) facets text outcome
  IsLiteral (union_type members) facets scope text outcome =
      (first : Result Accepted Code) × AreTried members scope text first × IsUnionJudged facets first outcome

  -- cvc-datatype-valid.1 (Datatypes 4.1.4, 2.5.1.3): no member accepts the text
  pub AreTried : MemberTrees → Scope → List ℕ → Result Accepted Code → Type 0
  AreTried no_member scope text outcome = outcome ≡ Err CvcDatatypeValid1
  AreTried (member first rest) scope text outcome =
      (of : Facets) × (answer : Result Accepted Code) × IsMade first of × IsLiteral first of.list scope text answer
      × IsTrialThen answer (AreTried rest scope text outcome) outcome

-- 3.14.4: the value of a text, with the text that it was read from, its white space treated; or the code of why it is none
abbrev pub IsValid : TypeTree → Scope → List ℕ → Result Accepted Code → Type 0
IsValid tree scope text outcome = (facets : Facets) × IsMade tree facets × IsLiteral tree facets.list scope text outcome
