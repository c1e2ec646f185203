-- The literals of lists and of unions: Structures 3.14.4, Datatypes 4.1.4 and 2.5.1.
use Rattle.std.specs.Prelude.{◌≡◌, ℕ, ◌+◌, nat_lt, nat_le, Bool, true, false, ◌||◌, if◌then◌else◌, List, [], ◌∷◌, ◌++◌, length, Option, None, Some, Result, Ok, Err}
use Rattle.xs_names.specs.WhiteSpace.{normalized, items}
use Rattle.xs_codes.specs.declared.code.Code.{Code}
use Rattle.xs_codes.specs.declared.code.Code.TheVariants.{CvcDatatypeValid1, XLimitValue, XLimitItems}
use Rattle.simple_values.specs.declared.atoms.TypedAtom.{TypedAtom}
use Rattle.simple_values.specs.declared.value.Value.{Value}
use Rattle.simple_values.specs.declared.value.Value.TheVariants as values
use Rattle.facet_checks.specs.declared.list.FacetList.{FacetList}
use Rattle.facet_checks.specs.Check.{IsChecked}
use Rattle.facets.specs.declared.atomic.Accepted.{Accepted}
use Rattle.facets.specs.declared.members.Plain.{Plain}
use Rattle.facets.specs.declared.members.Gate.{Gate}
use Rattle.facets.specs.declared.members.Choices.{Choices}
use Rattle.facets.specs.declared.members.Literals.{Literals}
use Rattle.facets.specs.declared.members.Literals.TheVariants.{OfBuiltin, OfList}
use Rattle.facets.specs.declared.members.Member.{Member}
use Rattle.facets.specs.UnionMembers.{Members}
use Rattle.facets.specs.declared.trying.Turn.{Turn}
use Rattle.facets.specs.declared.trying.Turn.TheVariants.{Ends, From}
use Rattle.facets.specs.Atomic.{IsAtomicRead, IsJudged, way_of}

abbrev pub Scope : Type 0
Scope = List (List ℕ × ℕ)

abbrev pub is_limit : Code → Bool
is_limit XLimitValue = true
is_limit XLimitItems = true
is_limit _ = false

-- the end of a union whose facets are not met
abbrev pub end_if : Option Code → ℕ → Option ℕ
end_if None end = None
end_if (Some code) end = Some end

abbrev pub IsShutIf : Bool → Gate → Accepted → Option ℕ → Type 0
IsShutIf true gate accepted next = next ≡ None
IsShutIf false gate accepted next = (code : Option Code) × IsChecked gate.list accepted.value accepted.text code × (next ≡ end_if code gate.to)

-- a union among the members has the one of the index, and what that accepted does not meet the facets of the union
abbrev pub IsShutAt : Gate → ℕ → Accepted → Option ℕ → Type 0
IsShutAt gate index accepted next = IsShutIf (nat_lt index gate.from || nat_le gate.to index) gate accepted next

abbrev pub IsShutBy : Option ℕ → Type 0 → Option ℕ → Type 0
IsShutBy (Some end) Rest next = next ≡ Some end
IsShutBy None Rest next = Rest

-- the first of these unions whose facets are not met: its members have all refused
abbrev pub IsShut : List Gate → ℕ → Accepted → Option ℕ → Type 0
IsShut [] index accepted next = next ≡ None
IsShut (gate ∷ gates) index accepted next =
    (first : Option ℕ) × IsShutAt gate index accepted first × IsShutBy first (IsShut gates index accepted next) next

abbrev pub turn_by : Option ℕ → Accepted → Turn
turn_by None accepted = Ends (Ok accepted)
turn_by (Some next) accepted = From next

-- what comes of a member: it accepts the text, and then the unions that it stands in have to; or it answers a limit, which
-- ends the trial; or else the members behind it are tried
abbrev pub IsTurn : List Gate → ℕ → ℕ → Result Accepted Code → Turn → Type 0
IsTurn gates index start (Err code) turn = turn ≡ (if is_limit code then Ends (Err code) else From start)
IsTurn gates index start (Ok accepted) turn = (next : Option ℕ) × IsShut gates index accepted next × (turn ≡ turn_by next accepted)

abbrev pub IsTurned : Turn → (ℕ → Type 0) → Result Accepted Code → Type 0
IsTurned (Ends answer) Rest outcome = outcome ≡ answer
IsTurned (From next) Rest outcome = Rest next

module _ {M : Type 0} (Reads : M → Result Accepted Code → Type 0) (gates : List Gate) where
  abbrev pub IsTriedIf : Bool → M → ℕ → ℕ → (ℕ → Type 0) → Result Accepted Code → Type 0
  IsTriedIf true member index start Rest outcome = Rest start
  IsTriedIf false member index start Rest outcome =
      (first : Result Accepted Code) × (turn : Turn) × Reads member first × IsTurn gates index start first turn × IsTurned turn Rest outcome

  -- cvc-datatype-valid.1 (Datatypes 4.1.4, 2.5.1.3): the members are tried in order, from an index on, those before the
  -- one to start with left out; no member accepts the text
  abbrev pub AreTried : ℕ → ℕ → List M → Result Accepted Code → Type 0
  AreTried index start [] outcome = outcome ≡ Err CvcDatatypeValid1
  AreTried index start (member ∷ members) outcome =
      IsTriedIf (nat_lt index start) member index start (λ next. AreTried (index + 1) next members outcome) outcome

abbrev pub IsPlainRead : Scope → List ℕ → Plain → Result Accepted Code → Type 0
IsPlainRead scope text plain outcome = IsAtomicRead plain.kind plain.list scope text outcome

abbrev pub ArePlainsTried : List Gate → Scope → List ℕ → ℕ → ℕ → List Plain → Result Accepted Code → Type 0
ArePlainsTried gates scope text index start members outcome = AreTried (IsPlainRead scope text) gates index start members outcome

-- an item of a list: its own limit, else cvc-datatype-valid.1, is its code
abbrev pub IsItemRead : Choices → Scope → List ℕ → Result Accepted Code → Type 0
IsItemRead choices scope text outcome = ArePlainsTried choices.gates scope text 0 0 choices.members outcome

abbrev pub atoms_in : Value → List TypedAtom
atoms_in (values.Atom kind atom) = record { builtin = kind; atom = atom } ∷ []
atoms_in (values.List atoms) = atoms

abbrev pub IsItemThen : Result Accepted Code → (List TypedAtom → Type 0) → Result (List TypedAtom) Code → Type 0
IsItemThen (Err code) Rest outcome = outcome ≡ Err code
IsItemThen (Ok accepted) Rest outcome = Rest (atoms_in accepted.value)

-- the items of a list, behind those that are read; the first that is not valid gives the code
abbrev pub AreItemsRead : Choices → Scope → List TypedAtom → List (List ℕ) → Result (List TypedAtom) Code → Type 0
AreItemsRead choices scope front [] outcome = outcome ≡ Ok front
AreItemsRead choices scope front (text ∷ texts) outcome =
    (first : Result Accepted Code) × IsItemRead choices scope text first
    × IsItemThen first (λ atoms. AreItemsRead choices scope (front ++ atoms) texts outcome) outcome

abbrev pub IsListJudged : FacetList → List ℕ → Result (List TypedAtom) Code → Result Accepted Code → Type 0
IsListJudged facets text (Err code) outcome = outcome ≡ Err code
IsListJudged facets text (Ok atoms) outcome = IsJudged facets (values.List atoms) text outcome

abbrev pub IsListReadIf : Bool → Choices → FacetList → Scope → List ℕ → Result Accepted Code → Type 0
IsListReadIf true choices facets scope text outcome = outcome ≡ Err XLimitItems
IsListReadIf false choices facets scope text outcome =
    (atoms : Result (List TypedAtom) Code) × AreItemsRead choices scope [] (items text) atoms × IsListJudged facets text atoms outcome

-- x-limit.items (own): a list has more than 65,536 items. Else its items are read, and then the facets are tried.
abbrev pub IsListRead : Choices → FacetList → Scope → List ℕ → Result Accepted Code → Type 0
IsListRead choices facets scope text outcome =
    IsListReadIf (nat_lt 65_536 (length (items (normalized (way_of facets) text)))) choices facets scope (normalized (way_of facets) text) outcome

-- a literal of a type that is no union
abbrev pub IsLiteralRead : Literals → FacetList → Scope → List ℕ → Result Accepted Code → Type 0
IsLiteralRead (OfBuiltin kind) facets scope text outcome = IsAtomicRead kind facets scope text outcome
IsLiteralRead (OfList choices) facets scope text outcome = IsListRead choices facets scope text outcome

abbrev pub IsMemberRead : Scope → List ℕ → Member → Result Accepted Code → Type 0
IsMemberRead scope text member outcome = IsLiteralRead member.literals member.list scope text outcome

abbrev pub AreMembersTried : List Gate → Scope → List ℕ → ℕ → ℕ → List Member → Result Accepted Code → Type 0
AreMembersTried gates scope text index start members outcome = AreTried (IsMemberRead scope text) gates index start members outcome

-- a literal of a union, as its first member reads it that accepts it
abbrev pub IsUnionRead : Members → Scope → List ℕ → Result Accepted Code → Type 0
IsUnionRead union_of scope text outcome = AreMembersTried union_of.gates scope text 0 0 union_of.members outcome
