-- What a text comes to by the facets in force for a type is determined.
use Rattle.std.proofs.Common.{◌≡◌, ◌↔◌, ℕ, ◌+◌, Bool, true, false, ◌||◌, List, [], ◌∷◌, ◌++◌, length, Option, None, Some, refl, sym, ap, ◌∙◌, subst}
use Rattle.std.specs.Prelude.{nat_lt, nat_le, Result, Ok, Err, IsTrue}
use Rattle.xs_names.specs.WhiteSpace.{normalized, items}
use Rattle.xs_codes.specs.declared.builtin.Builtin.{Builtin}
use Rattle.xs_codes.specs.declared.code.Code.{Code}
use Rattle.simple_values.specs.declared.atoms.TypedAtom.{TypedAtom}
use Rattle.simple_values.specs.declared.fault.ValueFault.{ValueFault}
use Rattle.simple_values.specs.declared.value.Value.{Value}
use Rattle.simple_values.specs.declared.value.Value.TheVariants as values
use Rattle.simple_values.specs.Reading.{literal_value}
use Rattle.facet_checks.specs.declared.list.FacetList.{FacetList}
use Rattle.facet_checks.specs.Check.{check_code, IsChecked}
use Rattle.facets.specs.declared.atomic.Accepted.{Accepted}
use Rattle.facets.specs.declared.facets.Facets.{Facets}
use Rattle.facets.specs.declared.members.Plain.{Plain}
use Rattle.facets.specs.declared.members.Gate.{Gate}
use Rattle.facets.specs.declared.members.Choices.{Choices}
use Rattle.facets.specs.declared.members.Literals.{Literals}
use Rattle.facets.specs.declared.members.Literals.TheVariants.{OfBuiltin, OfList}
use Rattle.facets.specs.declared.members.Member.{Member}
use Rattle.facets.specs.declared.members.Source.{Source}
use Rattle.facets.specs.declared.members.Source.TheVariants as sources
use Rattle.facets.specs.declared.trying.Turn.{Turn}
use Rattle.facets.specs.declared.trying.Turn.TheVariants.{Ends, From}
use Rattle.facets.specs.Atomic.{way_of, accepted, IsJudged, IsValueJudged, has_too_many, IsReadUnless, IsAtomicRead}
use Rattle.facets.specs.Trying.{Scope, end_if, IsShutIf, IsShutBy, IsShut, turn_by, IsTurn, IsTurned, IsTriedIf, AreTried, IsPlainRead, atoms_in, IsItemThen, AreItemsRead, IsListJudged, IsListReadIf, IsLiteralRead, IsMemberRead}
use Rattle.facets.specs.Source.{IsUnionJudged, IsSourceRead, IsRead}

same-truth : {P : Type 0} (m n : Bool) → (IsTrue m ↔ P) → (IsTrue n ↔ P) → m ≡ n
same-truth true true x y = refl
same-truth true false x y = sym (y.1 (x.0 refl))
same-truth false true x y = x.1 (y.0 refl)
same-truth false false x y = refl

checked-is : (facets : FacetList) (value : Value) (text : List ℕ) (a b : Option Code) → IsChecked facets value text a → IsChecked facets value text b → a ≡ b
checked-is facets value text a b x y = x.2 ∙ (ap (λ (m : Bool). check_code m facets value) (same-truth x.0 y.0 x.1 y.1) ∙ sym y.2)

pub judged-is : (facets : FacetList) (value : Value) (text : List ℕ) (a b : Result Accepted Code) → IsJudged facets value text a → IsJudged facets value text b → a ≡ b
judged-is facets value text a b x y = x.2 ∙ (ap (accepted value text) (checked-is facets value text x.0 y.0 x.1 y.1) ∙ sym y.2)

value-judged-is : (facets : FacetList) (text : List ℕ) (v : Result Value ValueFault) (a b : Result Accepted Code) → IsValueJudged facets text v a → IsValueJudged facets text v b → a ≡ b
value-judged-is facets text (Err fault) a b x y = x ∙ sym y
value-judged-is facets text (Ok value) a b x y = judged-is facets value text a b x y

unless-is : (by : Bool) (facets : FacetList) (text : List ℕ) (v : Result Value ValueFault) (a b : Result Accepted Code) → IsReadUnless by facets text v a → IsReadUnless by facets text v b → a ≡ b
unless-is true facets text v a b x y = x ∙ sym y
unless-is false facets text v a b x y = value-judged-is facets text v a b x y

pub atomic-is : (kind : Builtin) (facets : FacetList) (scope : Scope) (text : List ℕ) (a b : Result Accepted Code) → IsAtomicRead kind facets scope text a → IsAtomicRead kind facets scope text b → a ≡ b
atomic-is kind facets scope text a b x y =
    unless-is (has_too_many kind (normalized (way_of facets) text)) facets (normalized (way_of facets) text) (literal_value kind scope (normalized (way_of facets) text)) a b x y

-- ---- members, tried one after another

shut-if-is : (by : Bool) (gate : Gate) (given : Accepted) (m n : Option ℕ) → IsShutIf by gate given m → IsShutIf by gate given n → m ≡ n
shut-if-is true gate given m n x y = x ∙ sym y
shut-if-is false gate given m n x y =
    x.2 ∙ (ap (λ (code : Option Code). end_if code gate.to) (checked-is gate.list given.value given.text x.0 y.0 x.1 y.1) ∙ sym y.2)

shut-by-is : (P Q : Type 0) (first m n : Option ℕ) → (P → Q → m ≡ n) → IsShutBy first P m → IsShutBy first Q n → m ≡ n
shut-by-is P Q (Some end) m n more x y = x ∙ sym y
shut-by-is P Q None m n more x y = more x y

shut-is : (gates : List Gate) (index : ℕ) (given : Accepted) (m n : Option ℕ) → IsShut gates index given m → IsShut gates index given n → m ≡ n
shut-is [] index given m n x y = x ∙ sym y
shut-is (gate ∷ gates) index given m n x y =
    let first : x.0 ≡ y.0 = shut-if-is (nat_lt index gate.from || nat_le gate.to index) gate given x.0 y.0 x.1 y.1 in
    shut-by-is (IsShut gates index given m) (IsShut gates index given n) y.0 m n (λ p q. shut-is gates index given m n p q)
    (subst (λ (o : Option ℕ). IsShutBy o (IsShut gates index given m) m) first x.2) y.2

turn-is : (gates : List Gate) (index start : ℕ) (r : Result Accepted Code) (s t : Turn) → IsTurn gates index start r s → IsTurn gates index start r t → s ≡ t
turn-is gates index start (Err code) s t x y = x ∙ sym y
turn-is gates index start (Ok given) s t x y =
    x.2 ∙ (ap (λ (next : Option ℕ). turn_by next given) (shut-is gates index given x.0 y.0 x.1 y.1) ∙ sym y.2)

turned-is : (P Q : ℕ → Type 0) (turn : Turn) (a b : Result Accepted Code) → ((next : ℕ) → P next → Q next → a ≡ b) → IsTurned turn P a → IsTurned turn Q b → a ≡ b
turned-is P Q (Ends answer) a b more x y = x ∙ sym y
turned-is P Q (From next) a b more x y = more next x y

module _ {M : Type 0} (Reads : M → Result Accepted Code → Type 0) (gates : List Gate) (one : (m : M) (a b : Result Accepted Code) → Reads m a → Reads m b → a ≡ b) where
  tried-if-is : (P Q : ℕ → Type 0) (by : Bool) (m : M) (index start : ℕ) (a b : Result Accepted Code) → ((next : ℕ) → P next → Q next → a ≡ b) →
      IsTriedIf Reads gates by m index start P a → IsTriedIf Reads gates by m index start Q b → a ≡ b
  tried-if-is P Q true m index start a b more x y = more start x y
  tried-if-is P Q false m index start a b more x y =
      let first : x.0 ≡ y.0 = one m x.0 y.0 x.2 y.2 in
      let turn : x.1 ≡ y.1 = turn-is gates index start y.0 x.1 y.1 (subst (λ (r : Result Accepted Code). IsTurn gates index start r x.1) first x.3) y.3 in
      turned-is P Q y.1 a b more (subst (λ (t : Turn). IsTurned t P a) turn x.4) y.4

  tried-are : (members : List M) (index start : ℕ) (a b : Result Accepted Code) → AreTried Reads gates index start members a → AreTried Reads gates index start members b → a ≡ b
  tried-are [] index start a b x y = x ∙ sym y
  tried-are (m ∷ ms) index start a b x y = tried-if-is (λ next. AreTried Reads gates (index + 1) next ms a) (λ next. AreTried Reads gates (index + 1) next ms b) (nat_lt index start) m index start a b (λ next p q. tried-are ms (index + 1) next a b p q) x y

-- ---- lists

pub list-judged-is : (facets : FacetList) (text : List ℕ) (atoms : Result (List TypedAtom) Code) (a b : Result Accepted Code) → IsListJudged facets text atoms a → IsListJudged facets text atoms b → a ≡ b
list-judged-is facets text (Err code) a b x y = x ∙ sym y
list-judged-is facets text (Ok atoms) a b x y = judged-is facets (values.List atoms) text a b x y

pub union-judged-is : (facets : FacetList) (first a b : Result Accepted Code) → IsUnionJudged facets first a → IsUnionJudged facets first b → a ≡ b
union-judged-is facets (Err code) a b x y = x ∙ sym y
union-judged-is facets (Ok given) a b x y = judged-is facets given.value given.text a b x y

item-then-is : (P Q : List TypedAtom → Type 0) (r : Result Accepted Code) (a b : Result (List TypedAtom) Code) → ((atoms : List TypedAtom) → P atoms → Q atoms → a ≡ b) → IsItemThen r P a → IsItemThen r Q b → a ≡ b
item-then-is P Q (Err code) a b more x y = x ∙ sym y
item-then-is P Q (Ok given) a b more x y = more (atoms_in given.value) x y

plain-is : (scope : Scope) (text : List ℕ) (plain : Plain) (a b : Result Accepted Code) → IsPlainRead scope text plain a → IsPlainRead scope text plain b → a ≡ b
plain-is scope text plain a b x y = atomic-is plain.kind plain.list scope text a b x y

items-are : (choices : Choices) (scope : Scope) (texts : List (List ℕ)) (front : List TypedAtom) (a b : Result (List TypedAtom) Code) → AreItemsRead choices scope front texts a → AreItemsRead choices scope front texts b → a ≡ b
items-are choices scope [] front a b x y = x ∙ sym y
items-are choices scope (text ∷ texts) front a b x y =
    let first : x.0 ≡ y.0 = tried-are (IsPlainRead scope text) choices.gates (plain-is scope text) choices.members 0 0 x.0 y.0 x.1 y.1 in
    item-then-is (λ atoms. AreItemsRead choices scope (front ++ atoms) texts a) (λ atoms. AreItemsRead choices scope (front ++ atoms) texts b) y.0 a b (λ atoms p q. items-are choices scope texts (front ++ atoms) a b p q)
    (subst (λ (r : Result Accepted Code). IsItemThen r (λ atoms. AreItemsRead choices scope (front ++ atoms) texts a) a) first x.2) y.2

list-if-is : (by : Bool) (choices : Choices) (facets : FacetList) (scope : Scope) (text : List ℕ) (a b : Result Accepted Code) → IsListReadIf by choices facets scope text a → IsListReadIf by choices facets scope text b → a ≡ b
list-if-is true choices facets scope text a b x y = x ∙ sym y
list-if-is false choices facets scope text a b x y =
    let atoms : x.0 ≡ y.0 = items-are choices scope (items text) [] x.0 y.0 x.1 y.1 in
    list-judged-is facets text y.0 a b (subst (λ (r : Result (List TypedAtom) Code). IsListJudged facets text r a) atoms x.2) y.2

literal-read-is : (literals : Literals) (facets : FacetList) (scope : Scope) (text : List ℕ) (a b : Result Accepted Code) → IsLiteralRead literals facets scope text a → IsLiteralRead literals facets scope text b → a ≡ b
literal-read-is (OfBuiltin kind) facets scope text a b x y = atomic-is kind facets scope text a b x y
literal-read-is (OfList choices) facets scope text a b x y =
    list-if-is (nat_lt 65_536 (length (items (normalized (way_of facets) text)))) choices facets scope (normalized (way_of facets) text) a b x y

member-is : (scope : Scope) (text : List ℕ) (m : Member) (a b : Result Accepted Code) → IsMemberRead scope text m a → IsMemberRead scope text m b → a ≡ b
member-is scope text m a b x y = literal-read-is m.literals m.list scope text a b x y

source-is : (source : Source) (facets : FacetList) (scope : Scope) (text : List ℕ) (a b : Result Accepted Code) → IsSourceRead source facets scope text a → IsSourceRead source facets scope text b → a ≡ b
source-is (sources.Literals literals) facets scope text a b x y = literal-read-is literals facets scope text a b x y
source-is (sources.Union members) facets scope text a b x y =
    let first : x.0 ≡ y.0 = tried-are (IsMemberRead scope text) members.gates (member-is scope text) members.members 0 0 x.0 y.0 x.1 y.1 in
    union-judged-is facets y.0 a b (subst (λ (r : Result Accepted Code). IsUnionJudged facets r a) first x.2) y.2

-- a literal of a type with these facets
pub facets-read-is : (facets : Facets) (scope : Scope) (text : List ℕ) (a b : Result Accepted Code) → IsRead facets scope text a → IsRead facets scope text b → a ≡ b
facets-read-is facets scope text a b x y = source-is facets.source facets.list scope text a b x y
