-- What a text comes to by a simple type is determined.
use Rattle.std.proofs.Common.{◌≡◌, ℕ, Bool, true, false, List, [], ◌∷◌, ◌++◌, length, Option, None, Some, refl, sym, ap, ◌∙◌, subst}
use Rattle.std.specs.Prelude.{is_some, nat_lt, Result, Ok, Err}
use Rattle.std.specs.Option.{unwrap_or}
use Rattle.std.proofs.lemmas.Option.{same_Some}
use Rattle.xs_names.specs.WhiteSpace.{normalized, items}
use Rattle.xs_codes.specs.declared.code.Code.{Code}
use Rattle.xs_components.specs.Tables.{Tables}
use Rattle.simple_values.specs.declared.atoms.TypedAtom.{TypedAtom}
use Rattle.facet_checks.specs.declared.list.FacetList.{FacetList}
use Rattle.facets.specs.declared.atomic.Accepted.{Accepted}
use Rattle.facets.specs.declared.facets.Facets.{Facets}
use Rattle.facets.specs.declared.known.Known.{Known}
use Rattle.facets.specs.declared.known.Known.TheVariants as knowns
use Rattle.facets.specs.UnionMembers.{Members}
use Rattle.facets.specs.Atomic.{way_of}
use Rattle.facets.specs.Facets.{IsStepJudged}
use Rattle.facets.specs.Making.{no_members, with_member}
use Rattle.facets.specs.Source.{list_of, union_of, IsUnionJudged}
use Rattle.facets.specs.Trying.{Scope, is_limit, atoms_in, IsListJudged}
use Rattle.simple_types.specs.TypeTree.{TypeTree, not_simple, built_in, restriction, list_type, union_type, MemberTrees, no_member, member}
use Rattle.simple_types.specs.SimpleValidity.{made_from, made_from_both, known_behind, IsListKnown, AreInForce, AreMembers, IsMade, IsItemThen, AreItems, IsListIf, IsList, IsTrialIf, IsTrialThen, IsLiteral, AreTried, IsValid}
use Rattle.simple_types.specs.Trees.{type_tree}
use Rattle.simple_types.specs.SimpleTypes.{value_of}
use Rattle.simple_types.specs.Determined.{HasOneOutcomeEach}
use Rattle.simple_types.proofs.Tried.{atomic-is, list-judged-is, union-judged-is}
use Rattle.simple_types.proofs.Steps.{step-same}

-- ---- facets in force, where literals are known

whole-behind : (known : Known) (o : Option Facets) → knowns.Whole ≡ known_behind known o → (known ≡ knowns.Whole) × (is_some o ≡ true)
whole-behind known None e = absurd (cc)
whole-behind known (Some facets) e = (sym e, refl)

whole-made : (known : Known) → knowns.Whole ≡ made_from known → known ≡ knowns.Whole
whole-made knowns.Whole e = refl
whole-made knowns.Facets e = absurd (cc)
whole-made knowns.Neither e = absurd (cc)

whole-both : (front of : Known) → knowns.Whole ≡ made_from_both front of → (front ≡ knowns.Whole) × (of ≡ knowns.Whole)
whole-both knowns.Whole of e = (refl, whole-made of e)
whole-both knowns.Facets of e = absurd (cc)
whole-both knowns.Neither of e = absurd (cc)

list-known : (o : Option Facets) (item : Known) (facets : Facets) → IsListKnown o item facets knowns.Whole → (item ≡ knowns.Whole) × (o ≡ Some facets)
list-known None item facets x = absurd (let e : knowns.Whole ≡ knowns.Facets = x.1 in cc)
list-known (Some made) item facets x = (whole-made item x.1, ap Some (sym x.0))

members-known : (members : MemberTrees) (front all : Members) (known : Known) → AreMembers members front known all knowns.Whole → known ≡ knowns.Whole
members-known no_member front all known x = sym x.1
members-known (member first rest) front all known x = (whole-both known x.1 (sym (members-known rest (with_member front x.0) all (made_from_both known x.1) x.3))).0

member-known : (first : TypeTree) (rest : MemberTrees) (front all : Members) (known : Known) (x : AreMembers (member first rest) front known all knowns.Whole) → x.1 ≡ knowns.Whole
member-known first rest front all known x = (whole-both known x.1 (sym (members-known rest (with_member front x.0) all (made_from_both known x.1) x.3))).1

mutual
  pub made-is : (tree : TypeTree) (f g : Facets) → IsMade tree f → IsMade tree g → f ≡ g
  made-is not_simple f g x y = x.0 ∙ sym y.0
  made-is (built_in kind) f g x y = x.0 ∙ sym y.0
  made-is (restriction base step) f g x y =
      let p = whole-behind x.1 x.2.facets x.6 in
      let q = whole-behind y.1 y.2.facets y.6 in
      let behind : x.0 ≡ y.0 = made-is base x.0 y.0 (subst (AreInForce base x.0) p.0 x.3) (subst (AreInForce base y.0) q.0 y.3) in
      let judged : x.2 ≡ y.2 = step-same y.0 step x.2 y.2
      (subst (λ (b : Facets). IsStepJudged b knowns.Whole step x.2) behind (subst (λ (k : Known). IsStepJudged x.0 k step x.2) p.0 x.4))
      (subst (λ (k : Known). IsStepJudged y.0 k step y.2) q.0 y.4) p.1 q.1 in
      x.5 ∙ ((λ i. unwrap_or (judged i).facets (behind i)) ∙ sym y.5)
  made-is (list_type item) f g x y =
      let p = list-known (list_of x.0) x.1 f x.3 in
      let q = list-known (list_of y.0) y.1 g y.3 in
      let of : x.0 ≡ y.0 = made-is item x.0 y.0 (subst (AreInForce item x.0) p.0 x.2) (subst (AreInForce item y.0) q.0 y.2) in
      same_Some f g (sym p.1 ∙ (ap list_of of ∙ q.1))
  made-is (union_type members) f g x y = x.2 ∙ (ap union_of (members-same members no_members knowns.Whole knowns.Whole x.0 y.0 x.1 y.1) ∙ sym y.2)

  members-same : (members : MemberTrees) (front : Members) (k l : Known) (a b : Members) → AreMembers members front k a knowns.Whole → AreMembers members front l b knowns.Whole → a ≡ b
  members-same no_member front k l a b x y = x.0 ∙ sym y.0
  members-same (member first rest) front k l a b x y =
      let of : x.0 ≡ y.0 = made-is first x.0 y.0
      (subst (AreInForce first x.0) (member-known first rest front a k x) x.2) (subst (AreInForce first y.0) (member-known first rest front b l y) y.2) in
      members-same rest (with_member front y.0) (made_from_both k x.1) (made_from_both l y.1) a b
      (subst (λ (m : Facets). AreMembers rest (with_member front m) (made_from_both k x.1) a knowns.Whole) of x.3) y.3

-- ---- literals

module _ (IsItem : List ℕ → Result Accepted Code → Type 0) (one : (text : List ℕ) (a b : Result Accepted Code) → IsItem text a → IsItem text b → a ≡ b) where
  item-then-same : (P Q : List TypedAtom → Type 0) (r : Result Accepted Code) (a b : Result (List TypedAtom) Code) → ((atoms : List TypedAtom) → P atoms → Q atoms → a ≡ b) →
      IsItemThen IsItem r P a → IsItemThen IsItem r Q b → a ≡ b
  item-then-same P Q (Err code) a b more x y = x ∙ sym y
  item-then-same P Q (Ok given) a b more x y = more (atoms_in given.value) x y

  items-same : (texts : List (List ℕ)) (front : List TypedAtom) (a b : Result (List TypedAtom) Code) → AreItems IsItem front texts a → AreItems IsItem front texts b → a ≡ b
  items-same [] front a b x y = x ∙ sym y
  items-same (text ∷ texts) front a b x y =
      let first : x.0 ≡ y.0 = one text x.0 y.0 x.1 y.1 in
      item-then-same (λ atoms. AreItems IsItem (front ++ atoms) texts a) (λ atoms. AreItems IsItem (front ++ atoms) texts b) y.0 a b
      (λ atoms p q. items-same texts (front ++ atoms) a b p q)
      (subst (λ (r : Result Accepted Code). IsItemThen IsItem r (λ atoms. AreItems IsItem (front ++ atoms) texts a) a) first x.2) y.2

  list-if-same : (by : Bool) (facets : FacetList) (text : List ℕ) (a b : Result Accepted Code) → IsListIf IsItem by facets text a → IsListIf IsItem by facets text b → a ≡ b
  list-if-same true facets text a b x y = x ∙ sym y
  list-if-same false facets text a b x y =
      let atoms : x.0 ≡ y.0 = items-same (items text) [] x.0 y.0 x.1 y.1 in
      list-judged-is facets text y.0 a b (subst (λ (r : Result (List TypedAtom) Code). IsListJudged facets text r a) atoms x.2) y.2

  list-same : (facets : FacetList) (text : List ℕ) (a b : Result Accepted Code) → IsList IsItem facets text a → IsList IsItem facets text b → a ≡ b
  list-same facets text a b x y = list-if-same (nat_lt 65_536 (length (items (normalized (way_of facets) text)))) facets (normalized (way_of facets) text) a b x y

trial-if-same : (by : Bool) (code : Code) (P Q : Type 0) (a b : Result Accepted Code) → (P → Q → a ≡ b) → IsTrialIf by code P a → IsTrialIf by code Q b → a ≡ b
trial-if-same true code P Q a b more x y = x ∙ sym y
trial-if-same false code P Q a b more x y = more x y

trial-same : (r : Result Accepted Code) (P Q : Type 0) (a b : Result Accepted Code) → (P → Q → a ≡ b) → IsTrialThen r P a → IsTrialThen r Q b → a ≡ b
trial-same (Ok given) P Q a b more x y = x ∙ sym y
trial-same (Err code) P Q a b more x y = trial-if-same (is_limit code) code P Q a b more x y

mutual
  literal-is : (tree : TypeTree) (facets : FacetList) (scope : Scope) (text : List ℕ) (a b : Result Accepted Code) → IsLiteral tree facets scope text a → IsLiteral tree facets scope text b → a ≡ b
  literal-is not_simple facets scope text a b x y = absurd x
  literal-is (built_in kind) facets scope text a b x y = atomic-is kind facets scope text a b x y
  literal-is (restriction base step) facets scope text a b x y = literal-is base facets scope text a b x y
  literal-is (list_type item) facets scope text a b x y =
      list-same (λ part answer. (of : Facets) × IsMade item of × IsLiteral item of.list scope part answer)
      (λ part c d p q.
      literal-is item q.0.list scope part c d (subst (λ (f : Facets). IsLiteral item f.list scope part c) (made-is item p.0 q.0 p.1 q.1) p.2) q.2)
      facets text a b x y
  literal-is (union_type members) facets scope text a b x y =
      let first : x.0 ≡ y.0 = tried-same members scope text x.0 y.0 x.1 y.1 in
      union-judged-is facets y.0 a b (subst (λ (r : Result Accepted Code). IsUnionJudged facets r a) first x.2) y.2

  tried-same : (members : MemberTrees) (scope : Scope) (text : List ℕ) (a b : Result Accepted Code) → AreTried members scope text a → AreTried members scope text b → a ≡ b
  tried-same no_member scope text a b x y = x ∙ sym y
  tried-same (member first rest) scope text a b x y =
      let of : x.0 ≡ y.0 = made-is first x.0 y.0 x.2 y.2 in
      let answer : x.1 ≡ y.1 = literal-is first y.0.list scope text x.1 y.1 (subst (λ (f : Facets). IsLiteral first f.list scope text x.1) of x.3) y.3 in
      trial-same y.1 (AreTried rest scope text a) (AreTried rest scope text b) a b (λ p q. tried-same rest scope text a b p q)
      (subst (λ (r : Result Accepted Code). IsTrialThen r (AreTried rest scope text a) a) answer x.4) y.4

valid-is : (tree : TypeTree) (scope : Scope) (text : List ℕ) (a b : Result Accepted Code) → IsValid tree scope text a → IsValid tree scope text b → a ≡ b
valid-is tree scope text a b x y =
    literal-is tree y.0.list scope text a b (subst (λ (f : Facets). IsLiteral tree f.list scope text a) (made-is tree x.0 y.0 x.1 y.1) x.2) y.2

-- simple validity has one outcome
pub one-outcome : (t : Tables) → HasOneOutcomeEach t
one-outcome t of scope text a b x y = x.2 ∙ (ap value_of (valid-is (type_tree t of) scope text x.0 y.0 x.1 y.1) ∙ sym y.2)
