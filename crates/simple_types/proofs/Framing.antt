-- The unions among the members of another lie within them.
use Rattle.std.proofs.Common.{◌≡◌, ℕ, ◌+◌, ◌≤◌, List, [], ◌∷◌, ◌++◌, length, Option, None, Some, refl, sym, ap, subst, ◌∙◌, arith, append_assoc, length-append}
use Rattle.std.specs.Option.{unwrap_or}
use Rattle.std.proofs.lemmas.List.{append-nil}
use Rattle.xs_components.specs.declared.simple.FacetItem.{FacetItem}
use Rattle.facet_checks.specs.declared.list.FacetList.{FacetList}
use Rattle.facets.specs.declared.facets.Facets.{Facets}
use Rattle.facets.specs.declared.known.Judged.{Judged}
use Rattle.facets.specs.declared.known.Known.{Known}
use Rattle.facets.specs.declared.known.Known.TheVariants.{Whole, Facets as FacetsAlone, Neither}
use Rattle.facets.specs.declared.members.Gate.{Gate}
use Rattle.facets.specs.declared.members.Choices.{Choices}
use Rattle.facets.specs.declared.members.Member.{Member}
use Rattle.facets.specs.UnionMembers.{Members}
use Rattle.facets.specs.declared.members.Source.{Source}
use Rattle.facets.specs.declared.members.Source.TheVariants.{Literals as OfLiterals, Union as OfUnion}
use Rattle.facets.specs.Members.{moved_on}
use Rattle.facet_rules.specs.declared.step.ReadStep.{ReadStep}
use Rattle.facet_rules.specs.Rules.{judged_of}
use Rattle.facets.specs.Making.{no_members, with_member, with_source, choices_of, gate}
use Rattle.facets.specs.Source.{list_by}
use Rattle.facets.specs.Facets.{IsStepJudged, judged_by, facets_by}
use Rattle.simple_types.specs.TypeTree.{TypeTree, not_simple, built_in, restriction, list_type, union_type, MemberTrees, no_member, member}
use Rattle.simple_types.specs.SimpleValidity.{AreInForce, AreMembers, IsListKnown, made_from_both}
use Rattle.simple_types.proofs.Trials.{EndBy, StartFrom}

ends_more : (a b : ℕ) → a ≤ b → (gates : List Gate) → EndBy a gates → EndBy b gates
ends_more a b h [] ends = tt
ends_more a b h (g ∷ gs) ends = (omega (arith, ends.0), ends_more a b h gs ends.1)

ends_append : (n : ℕ) (xs ys : List Gate) → EndBy n xs → EndBy n ys → EndBy n (xs ++ ys)
ends_append n [] ys a b = b
ends_append n (g ∷ gs) ys a b = (a.0, ends_append n gs ys a.1 b)

ends_moved : (n most : ℕ) (gates : List Gate) → EndBy most gates → EndBy (n + most) (moved_on n gates)
ends_moved n most [] ends = tt
ends_moved n most (g ∷ gs) ends = (omega (arith, ends.0), ends_moved n most gs ends.1)

starts_less : (a b : ℕ) → a ≤ b → (gates : List Gate) → StartFrom b gates → StartFrom a gates
starts_less a b h [] starts = tt
starts_less a b h (g ∷ gs) starts = (omega (arith, starts.0), starts_less a b h gs starts.1)

starts_append : (n : ℕ) (xs ys : List Gate) → StartFrom n xs → StartFrom n ys → StartFrom n (xs ++ ys)
starts_append n [] ys a b = b
starts_append n (g ∷ gs) ys a b = (a.0, starts_append n gs ys a.1 b)

starts_moved : (n : ℕ) (gates : List Gate) → StartFrom n (moved_on n gates)
starts_moved n [] = tt
starts_moved n (g ∷ gs) = (omega arith, starts_moved n gs)

abbrev pub IsFramed : Members → Type 0
IsFramed all = EndBy (length all.members) all.gates

abbrev pub IsFramedSource : Source → Type 0
IsFramedSource (OfLiterals literals) = Unit {0}
IsFramedSource (OfUnion members) = IsFramed members

-- what a type puts behind the members that there are
abbrev pub own_members : Source → FacetList → List Member
own_members (OfLiterals literals) own = record { literals = literals; list = own } ∷ []
own_members (OfUnion others) own = others.members

abbrev pub own_gates : Members → Source → FacetList → List Gate
own_gates front (OfLiterals literals) own = []
own_gates front (OfUnion others) own = moved_on (length front.members) others.gates ++ gate (length front.members) (length (front.members ++ others.members)) own ∷ []

pub members_with : (front : Members) (source : Source) (own : FacetList) → (with_source front source own).members ≡ front.members ++ own_members source own
members_with front (OfLiterals literals) own = refl
members_with front (OfUnion others) own = refl

pub gates_with : (front : Members) (source : Source) (own : FacetList) → (with_source front source own).gates ≡ front.gates ++ own_gates front source own
gates_with front (OfLiterals literals) own = sym (append-nil front.gates)
gates_with front (OfUnion others) own =
    append_assoc front.gates (moved_on (length front.members) others.gates) (gate (length front.members) (length (front.members ++ others.members)) own ∷ [])

pub framed_with : (front : Members) (source : Source) (own : FacetList) → IsFramed front → IsFramedSource source → IsFramed (with_source front source own)
framed_with front (OfLiterals literals) own h s =
    ends_more (length front.members) (length (front.members ++ record { literals = literals; list = own } ∷ [])) (rw length-append (omega arith)) front.gates h
framed_with front (OfUnion others) own h s =
    let whole : length (front.members ++ others.members) ≡ length front.members + length others.members = length-append front.members others.members in
    ends_append (length (front.members ++ others.members)) (front.gates ++ moved_on (length front.members) others.gates) (gate (length front.members) (length (front.members ++ others.members)) own ∷ [])
    (ends_append (length (front.members ++ others.members)) front.gates (moved_on (length front.members) others.gates)
    (ends_more (length front.members) (length (front.members ++ others.members)) (omega (arith, whole)) front.gates h)
    (ends_more (length front.members + length others.members) (length (front.members ++ others.members)) (omega (arith, whole)) (moved_on (length front.members) others.gates)
    (ends_moved (length front.members) (length others.members) others.gates s)))
    (omega arith, tt)

-- a step leaves the literals as they are
by_list : (behind : Facets) (list : Option FacetList) → (unwrap_or (facets_by behind list) behind).source ≡ behind.source
by_list behind None = refl
by_list behind (Some list) = refl

by_known : (behind : Facets) (known : Known) (step : ReadStep) → (unwrap_or (judged_by behind known step).facets behind).source ≡ behind.source
by_known behind Whole step = by_list behind (judged_of behind.list step).list
by_known behind FacetsAlone step = by_list behind (judged_of behind.list step).list
by_known behind Neither step = refl

pub same_source : (behind : Facets) (known : Known) (step : List FacetItem) (judged : Judged) → IsStepJudged behind known step judged → (unwrap_or judged.facets behind).source ≡ behind.source
same_source behind known step judged is = ap (λ (j : Judged). (unwrap_or j.facets behind).source) is.2 ∙ by_known behind known is.0

list_framed : (c : Option Choices) (item : Known) (facets : Facets) (known : Known) → IsListKnown (list_by c) item facets known → IsFramedSource facets.source
list_framed None item facets known is = subst (λ (f : Facets). IsFramedSource f.source) (sym is.0) tt
list_framed (Some choices) item facets known is = subst (λ (f : Facets). IsFramedSource f.source) (sym is.0) tt

mutual
  pub framed : (tree : TypeTree) (facets : Facets) (known : Known) → AreInForce tree facets known → IsFramedSource facets.source
  framed not_simple facets known is = subst (λ (f : Facets). IsFramedSource f.source) (sym is.0) tt
  framed (built_in kind) facets known is = subst (λ (f : Facets). IsFramedSource f.source) (sym is.0) tt
  framed (restriction base step) facets known is =
      subst IsFramedSource (sym (ap (λ (f : Facets). f.source) is.5 ∙ same_source is.0 is.1 step is.2 is.4)) (framed base is.0 is.1 is.3)
  framed (list_type item) facets known is = list_framed (choices_of is.0) is.1 facets known is.3
  framed (union_type members) facets known is =
      subst (λ (f : Facets). IsFramedSource f.source) (sym is.2) (framed_members members no_members Whole is.0 known is.1 tt)

  pub framed_members : (members : MemberTrees) (front : Members) (front_known : Known) (all : Members) (known : Known) → AreMembers members front front_known all known → IsFramed front → IsFramed all
  framed_members no_member front front_known all known is h = subst IsFramed (sym is.0) h
  framed_members (member first rest) front front_known all known is h =
      framed_members rest (with_member front is.0) (made_from_both front_known is.1) all known is.3 (framed_with front is.0.source is.0.list h (framed first is.0 is.1 is.2))

-- members that are put behind others
pub record Grown (front all : Members) : Type 0 where
  pub members : List Member
  pub gates : List Gate
  pub are_members : all.members ≡ front.members ++ members
  pub are_gates : all.gates ≡ front.gates ++ gates
  pub behind : StartFrom (length front.members) gates

own_start : (front : Members) (source : Source) (own : FacetList) → StartFrom (length front.members) (own_gates front source own)
own_start front (OfLiterals literals) own = tt
own_start front (OfUnion others) own =
    starts_append (length front.members) (moved_on (length front.members) others.gates) (gate (length front.members) (length (front.members ++ others.members)) own ∷ [])
    (starts_moved (length front.members) others.gates) (omega arith, tt)

pub grown : (members : MemberTrees) (front : Members) (front_known : Known) (all : Members) (known : Known) → AreMembers members front front_known all known → Grown front all
grown no_member front front_known all known is = record {
  members = [];
  gates = [];
  are_members = ap (λ (m : Members). m.members) is.0 ∙ sym (append-nil front.members);
  are_gates = ap (λ (m : Members). m.gates) is.0 ∙ sym (append-nil front.gates);
  behind = tt;
}
grown (member first rest) front front_known all known is =
    let more = grown rest (with_member front is.0) (made_from_both front_known is.1) all known is.3 in
    let own = own_members is.0.source is.0.list in
    let gates = own_gates front is.0.source is.0.list in
    let within : length (with_member front is.0).members ≡ length front.members + length own = ap length (members_with front is.0.source is.0.list) ∙ length-append front.members own in
    record {
      members = own ++ more.members;
      gates = gates ++ more.gates;
      are_members = more.are_members ∙ ap (λ ms. ms ++ more.members) (members_with front is.0.source is.0.list) ∙ append_assoc front.members own more.members;
      are_gates = more.are_gates ∙ ap (λ gs. gs ++ more.gates) (gates_with front is.0.source is.0.list) ∙ append_assoc front.gates gates more.gates;
      behind = starts_append (length front.members) gates more.gates (own_start front is.0.source is.0.list)
          (starts_less (length front.members) (length (with_member front is.0).members) (omega (arith, within)) more.gates more.behind);
    }
