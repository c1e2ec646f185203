-- A type whose facets are in force has a list of its items where it holds no list.
use Rattle.std.proofs.Common.{◌≡◌, Bool, true, false, ◌&&◌, ◌||◌, not, List, [], ◌∷◌, ◌++◌, Option, None, Some, refl, sym, ap, ◌∙◌}
use Rattle.std.specs.Prelude.{is_some}
use Rattle.std.specs.Option.{unwrap_or}
use Rattle.std.specs.List.{list_all}
use Rattle.xs_codes.specs.declared.builtin.Builtin.{Builtin}
use Rattle.simple_values.specs.Grammar.{item_type}
use Rattle.facet_checks.specs.declared.list.FacetList.{FacetList}
use Rattle.facet_rules.specs.declared.step.ReadStep.{ReadStep}
use Rattle.facet_rules.specs.Rules.{judged_of}
use Rattle.facets.specs.Facets.{facets_by, judged_by}
use Rattle.facets.specs.Making.{with_source, with_member, no_members, atomic_if, atomic_kind, choice_if, plains_behind, union_choice, choices_by, choices_of}
use Rattle.facets.specs.Source.{list_by, list_of}
use Rattle.facets.specs.declared.facets.Facets.{Facets}
use Rattle.facets.specs.declared.known.Known.{Known}
use Rattle.facets.specs.declared.known.Known.TheVariants as knowns
use Rattle.facets.specs.declared.members.Choices.{Choices}
use Rattle.facets.specs.declared.members.Member.{Member}
use Rattle.facets.specs.UnionMembers.{Members}
use Rattle.facets.specs.declared.members.Plain.{Plain}
use Rattle.facets.specs.declared.members.Source.{Source}
use Rattle.facets.specs.declared.members.Source.TheVariants as sources
use Rattle.simple_types.specs.Holding.{holds_list, some_holds_list}
use Rattle.simple_types.specs.SimpleValidity.{AreInForce, AreMembers, IsListKnown}
use Rattle.simple_types.specs.TypeTree.{TypeTree, not_simple, built_in, restriction, list_type, union_type, MemberTrees, no_member, member}

abbrev is_atom : Member → Bool
is_atom m = is_some (atomic_kind m.literals)

-- a source that is no list, and no union that holds one
abbrev are_atoms : Source → Bool
are_atoms (sources.Literals literals) = is_some (atomic_kind literals)
are_atoms (sources.Union members) = list_all is_atom members.members

-- ---- what a list is made of goes by the source

one-choice : (kind : Option Builtin) (facets : FacetList) → is_some (choice_if kind facets) ≡ is_some kind
one-choice None facets = refl
one-choice (Some kind) facets = refl

plains-all : (front : List Plain) (members : List Member) → is_some (plains_behind front members) ≡ list_all is_atom members
plains-all front [] = refl
plains-all front (m ∷ members) = by-kind (atomic_kind m.literals) refl (λ more. plains-all more members)
  where
    by-kind : (kind : Option Builtin) → atomic_kind m.literals ≡ kind → ((more : List Plain) → is_some (plains_behind more members) ≡ list_all is_atom members) →
        is_some (plains_behind front (m ∷ members)) ≡ (is_atom m && list_all is_atom members)
    by-kind None e rest = rw e refl
    by-kind (Some kind) e rest = rw e (rest (front ++ record { kind = kind; list = m.list } ∷ []))

union-choices : (members : Members) (facets : FacetList) (plains : Option (List Plain)) → is_some (union_choice members facets plains) ≡ is_some plains
union-choices members facets None = refl
union-choices members facets (Some plains) = refl

choices-all : (source : Source) (facets : FacetList) → is_some (choices_by source facets) ≡ are_atoms source
choices-all (sources.Literals literals) facets = one-choice (atomic_kind literals) facets
choices-all (sources.Union members) facets = union-choices members facets (plains_behind [] members.members) ∙ plains-all [] members.members

lists-all : (choices : Option Choices) → is_some (list_by choices) ≡ is_some choices
lists-all None = refl
lists-all (Some choices) = refl

-- ---- a step keeps the source

kept-by : (base : Facets) (list : Option FacetList) → (unwrap_or (facets_by base list) base).source ≡ base.source
kept-by base None = refl
kept-by base (Some list) = refl

step-keeps : (base : Facets) (known : Known) (step : ReadStep) → (unwrap_or (judged_by base known step).facets base).source ≡ base.source
step-keeps base knowns.Neither step = refl
step-keeps base knowns.Facets step = kept-by base (judged_of base.list step).list
step-keeps base knowns.Whole step = kept-by base (judged_of base.list step).list

-- ---- by recursion on the type

all-append : (front back : List Member) → list_all is_atom (front ++ back) ≡ (list_all is_atom front && list_all is_atom back)
all-append [] back = refl
all-append (m ∷ front) back = ap (λ b. is_atom m && b) (all-append front back) ∙ grouped (is_atom m) (list_all is_atom front) (list_all is_atom back)
  where
    grouped : (a b c : Bool) → (a && (b && c)) ≡ ((a && b) && c)
    grouped true b c = refl
    grouped false b c = refl

and-true : (a b : Bool) → (a && (b && true)) ≡ (a && b)
and-true true true = refl
and-true true false = refl
and-true false b = refl

one-more : (front : Members) (source : Source) (facets : FacetList) → list_all is_atom (with_source front source facets).members ≡ (list_all is_atom front.members && are_atoms source)
one-more front (sources.Literals literals) facets = all-append front.members (record { literals = literals; list = facets } ∷ []) ∙ and-true (list_all is_atom front.members) (is_some (atomic_kind literals))
one-more front (sources.Union others) facets = all-append front.members others.members

built-in-atom : (item : Option Builtin) (kind : Builtin) → is_some (atomic_if item kind) ≡ not (is_some item)
built-in-atom None kind = refl
built-in-atom (Some item) kind = refl

listed : (item facets : Facets) (item_known known : Known) (choices : Option Choices) → IsListKnown (list_by choices) item_known facets known → are_atoms facets.source ≡ false
listed item facets item_known known None is = ap (λ (f : Facets). are_atoms f.source) is.0
listed item facets item_known known (Some choices) is = ap (λ (f : Facets). are_atoms f.source) is.0

both-not : (a b c : Bool) → ((a && not b) && not c) ≡ (a && not (b || c))
both-not true true c = refl
both-not true false c = refl
both-not false b c = refl

mutual
  atoms-of : (tree : TypeTree) (facets : Facets) (known : Known) → AreInForce tree facets known → are_atoms facets.source ≡ not (holds_list tree)
  atoms-of not_simple facets known is = ap (λ (f : Facets). are_atoms f.source) is.0
  atoms-of (built_in kind) facets known is = ap (λ (f : Facets). are_atoms f.source) is.0 ∙ built-in-atom (item_type kind) kind
  atoms-of (restriction base step) facets known (behind, base_known, judged, below, (read, reads, made), kept, is_known) =
      let e : facets ≡ unwrap_or (judged_by behind base_known read).facets behind = kept ∙ ap (λ j. unwrap_or j.facets behind) made in
      ap (λ (f : Facets). are_atoms f.source) e ∙ (ap are_atoms (step-keeps behind base_known read) ∙ atoms-of base behind base_known below)
  atoms-of (list_type item) facets known (of, item_known, below, is) = listed of facets item_known known (choices_of of) is
  atoms-of (union_type members) facets known (all, are, is) = ap (λ (f : Facets). are_atoms f.source) is ∙ atoms-in members no_members knowns.Whole all known are

  atoms-in : (members : MemberTrees) (front : Members) (front_known : Known) (all : Members) (known : Known) → AreMembers members front front_known all known →
      list_all is_atom all.members ≡ (list_all is_atom front.members && not (some_holds_list members))
  atoms-in no_member front front_known all known is = ap (λ (m : Members). list_all is_atom m.members) is.0 ∙ sym (and-right (list_all is_atom front.members))
    where
      and-right : (a : Bool) → (a && true) ≡ a
      and-right true = refl
      and-right false = refl
  atoms-in (member first rest) front front_known all known (of, of_known, below, others) =
      atoms-in rest (with_member front of) _ all known others
      ∙ (ap (λ b. b && not (some_holds_list rest)) (one-more front of.source of.list ∙ ap (λ b. list_all is_atom front.members && b) (atoms-of first of of_known below))
      ∙ both-not (list_all is_atom front.members) (holds_list first) (some_holds_list rest))

pub lists-of-atoms : (tree : TypeTree) (facets : Facets) (known : Known) → AreInForce tree facets known → is_some (list_of facets) ≡ not (holds_list tree)
lists-of-atoms tree facets known is = lists-all (choices_of facets) ∙ (choices-all facets.source facets.list ∙ atoms-of tree facets known is)
