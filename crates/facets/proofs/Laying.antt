-- A type that is put behind the members of a union, laid out.
use Rattle.std.proofs.Common.{◌≡◌, refl, sym, ap, ◌∙◌, ℕ, ◌+◌, List, [], ◌∷◌, ◌++◌, length, map, append_assoc, length-append, arith}
use Rattle.std.proofs.lemmas.List.{append-nil, map-append}
use Rattle.shared_lists.specs.Trees.{Group, Grouped, group, moved_group, moved_on, run, joined, grouped}
use Rattle.facet_checks.specs.declared.list.FacetList.{FacetList}
use Rattle.facets.specs.declared.members.Gate.{Gate}
use Rattle.facets.specs.declared.members.Member.{Member}
use Rattle.facets.specs.UnionMembers.{Members, gate_of, members_of}
use Rattle.facets.specs.Members.{moved_gate, moved_on as gates_on}
use Rattle.facets.specs.Making.{gate, with_union}

pub gates_stay : (gates : List Gate) → gates_on 0 gates ≡ gates
gates_stay [] = refl
gates_stay (one ∷ gates) =
    let from : 0 + one.from ≡ one.from = omega arith in
    let to : 0 + one.to ≡ one.to = omega arith in
    λ i. gate (from i) (to i) one.list ∷ gates_stay gates i

pub gates_move : (by : ℕ) (groups : List (Group FacetList)) → map gate_of (moved_on by groups) ≡ gates_on by (map gate_of groups)
gates_move by [] = refl
gates_move by (one ∷ groups) = ap (λ more. gate_of (moved_group by one) ∷ more) (gates_move by groups)

module _ (all : Grouped Member FacetList) where
  pub one_with : (before : List Member) (one : Member)
      → members_of (joined all (run (before ++ one ∷ []))) ≡ record (members_of (joined all (run before))) { members = (all.leaves ++ before) ++ one ∷ [] }
  one_with before one =
      let behind : all.leaves ++ (before ++ one ∷ []) ≡ (all.leaves ++ before) ++ one ∷ [] = sym (append_assoc all.leaves before (one ∷ [])) in
      λ i. record { members = behind i; gates = map gate_of (all.groups ++ []) }

  module _ (others : Grouped Member FacetList) (list : FacetList) where
    abbrev last : Group FacetList
    last = group 0 (length others.leaves) list

    ends : gate (length all.leaves + 0) (length all.leaves + length others.leaves) list ≡ gate (length all.leaves) (length (all.leaves ++ others.leaves)) list
    ends =
        let start : length all.leaves + 0 ≡ length all.leaves = omega arith in
        let stop : length all.leaves + length others.leaves ≡ length (all.leaves ++ others.leaves) = sym (length-append all.leaves others.leaves) in
        λ i. gate (start i) (stop i) list

    own : map gate_of (moved_on (length all.leaves) (others.groups ++ last ∷ []))
        ≡ gates_on (length all.leaves) (map gate_of others.groups) ++ gate (length all.leaves) (length (all.leaves ++ others.leaves)) list ∷ []
    own =
        gates_move (length all.leaves) (others.groups ++ last ∷ [])
        ∙ ap (gates_on (length all.leaves)) (map-append gate_of others.groups (last ∷ []))
        ∙ map-append (moved_gate (length all.leaves)) (map gate_of others.groups) (gate_of last ∷ [])
        ∙ ap (λ end. gates_on (length all.leaves) (map gate_of others.groups) ++ end ∷ []) ends

    gates_with : map gate_of (joined all (grouped others list)).groups ≡ (with_union (members_of all) (members_of others) list).gates
    gates_with =
        map-append gate_of all.groups (moved_on (length all.leaves) (others.groups ++ last ∷ []))
        ∙ ap (λ more. map gate_of all.groups ++ more) own
        ∙ sym (append_assoc (map gate_of all.groups) (gates_on (length all.leaves) (map gate_of others.groups)) (gate (length all.leaves) (length (all.leaves ++ others.leaves)) list ∷ []))

    pub union_with : members_of (joined (joined all (grouped others list)) (run [])) ≡ with_union (members_of all) (members_of others) list
    union_with =
        (λ i. record { members = append-nil (all.leaves ++ others.leaves) i; gates = map gate_of (append-nil (joined all (grouped others list)).groups i) })
        ∙ (λ i. record { members = all.leaves ++ others.leaves; gates = gates_with i })
