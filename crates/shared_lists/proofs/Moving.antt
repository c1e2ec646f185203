-- Groups that stay where they are, and the end of a list that is gone over from there.
use Rattle.std.proofs.Common.{◌≡◌, refl, ◌∙◌, ℕ, ◌+◌, List, [], ◌∷◌, ◌++◌, length, reverse, Bor, append_assoc, length-append, arith}
use Rattle.std.proofs.lemmas.List.{append-nil, map-append, reverse-append}
use Rattle.shared_lists.specs.declared.trees.Node.{Node}
use Rattle.shared_lists.specs.declared.walks.Step.{Step}
use Rattle.shared_lists.specs.declared.walks.Step.TheVariants.{Branch}
use Rattle.shared_lists.specs.Walks.{groups, groups_of}
use Rattle.shared_lists.specs.Trees.{Group, Grouped, moved_group, moved_on, no_leaves, joined, laid}

module _ {A : Type 0} where
  pub reverse_more : (xs : List A) (x : A) → reverse (xs ++ x ∷ []) ≡ x ∷ reverse xs
  reverse_more xs x = reverse-append xs (x ∷ [])

module _ {L : Type 0} where
  pub moved_zero : (groups : List (Group L)) → moved_on 0 groups ≡ groups
  moved_zero [] = refl
  moved_zero (group ∷ groups) =
      let from : 0 + group.from ≡ group.from = omega arith in
      let to : 0 + group.to ≡ group.to = omega arith in
      λ i. record { from = from i; to = to i; label = group.label } ∷ moved_zero groups i

  moved_more : (by more : ℕ) (groups : List (Group L)) → moved_on by (moved_on more groups) ≡ moved_on (by + more) groups
  moved_more by more [] = refl
  moved_more by more (group ∷ groups) =
      let from : by + (more + group.from) ≡ by + more + group.from = omega arith in
      let to : by + (more + group.to) ≡ by + more + group.to = omega arith in
      λ i. record { from = from i; to = to i; label = group.label } ∷ moved_more by more groups i

module _ {T L : Type 0} where
  pub both_apart : (passed : ℕ) (first second : Bor (Node T L)) (steps : List (Step T L)) →
      moved_on passed (joined (laid first.now) (laid second.now)).groups ++ groups_of (passed + length (joined (laid first.now) (laid second.now)).leaves) steps
      ≡ groups_of passed (Branch first ∷ Branch second ∷ steps)
  both_apart passed first second steps =
      let one = laid first.now in
      let other = laid second.now in
      let n = length one.leaves in
      let front : moved_on passed (one.groups ++ moved_on n other.groups) ≡ moved_on passed one.groups ++ moved_on (passed + n) other.groups =
      map-append (moved_group passed) one.groups (moved_on n other.groups) ∙ (λ i. moved_on passed one.groups ++ moved_more passed n other.groups i) in
      let count : passed + length (one.leaves ++ other.leaves) ≡ passed + n + length other.leaves = omega (arith, length-append one.leaves other.leaves) in
      (λ i. front i ++ groups_of (count i) steps)
      ∙ append_assoc (moved_on passed one.groups) (moved_on (passed + n) other.groups) (groups_of (passed + n + length other.leaves) steps)

  pub nothing_behind : (tree : Grouped T L) → joined tree no_leaves ≡ tree
  nothing_behind tree = λ i. record { leaves = append-nil tree.leaves i; groups = append-nil tree.groups i }

  pub begun : (node : Bor (Node T L)) → groups_of 0 (Branch node ∷ []) ≡ groups node.now
  begun node = append-nil (moved_on 0 (groups node.now)) ∙ moved_zero (groups node.now)

  pub nothing_before : (tree : Grouped T L) → joined no_leaves tree ≡ tree
  nothing_before tree = λ i. record { leaves = tree.leaves; groups = moved_zero tree.groups i }
