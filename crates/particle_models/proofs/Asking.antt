-- Marks of the nodes whose forms are asked for.
use Rattle.std.proofs.Common.{◌≡◌, ℕ, ◌+◌, ◌<◌, ◌≤◌, Bool, true, false, List, length, get_or, set, take, take_all, refl, sym, ap, ◌∙◌, inl, inr, arith}
use Rattle.std.specs.Prelude.{All as Each_of}
use Rattle.std.proofs.lemmas.Bool.{cases_eq, cases_lt}
use Rattle.std.proofs.lemmas.List.{get_or-set_same, get_or-set_other, get_or_default}
use Rattle.std.proofs.lemmas.List.Elements.{All-weaker, All-more}
use Rattle.particle_models.specs.declared.node.Node.{Node}
use Rattle.particle_models.specs.declared.node.Node.TheVariants.{Term, Sequence, Choice, Each, Occurs}
use Rattle.particle_models.specs.Nodes.{PartsBelow, IsOrdered}
use Rattle.particle_models.specs.Asked.{IsAsked, Asks, AreAsked}

-- one mark more
module _ (asked : List Bool) (n : ℕ) (there : n < length asked) where
  pub asked_own : IsAsked (set asked n true) n
  asked_own = get_or-set_same asked n true false there

  pub asked_kept : (m : ℕ) → IsAsked asked m → IsAsked (set asked n true) m
  asked_kept m h = elim (cases_eq m n) [
    | inl e ↦ ap (λ x. get_or (set asked n true) x false) e ∙ asked_own
    | inr d ↦ get_or-set_other asked n m true false d ∙ h
  ]

pub asked_more : (asked : List Bool) (members : List ℕ) (i : ℕ) → i < length members → get_or members i 0 < length asked → Each_of (IsAsked asked) (take i members) →
    Each_of (IsAsked (set asked (get_or members i 0) true)) (take (i + 1) members)
asked_more asked members i l there before =
    let m = get_or members i 0 in
    All-more (IsAsked (set asked m true)) members i 0 l
    (All-weaker (IsAsked asked) (IsAsked (set asked m true)) (asked_kept asked m there) (take i members) before)
    (asked_own asked m there)

pub asked_done : (asked : List Bool) (members : List ℕ) (i : ℕ) → length members ≤ i → Each_of (IsAsked asked) (take i members) → Each_of (IsAsked asked) members
asked_done asked members i l all = rw (take_all i members l) at all

-- what is asked for with more marks
pub asks_kept : (old new : List Bool) → ((n : ℕ) → IsAsked old n → IsAsked new n) → (node : Node) → Asks old node → Asks new node
asks_kept old new kept (Term number) h = tt
asks_kept old new kept (Sequence members) h = All-weaker (IsAsked old) (IsAsked new) kept members h
asks_kept old new kept (Choice members) h = All-weaker (IsAsked old) (IsAsked new) kept members h
asks_kept old new kept (Each members) h = All-weaker (IsAsked old) (IsAsked new) kept members h
asks_kept old new kept (Occurs part least most) h = λ once. kept part (h once)

parts_wider : (low high : ℕ) → low ≤ high → (node : Node) → PartsBelow low node → PartsBelow high node
parts_wider low high l (Term number) h = tt
parts_wider low high l (Sequence members) h = All-weaker (λ m. m < low) (λ m. m < high) (λ m k. omega (arith, k, l)) members h
parts_wider low high l (Choice members) h = All-weaker (λ m. m < low) (λ m. m < high) (λ m k. omega (arith, k, l)) members h
parts_wider low high l (Each members) h = All-weaker (λ m. m < low) (λ m. m < high) (λ m k. omega (arith, k, l)) members h
parts_wider low high l (Occurs part least most) h = omega (arith, h, l)

module _ (nodes : List Node) (i : ℕ) (node : Node) (there : i < length nodes) (is : node ≡ get_or nodes i node) where
  -- the parts of each node are among all
  pub parts_there : (count : ℕ) → count ≡ length nodes → IsOrdered nodes → PartsBelow count node
  parts_there count e ordered = parts_wider i count (omega arith) node (rw (sym is) at (ordered i node there))

  pub asks_more : (old new : List Bool) → ((n : ℕ) → IsAsked old n → IsAsked new n) → Asks new node → ((k : ℕ) (d : Node) → k < i → Asks old (get_or nodes k d)) →
      (k : ℕ) (d : Node) → k < i + 1 → Asks new (get_or nodes k d)
  asks_more old new kept own before k d l = elim (cases_lt k i) [
    | inl low ↦ asks_kept old new kept (get_or nodes k d) (before k d low)
    | inr high ↦ (let e : k ≡ i = omega arith in rw e (rw (get_or_default nodes i d node there ∙ sym is) own))
  ]

-- what a node asks for, by its kind
pub asks_read : (nodes : List Node) (asked : List Bool) (i : ℕ) (node : Node) → AreAsked nodes asked → i < length nodes → node ≡ get_or nodes i node → (m : Node) → node ≡ m → Asks asked m
asks_read nodes asked i node are there is m e = rw (sym e) (rw (sym is) at (are.asks i node there))
