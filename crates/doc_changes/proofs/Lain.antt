-- Where a node lies in its document, and what stands for it.
use Rattle.std.proofs.Common.{◌≡◌, ◌⊎◌, ℕ, ◌+◌, ◌≤◌, List, [], ◌∷◌, sym, ap, ◌∙◌, subst, true, false, ◌==◌, ◌||◌, if◌then◌else◌, Some, None, refl, inl, inr, arith}
use Rattle.std.proofs.lemmas.Bool.{eqb-true, false≢true}
use Rattle.std.proofs.lemmas.Option.{same_Some}
use Rattle.xs_names.specs.Names.{NameTable}
use Rattle.tree_rows.specs.Forest.{Forest, none, text, element, Document, count, deepest_of}
use Rattle.tree_rows.specs.Whole.{times, HasRoot}
use Rattle.tree_rows.specs.declared.name.Expanded.{Expanded}
use Rattle.tree_rows.specs.declared.row.Attribute.{Attribute}
use Rattle.tree_rows.specs.declared.row.Binding.{Binding}
use Rattle.tree_edits.specs.Edits.{has, Found, found}
use Rattle.tree_edits.proofs.Lying.{Lies, lies, times_changed}
use Rattle.tree_edits.proofs.Keeping.{IsAlone, found_alone}
use Rattle.doc_nodes.specs.Nodes.{Node, Nodes, node, IsNode, IsSound, Has}
use Rattle.doc_changes.specs.Stands.{firsts, IsElement, StandFor, StandsFor}
use Rattle.doc_changes.proofs.Standing.{or_none}

pub found_has : (key depth : ℕ) (f : Forest) → has key f ≡ true → (it : Found) × (found key depth f ≡ Some it)
found_has key depth none h = absurd (false≢true h)
found_has key depth (text n chars next) h =
    elim (n == key) as (λ b. (b || has key next) ≡ true → (it : Found) × ((if b then Some (record { depth = depth; node = text n chars none }) else found key depth next) ≡ Some it)) [
      | true ↦ λ k. (record { depth = depth; node = text n chars none }, refl)
      | false ↦ λ k. found_has key depth next k
    ] h
found_has key depth (element n name bindings attributes children next) h =
    elim (n == key) as (λ b. (b || (has key children || has key next)) ≡ true → (it : Found) × ((if b then Some (record { depth = depth; node = element n name bindings attributes children none })
    else (if has key children then found key (depth + 1) children else found key depth next)) ≡ Some it)) [
      | true ↦ λ k. (record { depth = depth; node = element n name bindings attributes children none }, refl)
      | false ↦ λ k. elim (has key children) as (λ b. has key children ≡ b → (b || has key next) ≡ true → (it : Found) × ((if b then found key (depth + 1) children else found key depth next) ≡ Some it)) [
        | true ↦ λ p j. found_has key (depth + 1) children p
        | false ↦ λ p j. found_has key depth next j
      ] refl k
    ] h

module _ (t : NameTable) (ns : Nodes) where
  pub stand_lies : (key depth : ℕ) (f : Forest) (it : Found) → Lies key depth f it → StandFor t ns f → StandFor t ns it.node
  stand_lies key depth none it l s = absurd l
  stand_lies key depth (text n chars next) it (inl l) s = subst (λ (i : Found). StandFor t ns i.node) (sym l.1) (s.0, tt)
  stand_lies key depth (text n chars next) it (inr l) s = stand_lies key depth next it l.1 s.1
  stand_lies key depth (element n name bindings attributes children next) it (inl l) s = subst (λ (i : Found). StandFor t ns i.node) (sym l.1) (s.0, s.1, tt)
  stand_lies key depth (element n name bindings attributes children next) it (inr (inl l)) s = stand_lies key (depth + 1) children it l.2 s.1
  stand_lies key depth (element n name bindings attributes children next) it (inr (inr l)) s = stand_lies key depth next it l.2 s.2

  pub firsts_lies : (key depth : ℕ) (f : Forest) (it : Found) → Lies key depth f it → firsts it.node ≡ key ∷ []
  firsts_lies key depth none it l = absurd l
  firsts_lies key depth (text n chars next) it (inl l) = ap (λ (i : Found). firsts i.node) l.1 ∙ ap (λ x. x ∷ []) (eqb-true n key l.0)
  firsts_lies key depth (text n chars next) it (inr l) = firsts_lies key depth next it l.1
  firsts_lies key depth (element n name bindings attributes children next) it (inl l) = ap (λ (i : Found). firsts i.node) l.1 ∙ ap (λ x. x ∷ []) (eqb-true n key l.0)
  firsts_lies key depth (element n name bindings attributes children next) it (inr (inl l)) = firsts_lies key (depth + 1) children it l.2
  firsts_lies key depth (element n name bindings attributes children next) it (inr (inr l)) = firsts_lies key depth next it l.2

  abbrev pub Level : ℕ → List ℕ → Type 0
  Level k cs = (c : ℕ) (x : Node) → Has c cs → IsNode ns c x → x.depth ≡ k

  module _ (sound : IsSound ns) where
    pub children_level : (k number : ℕ) (name : Expanded) (bindings : List Binding) (attributes : List Attribute) (children : Forest)
        → IsElement t ns number name bindings attributes children → ((x : Node) → IsNode ns number x → x.depth ≡ k) → Level (k + 1) (firsts children)
    children_level k number name bindings attributes children e h = λ c x j i.
        let d = sound.down number c e.it e.is (subst (Has c) (sym e.children_are) j) in
        ap (λ (y : Node). y.depth) (same_Some x d.child (sym i ∙ d.is)) ∙ d.below ∙ ap (λ z. z + 1) (h e.it e.is)

    pub depth_lies : (key depth : ℕ) (f : Forest) (it : Found) → Lies key depth f it → StandFor t ns f → Level depth (firsts f) → (x : Node) → IsNode ns key x → x.depth ≡ it.depth
    depth_lies key depth none it l s v x i = absurd l
    depth_lies key depth (text n chars next) it (inl l) s v x i = v key x (inl (eqb-true n key l.0)) i ∙ sym (ap (λ (y : Found). y.depth) l.1)
    depth_lies key depth (text n chars next) it (inr l) s v x i = depth_lies key depth next it l.1 s.1 (λ c y z. v c y (inr z)) x i
    depth_lies key depth (element n name bindings attributes children next) it (inl l) s v x i = v key x (inl (eqb-true n key l.0)) i ∙ sym (ap (λ (y : Found). y.depth) l.1)
    depth_lies key depth (element n name bindings attributes children next) it (inr (inl l)) s v x i =
        depth_lies key (depth + 1) children it l.2 s.1 (children_level depth n name bindings attributes children s.0 (λ y. v n y (inl refl))) x i
    depth_lies key depth (element n name bindings attributes children next) it (inr (inr l)) s v x i = depth_lies key depth next it l.2 s.2 (λ c y z. v c y (inr z)) x i

-- a node apart from its next siblings, by what is below it
pub record IsApart (t : NameTable) (ns : Nodes) (depth key : ℕ) (one : Forest) : Type 0 where
  pub below : Forest
  pub has_is : (m : ℕ) → has m one ≡ (key == m || has m below)
  pub times_are : (m : ℕ) → times m one ≡ (if key == m then 1 else 0) + times m below
  pub size : count one ≡ 1 + count below
  pub it : Node
  pub is : IsNode ns key it
  pub children : it.children ≡ firsts below
  pub stand : StandFor t ns below
  pub high : (below ≡ none) ⊎ (depth ≤ deepest_of depth one)
  pub deep : deepest_of (depth + 1) below ≤ deepest_of depth one

pub apart_of : (t : NameTable) (ns : Nodes) (depth key : ℕ) (one : Forest) → IsAlone one → firsts one ≡ key ∷ [] → StandFor t ns one → IsApart t ns depth key one
apart_of t ns depth key none a e s = absurd a
apart_of t ns depth key (text n chars next) a e s =
    subst (λ g. IsApart t ns depth key (text n chars g)) (sym a) (subst (λ m. IsApart t ns depth m (text n chars none)) (cc e) (record {
      below = none;
      has_is = λ m. refl;
      times_are = λ m. refl;
      size = omega arith;
      it = s.0.text;
      is = s.0.is;
      children = s.0.no_children;
      stand = tt;
      high = inl refl;
      deep = omega arith;
    }))
apart_of t ns depth key (element n name bindings attributes children next) a e s =
    subst (λ g. IsApart t ns depth key (element n name bindings attributes children g)) (sym a) (subst (λ m. IsApart t ns depth m (element n name bindings attributes children none)) (cc e) (record {
      below = children;
      has_is = λ m. ap (λ b. n == m || b) (or_none (has m children));
      times_are = λ m. omega arith;
      size = omega arith;
      it = s.0.it;
      is = s.0.is;
      children = s.0.children_are;
      stand = s.1;
      high = inr (omega arith);
      deep = omega arith;
    }))

root_level : (ns : Nodes) (f : Forest) → HasRoot f → ((it : Node) → IsNode ns 1 it → (it.parent ≡ None) × (it.depth ≡ 1)) → (c : ℕ) (x : Node) → Has c (firsts f) → IsNode ns c x → x.depth ≡ 1
root_level ns none r h c x j i = absurd r
root_level ns (text n chars next) r h c x j i = absurd r
root_level ns (element n name bindings attributes children next) r h c x j i = elim j [
  | inl e ↦ (h x (ap (node ns) (sym r.0 ∙ e) ∙ i)).1
  | inr k ↦ absurd (subst (λ g. Has c (firsts g)) r.1 k)
]

-- the node of a number in a document
module _ (t : NameTable) (ns : Nodes) (d : Document) (z : StandsFor t ns d) (key : ℕ) (x : Node) (there : IsNode ns key x) where
  pub at : (it : Found) × (found key 1 d.forest ≡ Some it)
  at = found_has key 1 d.forest (z.only key x there)

  pub lain : Lies key 1 d.forest (at).0
  lain = lies key 1 d.forest (at).0 (at).1

  pub apart : IsApart t ns (at).0.depth key (at).0.node
  apart = apart_of t ns (at).0.depth key (at).0.node (found_alone key d.forest (at).0 (at).1) (firsts_lies t ns key 1 d.forest (at).0 (lain)) (stand_lies t ns key 1 d.forest (at).0 (lain) z.nodes)

  pub depth_at : x.depth ≡ (at).0.depth
  depth_at = depth_lies t ns z.links key 1 d.forest (at).0 (lain) z.nodes (root_level ns d.forest z.tree.root z.root) x there

  pub times_at : (m : ℕ) → times m (at).0.node ≤ times m d.forest
  times_at m = let a = times_changed m key 1 (λ node. none) d.forest (at).0 (lain) in omega (arith, a)
