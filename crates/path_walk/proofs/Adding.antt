-- The nodes of a field, one and several more.
use Rattle.std.proofs.Common.{◌≡◌, ◌||◌, true, List, [], ◌∷◌, ◌++◌, refl, sym, ◌∙◌, ap, append_assoc, append-nil, None}
use Rattle.std.proofs.lemmas.List.Folds.{list_any-append}
use Rattle.std.proofs.Math.Bool.{or-false}
use Rattle.std.specs.List.{list_any}
use Rattle.std.specs.Option.{option_map}
use Rattle.simple_values.specs.Same.{key_value}
use Rattle.xs_components.specs.Tables.{Tables}
use Rattle.identity_constraints.specs.Targets.{FieldNode, node_value, is_complex, is_nillable, field_key, is_misused}
use Rattle.path_walk.specs.declared.nodes.FieldNodes.{FieldNodes}
use Rattle.path_walk.specs.declared.nodes.NodeCount.TheVariants.{NoNode, OneNode, Several}
use Rattle.path_walk.specs.inside.Nodes.{AreAdded, summed, count_of}

pub added_none : (t : Tables) (a : FieldNodes) → AreAdded t [] a a
added_none t a = λ nodes is. is ∙ ap (summed t) (sym (append-nil nodes))

pub added_both : (t : Tables) (xs ys : List FieldNode) (a b c : FieldNodes) → AreAdded t xs a b → AreAdded t ys b c → AreAdded t (xs ++ ys) a c
added_both t xs ys a b c first second = λ nodes is. second (nodes ++ xs) (first nodes is) ∙ ap (summed t) (append_assoc nodes xs ys)

some-nillable : (t : Tables) (nodes : List FieldNode) (is : FieldNode) → list_any (is_nillable t) (nodes ++ is ∷ []) ≡ (list_any (is_nillable t) nodes || is_nillable t is)
some-nillable t nodes is = list_any-append (is_nillable t) nodes (is ∷ []) ∙ ap (λ b. list_any (is_nillable t) nodes || b) (or-false (is_nillable t is))

-- the first
pub first_added : (t : Tables) (is : FieldNode) (nodes : List FieldNode) (old : FieldNodes) → old ≡ summed t nodes → old.count ≡ NoNode
    → record { count = OneNode; key = option_map key_value (node_value is); misused = is_complex t is; nillable = old.nillable || is_nillable t is } ≡ summed t (nodes ++ is ∷ [])
first_added t is [] old sums none = ap (λ (n : FieldNodes). record { count = OneNode; key = option_map key_value (node_value is); misused = is_complex t is; nillable = n.nillable || is_nillable t is }) sums
    ∙ ap (λ b. record { count = OneNode; key = option_map key_value (node_value is); misused = is_complex t is; nillable = b }) (sym (or-false (is_nillable t is)))
first_added t is (x ∷ []) old sums none = absurd (no-one (sym (ap (λ (n : FieldNodes). n.count) sums) ∙ none))
  where
    no-one : OneNode ≡ NoNode → ⊥
    no-one e = cc
first_added t is (x ∷ y ∷ nodes) old sums none = absurd (no-more (sym (ap (λ (n : FieldNodes). n.count) sums) ∙ none))
  where
    no-more : Several ≡ NoNode → ⊥
    no-more e = cc

several : (x is : FieldNode) (nodes : List FieldNode) → count_of (x ∷ nodes ++ is ∷ []) ≡ Several
several x is [] = refl
several x is (y ∷ nodes) = refl

no-key : (x is : FieldNode) (nodes : List FieldNode) → field_key (x ∷ nodes ++ is ∷ []) ≡ None
no-key x is [] = refl
no-key x is (y ∷ nodes) = refl

misuse : (t : Tables) (x is : FieldNode) (nodes : List FieldNode) → is_misused t (x ∷ nodes ++ is ∷ []) ≡ true
misuse t x is [] = refl
misuse t x is (y ∷ nodes) = refl

-- one behind others
pub next_added : (t : Tables) (is : FieldNode) (nodes : List FieldNode) (old : FieldNodes) → old ≡ summed t nodes → (old.count ≡ NoNode → ⊥)
    → record { count = Several; key = None; misused = true; nillable = old.nillable || is_nillable t is } ≡ summed t (nodes ++ is ∷ [])
next_added t is [] old sums some = absurd (some (ap (λ (n : FieldNodes). n.count) sums))
next_added t is (x ∷ nodes) old sums some =
    let nillable = ap (λ (n : FieldNodes). n.nillable || is_nillable t is) sums ∙ sym (some-nillable t (x ∷ nodes) is) in
    λ i. record { count = sym (several x is nodes) i; key = sym (no-key x is nodes) i; misused = sym (misuse t x is nodes) i; nillable = nillable i }
