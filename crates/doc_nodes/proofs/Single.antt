-- A single new node that is put below a node without children is all that is put there.
use Rattle.std.proofs.Common.{◌≡◌, ℕ, ◌+◌, ◌<◌, List, [], ◌∷◌, ◌++◌, length, Some, None, inl, inr, refl, sym, ap, subst, ◌∙◌, arith}
use Rattle.std.proofs.lemmas.List.{nil_from_length, length-append}
use Rattle.std.proofs.lemmas.Option.{same_Some}
use Rattle.doc_nodes.specs.declared.content.NewNode.{NewNode}
use Rattle.doc_nodes.specs.Nodes.{Node, Nodes, node, IsNode, Has, AreFree, Inserts, InsertsAll}

module _ (cs rest : List NewNode) (c : NewNode) (one : length cs ≡ 1) (popped : cs ≡ rest ++ c ∷ []) where
  alone : cs ≡ c ∷ []
  alone = popped ∙ ap (λ l. l ++ c ∷ []) (nil_from_length rest (omega (arith, one, ap length popped, length-append rest (c ∷ []))))

  pub free_alone : (ns : Nodes) → AreFree ns cs → (node ns c.number ≡ None) × (c.number < length ns)
  free_alone ns free = subst (AreFree ns) alone free c (inl refl)

  module _ (old new : Nodes) (p : ℕ) (it : Node) (is : IsNode old p it) (bare : it.children ≡ []) (puts : Inserts old new p 0 c.number c.content) where
    inserted : InsertsAll old new p (c ∷ [])
    inserted = record {
      size = puts.size;
      parent = λ x q. subst (λ (y : Node). IsNode new p y) (same x q) (puts.parent x q);
      children = λ x d q has. child x d q has;
      others = λ m apart lacks. puts.others m apart (λ e. lacks.0 (sym e));
    }
      where
        same : (x : Node) → IsNode old p x → record x { children = c.number ∷ x.children } ≡ record x { children = c.number ∷ [] }
        same x q = ap (λ (l : List ℕ). record x { children = c.number ∷ l }) (ap (λ (y : Node). y.children) (same_Some x it (sym q ∙ is)) ∙ bare)

        child : (x : Node) (d : NewNode) → IsNode old p x → Has d (c ∷ []) → IsNode new d.number (record { parent = Some p; depth = x.depth + 1; content = d.content; children = [] })
        child x d q (inl e) = subst (λ (y : NewNode). IsNode new y.number (record { parent = Some p; depth = x.depth + 1; content = y.content; children = [] })) e (puts.child x q)
        child x d q (inr none) = absurd none

    pub all_alone : InsertsAll old new p cs
    all_alone = subst (InsertsAll old new p) (sym alone) inserted
