-- The children of a node, and their parent.
use Rattle.std.proofs.Common.{◌≡◌, ℕ, zero, suc, List, [], ◌∷◌, Some, ap, ◌∙◌, inl, inr}
use Rattle.std.specs.Prelude.{slice_get}
use Rattle.std.specs.Option.{option_and_then}
use Rattle.std.proofs.lemmas.Option.{same_Some, none-some}
use Rattle.doc_nodes.specs.Nodes.{Node, Nodes, IsNode, Has, IsSound}
use Rattle.doc_changes.specs.Held.{parent_at}

pub parent-of : (ns : Nodes) → IsSound ns → (n c : ℕ) (it : Node) → IsNode ns n it → Has c it.children → parent_at ns c ≡ Some n
parent-of ns sound n c it is has =
    let child = sound.down n c it is has in
    ap (option_and_then (λ (x : Node). x.parent)) child.is ∙ child.parent

pub has-get : (xs : List ℕ) (i c : ℕ) → slice_get xs i ≡ Some c → Has c xs
has-get [] i c e = absurd (none-some c e)
has-get (x ∷ xs) zero c e = inl (same_Some x c e)
has-get (x ∷ xs) (suc i) c e = inr (has-get xs i c e)
