-- The scope in a node, from the outermost element inwards.
use Rattle.std.proofs.Common.{◌≡◌, ℕ, ◌++◌, List, [], map, sym, ap, ◌∙◌, Some, None}
use Rattle.std.specs.Prelude.{reverse}
use Rattle.std.specs.Option.{option_map}
use Rattle.xs_names.specs.Scope.{first_scope}
use Rattle.doc_nodes.specs.declared.content.Content.{Content}
use Rattle.doc_nodes.specs.declared.content.NameBinding.{NameBinding}
use Rattle.doc_nodes.specs.Nodes.{Node, Nodes, node, IsSound}
use Rattle.doc_changes.specs.Held.{parent_at, bindings_in}
use Rattle.doc_changes.specs.Readers.{own_scope, scope_at}
use Rattle.doc_changes.proofs.Reading.{scope_below, scope_root, depth_below}
use Rattle.doc_tree.proofs.Answering.{by_bindings}

-- what a node binds is what its content does
pub own_none : (ns : Nodes) (n : ℕ) → None ≡ option_map (λ (it : Node). it.content) (node ns n) → own_scope ns n ≡ []
own_none ns n e = ap (λ l. reverse (map (λ (b : NameBinding). (b.prefix, b.namespace)) l)) (by_bindings (node ns n) None (sym e))

pub own_some : (ns : Nodes) (n : ℕ) (content : Content) → Some content ≡ option_map (λ (it : Node). it.content) (node ns n) → (bindings : List NameBinding) → bindings ≡ bindings_in content
    → reverse (map (λ (b : NameBinding). (b.prefix, b.namespace)) bindings) ≡ own_scope ns n
own_some ns n content e bindings own = ap (λ l. reverse (map (λ (b : NameBinding). (b.prefix, b.namespace)) l)) (own ∙ sym (by_bindings (node ns n) (Some content) (sym e)))

-- a scope is what a node binds, and then what is bound around it
pub scope_outside : (ns : Nodes) (n : ℕ) (outside : List (List ℕ × ℕ)) → None ≡ parent_at ns n → outside ≡ first_scope → own_scope ns n ++ outside ≡ scope_at ns n
scope_outside ns n outside up e = ap (λ l. own_scope ns n ++ l) e ∙ sym (scope_root ns n (sym up))

pub scope_around : (ns : Nodes) (n p : ℕ) (around : List (List ℕ × ℕ)) → IsSound ns → Some p ≡ parent_at ns n → around ≡ scope_at ns p → own_scope ns n ++ around ≡ scope_at ns n
scope_around ns n p around sound up e = ap (λ l. own_scope ns n ++ l) e ∙ sym (scope_below ns p n (sym up) (depth_below ns p n sound (sym up)))
