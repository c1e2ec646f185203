use Rattle.std.proofs.Common.{◌≡◌, ◌<◌, ◌++◌, List, ℕ, All, Some, length, map, sym, ap, ◌∙◌, subst, arith}
use Rattle.std.proofs.lemmas.Result.{on_ok_weaker}
use Rattle.doc_nodes.specs.Nodes.{node}
use Rattle.tag_names.specs.Scopes.{binding_in}
use Rattle.tree_edits.specs.Edits.{scope_in}
use Rattle.doc_changes.specs.Held.{bindings_at}
use Rattle.doc_changes.specs.Stands.{binding_of}
use Rattle.doc_tree.proofs.Answering.{by_bindings}
use Rattle.doc_tree.proofs.Walking.{above_depth, scope_under, scope_outmost, scope_made, within_made}
use Rattle.doc_tree.proofs.above.+bind_above.Goals as goal
use Rattle.doc_tree.proofs.above.+bind_above.Goals.{in-Some+in_ok-bind_above, in_default}

pub bind_above-requires : goal.bind_above-requires
bind_above-requires t c =
    let e = above_depth c.args.links.now c.args.node c.in-Some.parent c.parent.ensures.sound (sym c.parent.ensures.parent ∙ c.in-Some.is) in
    (omega (arith, c.decreases, e), tt)

pub returns-in-Some-content-clause-tree : goal.returns-in-Some-content-clause-tree
returns-in-Some-content-clause-tree t c = on_ok_weaker c.bind_all.result (λ e t' d it z there.
    let ns = c.args.links.now in let n = c.args.node in let old = c.args.scope.now in let mid = c.match-parent.scope in
    let own = c.bindings_of.ensures ∙ sym (by_bindings (node ns n) (Some c.in-Some-content.content.now) (sym c.in-Some-content.ensures.content)) in
    let rest : map (binding_of t') (bindings_at ns n) ++ map (binding_in t') mid ≡ scope_in n (map (binding_in t') old) d.forest =
    elim c.match-parent.branch [
      | in-Some+in_ok-bind_above w ↦
          scope_under t' ns d z n old mid w.in-Some.parent (sym c.parent.ensures.parent ∙ w.in-Some.is)
          (λ v k. ap (map (binding_in t')) w.scope-is ∙ w.in_ok-bind_above.ensures.tree t' d v z k)
      | in_default w ↦ scope_outmost t' ns d z n old mid it there (sym c.parent.ensures.parent ∙ w.in_default.is) w.scope-is
    ] in
    scope_made t' ns d z n old mid c.bind_all.new.scope c.bindings_of.result.now e own rest) c.bind_all.ensures

pub returns-in-Some-content-clause-within : goal.returns-in-Some-content-clause-within
returns-in-Some-content-clause-within t c = on_ok_weaker c.bind_all.result (λ e t' d z all.
    let ns = c.args.links.now in let n = c.args.node in let mid = c.match-parent.scope in
    let rest : All (λ (b : List ℕ × ℕ). b.1 < length t'.spaces) mid =
    elim c.match-parent.branch [
      | in-Some+in_ok-bind_above w ↦ subst (λ l. All (λ (b : List ℕ × ℕ). b.1 < length t'.spaces) l) (sym w.scope-is) (w.in_ok-bind_above.ensures.within t' d z all)
      | in_default w ↦ subst (λ l. All (λ (b : List ℕ × ℕ). b.1 < length t'.spaces) l) (sym w.scope-is) all
    ] in
    within_made t' ns d z n c.in-Some-content.content.now (sym c.in-Some-content.ensures.content) c.bind_all.new.scope mid c.bindings_of.result.now e c.bindings_of.ensures rest) c.bind_all.ensures
