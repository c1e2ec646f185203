use Rattle.std.proofs.Common.{rules, ◌≡◌, ◌∷◌, Some, refl, ap, ◌∙◌}
use Rattle.xs_names.specs.Names.{with_space}
use Rattle.xs_names.proofs.GrownLaws.{Grown-trans}
use Rattle.representations.specs.Documents.{bindings_table}
use Rattle.representations.specs.Naming.{space_in}
use Rattle.representations.proofs.LaterLaws.{space-later}
use Rattle.representations.proofs.LastingLaws.{table-more}
use Rattle.set_representations.specs.Scopes.{bound}
use Rattle.set_representations.proofs.scope_list.bind_all.Goals as goal

pub loop-binding-preserved : goal.loop-binding-preserved
loop-binding-preserved c =
    let t = c.loop-binding.names in
    let u = c.namespace_id.new.self in
    let xs = c.args.bindings.now in
    let i = c.loop-binding.binding-index in
    let x = c.binding-item.result in
    let space : c.as_str.result.now ≡ x.namespace = search rules in
    let grown = c.in_ok-ns.ensures.grown in
    record {
      table = table-more bindings_table (λ b v. with_space v b.namespace) (λ b bs v. refl) xs i x t u _ c.loop-binding-test.true c.binding-item.is
          (c.in_ok-ns.ensures.table ∙ ap (with_space t) space) c.loop-binding.invariant.table;
      bound = λ later h.
          let number = space-later u (Some x.namespace) c.as_str.result.now c.in_ok-ns.ns space c.in_ok-ns.ensures.number later h in
          table-more (bound later) (λ b s. (b.prefix, space_in later (Some b.namespace)) ∷ s) (λ b bs s. refl) xs i x c.loop-binding.scope c.bind.new.self _
          c.loop-binding-test.true c.binding-item.is (c.in_ok-bind.ensures.ok ∙ (λ j. (x.prefix, number j) ∷ c.loop-binding.scope))
          (c.loop-binding.invariant.bound later (Grown-trans t u later grown h));
      grown = Grown-trans _ t u c.loop-binding.invariant.grown grown;
    }
