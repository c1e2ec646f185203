use Rattle.std.proofs.Common.{sym, subst, ◌∙◌}
use Rattle.std.proofs.lemmas.Result.{IfOk-weaker}
use Rattle.compiled_schema.specs.Usable.{set_of}
use Rattle.tree_assess.specs.Entries.{ArePlain}
use Rattle.tree_assess.proofs.Root.{is_alone, can_root}
use Rattle.tree_assess.proofs.assessing.assess_plain.Goals as goal

pub assess_root-requires : goal.assess_root-requires
assess_root-requires c =
    let s = c.in-Some.field-0 in
    record {
      can = can_root c.args.tree.now c.in_ok-index.ensures.tree s.children s.next s.row.now (sym (c.top.ensures ∙ c.in_ok-index.ensures.index) ∙ c.in-Some.ensures) c.in-Element.name c.in-Element.is c.args.compiled.now c.requires.usable c.requires.sound c.requires.names;
    }

pub returns-clause-assessed : goal.returns-clause-assessed
returns-clause-assessed c =
    let s = c.in-Some.field-0 in
    IfOk-weaker c.assess_root.result _ _ (λ entries h. subst (λ f. ArePlain (set_of c.args.compiled.now) f entries.items)
    (sym (is_alone c.args.tree.now c.in_ok-index.ensures.tree s.children s.next s.row.now (sym (c.top.ensures ∙ c.in_ok-index.ensures.index) ∙ c.in-Some.ensures) c.in-Element.name c.in-Element.is)) h) c.assess_root.ensures.assessed
