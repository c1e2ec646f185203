use Rattle.std.proofs.Common.{◌≡◌, ℕ, Option, Some, sym, subst}
use Rattle.compiled_schema.specs.Usable.{set_of}
use Rattle.doc_changes.specs.Held.{parent_at}
use Rattle.kept_children.specs.from_kept_records.Fit.{head_at}
use Rattle.kept_children.specs.from_kept_judging.Judged.{root_pair}
use Rattle.kept_changes.specs.Own.{IsNamedAnew}
use Rattle.kept_changes.specs.Steps.{TakesAt, TakesName}
use Rattle.kept_changes.proofs.Following.{named-element, named-child, named-root}
use Rattle.kept_changes.proofs.own.rename.Goals as goal

pub place_of-requires : goal.place_of-requires
place_of-requires g c = named-element c.args.set.now c.args.doc.now c.args.kept.now c.args.node c.requires.renamed

pub name_child-requires-clause-renamed : goal.name_child-requires-clause-renamed
name_child-requires-clause-renamed g c = named-child c.args.set.now c.args.doc.now c.args.kept.now c.args.node c.requires.renamed c.in-Some.at c.in-Some.ensures.0

pub rename_root-requires-clause-renamed : goal.rename_root-requires-clause-renamed
rename_root-requires-clause-renamed g c =
    subst (IsNamedAnew c.args.set.now c.args.doc.now c.args.kept.now) (named-root c.args.set.now c.args.doc.now c.args.kept.now c.args.node c.requires.beside c.requires.renamed c.in-None.ensures) c.requires.renamed

pub returns-in-Some-clause-steps : goal.returns-in-Some-clause-steps
returns-in-Some-clause-steps g c =
    let up = subst (λ (n : ℕ). parent_at c.args.doc.now n ≡ Some c.in-Some.at.parent) c.in-Some.ensures.0 c.in-Some.ensures.1.parent_is in
    subst (λ (o : Option ℕ). TakesName c.args.set.now c.args.doc.now c.args.kept.now c.args.node o c.args.steps.now c.name_child.new.steps) (sym up) c.name_child.ensures.steps

pub returns-in-None-clause-steps : goal.returns-in-None-clause-steps
returns-in-None-clause-steps g c =
    subst (λ (o : Option ℕ). TakesName c.args.set.now c.args.doc.now c.args.kept.now c.args.node o c.args.steps.now c.rename_root.new.steps) (sym c.in-None.ensures)
    (subst (λ (n : ℕ). TakesAt c.args.set.now c.args.doc.now c.args.kept.now n (root_pair (set_of c.args.set.now) (head_at (set_of c.args.set.now) c.args.doc.now n)) c.args.steps.now c.rename_root.new.steps)
    (sym (named-root c.args.set.now c.args.doc.now c.args.kept.now c.args.node c.requires.beside c.requires.renamed c.in-None.ensures)) c.rename_root.ensures.steps)
