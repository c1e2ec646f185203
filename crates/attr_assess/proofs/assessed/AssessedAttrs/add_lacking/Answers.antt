use Rattle.std.proofs.Common.{List, refl, sym, subst}
use Rattle.std.specs.Prelude.{All}
use Rattle.std.proofs.lemmas.Result.{on_ok_weaker}
use Rattle.attr_assess.specs.Governing.{uses_for}
use Rattle.attr_assess.specs.declared.added.AddedUse.{AddedUse}
use Rattle.attr_assess.specs.declared.assessed.AssessedAttrs.{AssessedAttrs}
use Rattle.attr_assess.specs.inside.Lists.{HoldsEach, IsUse, IsUseJudged}
use Rattle.attr_assess.proofs.KnownLaws.{added-written}
use Rattle.attr_assess.proofs.Whole.{lacking-holds}
use Rattle.attr_assess.proofs.assessed.AssessedAttrs.add_lacking.Goals as goal

pub add_uses-requires-clause-written : goal.add_uses-requires-clause-written
add_uses-requires-clause-written c =
    let t = c.args.schema.now.parts.now in
    subst (All (IsUse t)) (sym c.as_slice.ensures)
    (added-written t c.args.schema.now.names.now (uses_for t c.args.of.now).uses c.in_ok-missing.field-0.added c.in_ok-missing.ensures.lacking.uses_are)

pub returns-clause-lacking : goal.returns-clause-lacking
returns-clause-lacking c =
    let names = c.args.schema.now.names.now in
    let t = c.args.schema.now.parts.now in
    let old = c.args.self.now in
    let new = c.add_uses.new.self in
    let lacking = c.in_ok-missing.field-0 in
    let middle : AssessedAttrs = record { records = old.records; values = old.values; missing = lacking.missing } in
    on_ok_weaker c.add_uses.result
    (λ (held : HoldsEach (IsUseJudged t) c.as_slice.result.now middle new).
    lacking-holds names t (uses_for t c.args.of.now).uses c.args.attrs.now old middle new refl refl lacking refl c.in_ok-missing.ensures.lacking
    (subst (λ (uses : List AddedUse). HoldsEach (IsUseJudged t) uses middle new) c.as_slice.ensures held))
    c.add_uses.ensures.held
