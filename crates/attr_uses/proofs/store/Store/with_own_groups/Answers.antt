use Rattle.std.proofs.Common.{map, slice_get, sym, ap, subst, ◌∙◌}
use Rattle.std.specs.Prelude.{All}
use Rattle.std.proofs.lemmas.Result.{IfOk-weaker}
use Rattle.attr_uses.specs.Written.{own_parts}
use Rattle.attr_uses.specs.Uses.{group_uses, first_refusal, refused_or}
use Rattle.attr_uses.specs.Tables.{Answers}
use Rattle.attr_uses.specs.inside.Kept.{Keeps, IsAnswerAt, accepted_uses}
use Rattle.attr_uses.proofs.KeptLaws.{keeps-itself}
use Rattle.attr_uses.proofs.TypeLaws.{fault-is}
use Rattle.attr_uses.proofs.store.Store.with_own_groups.Goals as goal

pub returns-in-Some : goal.returns-in-Some
returns-in-Some c =
    let t = c.args.parts.now in
    let ids = c.args.ids.now in
    let own = own_parts t c.args.holder in
    let same = c.groups_in.ensures in
    let all = subst (All (λ g. IsAnswerAt t ids c.args.self.now (slice_get c.args.groups.now g) (group_uses t g))) (sym same) c.requires.groups in
    let first = ap (λ xs. first_refusal (map (group_uses t) xs)) (sym same) ∙ (sym (c.first_refused.ensures t ids c.args.self.now all) ∙ c.in-Some.is) in
    record {
      made = (keeps-itself c.args.self.now, fault-is t ids c.args.self.now c.in-Some.fault _ (ap (λ o. refused_or o (accepted_uses (group_uses t) c.args.holder own)) first));
    }

pub returns-in-None : goal.returns-in-None
returns-in-None c =
    let t = c.args.parts.now in
    let ids = c.args.ids.now in
    let own = own_parts t c.args.holder in
    let same = c.groups_in.ensures in
    let all = subst (All (λ g. IsAnswerAt t ids c.args.self.now (slice_get c.args.groups.now g) (group_uses t g))) (sym same) c.requires.groups in
    let first = ap (λ xs. first_refusal (map (group_uses t) xs)) (sym same) ∙ (sym (c.first_refused.ensures t ids c.args.self.now all) ∙ c.in-None.is) in
    let accepted' = accepted_uses (group_uses t) c.args.holder own in
    record {
      made = IfOk-weaker c.with_accepted.result (λ answer. Keeps c.args.self.now c.with_accepted.new.self × Answers t ids c.with_accepted.new.self answer accepted')
          (λ answer. Keeps c.args.self.now c.with_accepted.new.self × Answers t ids c.with_accepted.new.self answer (refused_or (first_refusal (map (group_uses t) own.groups)) accepted'))
          (λ answer m. (m.0, subst (Answers t ids c.with_accepted.new.self answer) (sym (ap (λ o. refused_or o accepted') first)) m.1)) c.with_accepted.ensures.made;
    }
