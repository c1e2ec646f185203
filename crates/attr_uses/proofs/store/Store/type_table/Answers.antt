use Rattle.std.proofs.Common.{sym, subst}
use Rattle.std.proofs.lemmas.Result.{IfOk-weaker}
use Rattle.xs_components.specs.declared.common.TypeId.TheVariants.{Complex}
use Rattle.attr_uses.specs.declared.entry.UseHolder.TheVariants.{Complex as OfType}
use Rattle.attr_uses.specs.Written.{own_parts}
use Rattle.attr_uses.specs.Uses.{group_uses, uses_with_groups, with_base, uses_of}
use Rattle.attr_uses.specs.Tables.{Answers}
use Rattle.attr_uses.specs.inside.Kept.{Keeps}
use Rattle.attr_uses.proofs.KeptLaws.{keeps-on, store-kept}
use Rattle.attr_uses.proofs.TypeLaws.{answer-ok, answer-err, fault-is, type-answers, base-known, type-refused, base-refused, type-made}
use Rattle.attr_uses.proofs.store.Store.type_table.Goals as goal

pub with_own_groups-requires-clause-groups : goal.with_own_groups-requires-clause-groups
with_own_groups-requires-clause-groups c = type-answers c.args.parts.now c.args.ids.now c.args.self.now c.args.groups.now (own_parts c.args.parts.now (OfType c.args.number)).groups c.requires.groups

pub returns-in-Err : goal.returns-in-Err
returns-in-Err c =
    let t = c.args.parts.now in
    let ids = c.args.ids.now in
    let s1 = c.with_own_groups.new.self in
    let m = c.in_ok-answer.ensures.made in
    let w = uses_with_groups (group_uses t) (OfType c.args.number) (own_parts t (OfType c.args.number)) in
    let e = answer-err t ids s1 c.in-Err.fault w (subst (λ r. Answers t ids s1 r w) c.in-Err.is m.1) in
    record { made = (m.0, fault-is t ids s1 c.in-Err.fault _ (type-refused t c.requires.ranked c.args.number c.complex_in-part.result.now c.requires.there c.complex_in-part.ensures c.in-Err.fault e)) }

pub known_table-requires : goal.known_table-requires
known_table-requires c = record { store = store-kept c.args.self.now c.with_own_groups.new.self c.in_ok-answer.ensures.made.0 c.requires.store }

pub with_base-requires-clause-own : goal.with_base-requires-clause-own
with_base-requires-clause-own c =
    let t = c.args.parts.now in
    let ids = c.args.ids.now in
    let s1 = c.with_own_groups.new.self in
    let own = uses_with_groups (group_uses t) (OfType c.args.number) (own_parts t (OfType c.args.number)) in
    let w = answer-ok t ids s1 c.in-Ok.own own (subst (λ r. Answers t ids s1 r own) c.in-Ok.is c.in_ok-answer.ensures.made.1) in
    (t, ids, w.0, w.2)

pub with_base-requires-clause-base : goal.with_base-requires-clause-base
with_base-requires-clause-base c =
    let t = c.args.parts.now in
    let ids = c.args.ids.now in
    let s1 = c.with_own_groups.new.self in
    let part = c.complex_in-part.result.now in
    let known = c.known_table.ensures.table t ids (base-known t ids c.args.self.now s1 c.in_ok-answer.ensures.made.0 c.args.types.now c.args.number part c.requires.ranked c.complex_in-part.ensures c.requires.types) in
    let b = answer-ok t ids s1 c.in-Ok-known_table.base (uses_of t part.base) (subst (λ r. Answers t ids s1 r (uses_of t part.base)) c.in-Ok-known_table.is known) in
    (t, ids, b.0, b.2)

pub returns-in-Ok-known_table : goal.returns-in-Ok-known_table
returns-in-Ok-known_table c =
    let t = c.args.parts.now in
    let ids = c.args.ids.now in
    let s1 = c.with_own_groups.new.self in
    let new = c.with_base.new.self in
    let n = c.args.number in
    let part = c.complex_in-part.result.now in
    let m = c.in_ok-answer.ensures.made in
    let own = uses_with_groups (group_uses t) (OfType n) (own_parts t (OfType n)) in
    let a = answer-ok t ids s1 c.in-Ok.own own (subst (λ r. Answers t ids s1 r own) c.in-Ok.is m.1) in
    let known = c.known_table.ensures.table t ids (base-known t ids c.args.self.now s1 m.0 c.args.types.now n part c.requires.ranked c.complex_in-part.ensures c.requires.types) in
    let b = answer-ok t ids s1 c.in-Ok-known_table.base (uses_of t part.base) (subst (λ r. Answers t ids s1 r (uses_of t part.base)) c.in-Ok-known_table.is known) in
    let same = type-made t c.requires.ranked n part c.requires.there c.complex_in-part.ensures a.0 b.0 a.1 b.1 in
    record {
      made = IfOk-weaker c.with_base.result (λ answer. Keeps s1 new × Answers t ids new answer (with_base t part a.0 b.0)) (λ answer. Keeps c.args.self.now new × Answers t ids new answer (uses_of t (Complex n)))
          (λ answer h. (keeps-on c.args.self.now s1 new m.0 h.0, subst (Answers t ids new answer) (sym same) h.1)) (c.with_base.ensures.made t ids a.0 b.0 a.2 b.2);
    }

pub returns-in-Err-known_table : goal.returns-in-Err-known_table
returns-in-Err-known_table c =
    let t = c.args.parts.now in
    let ids = c.args.ids.now in
    let s1 = c.with_own_groups.new.self in
    let n = c.args.number in
    let part = c.complex_in-part.result.now in
    let m = c.in_ok-answer.ensures.made in
    let own = uses_with_groups (group_uses t) (OfType n) (own_parts t (OfType n)) in
    let a = answer-ok t ids s1 c.in-Ok.own own (subst (λ r. Answers t ids s1 r own) c.in-Ok.is m.1) in
    let known = c.known_table.ensures.table t ids (base-known t ids c.args.self.now s1 m.0 c.args.types.now n part c.requires.ranked c.complex_in-part.ensures c.requires.types) in
    let e = answer-err t ids s1 c.in-Err-known_table.fault (uses_of t part.base) (subst (λ r. Answers t ids s1 r (uses_of t part.base)) c.in-Err-known_table.is known) in
    record { made = (m.0, fault-is t ids s1 c.in-Err-known_table.fault _ (base-refused t c.requires.ranked n part c.requires.there c.complex_in-part.ensures a.0 c.in-Err-known_table.fault a.1 e)) }
