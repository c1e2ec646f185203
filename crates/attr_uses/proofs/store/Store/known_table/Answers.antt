use Rattle.std.proofs.Common.{Ok, sym, ap, subst, ◌∙◌}
use Rattle.attr_uses.specs.Uses.{uses_of}
use Rattle.attr_uses.specs.Tables.{Answers}
use Rattle.attr_uses.proofs.DefLaws.{any_type_is, builtin_is, simple_is}
use Rattle.attr_uses.proofs.TypeLaws.{known-there, known-missing}
use Rattle.attr_uses.proofs.store.Store.known_table.Goals as goal

pub returns-in-AnyType : goal.returns-in-AnyType
returns-in-AnyType c = record {
  table = λ t ids k. subst (Answers t ids c.args.self.now (Ok c.any_type.result)) (sym (ap (uses_of t) c.in-AnyType.is ∙ any_type_is t)) (c.any_type.ensures.table t ids);
}

pub returns-in-Builtin : goal.returns-in-Builtin
returns-in-Builtin c = record {
  table = λ t ids k. subst (Answers t ids c.args.self.now (Ok c.nothing.result)) (sym (ap (uses_of t) c.in-Builtin.is ∙ builtin_is t _)) (c.nothing.ensures.table t ids);
}

pub returns-in-Simple : goal.returns-in-Simple
returns-in-Simple c = record {
  table = λ t ids k. subst (Answers t ids c.args.self.now (Ok c.nothing-in-Simple.result)) (sym (ap (uses_of t) c.in-Simple.is ∙ simple_is t _)) (c.nothing-in-Simple.ensures.table t ids);
}

pub returns-in-Some : goal.returns-in-Some
returns-in-Some c = record {
  table = λ t ids k. known-there t ids c.args.self.now c.args.types.now c.args.of c.in-Complex.id c.in-Complex.is c.number.result c.number.ensures c.in-Some.answer (sym c.in-Some.is ∙ c.answer_at.ensures) k;
}

pub returns-in-None : goal.returns-in-None
returns-in-None c = record {
  table = λ t ids k. known-missing t ids c.args.self.now c.args.types.now c.args.of c.in-Complex.id c.in-Complex.is c.number.result c.number.ensures (sym c.in-None.is ∙ c.answer_at.ensures) (Ok c.nothing-in-None.result) k;
}
