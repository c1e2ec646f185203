use Rattle.std.proofs.Common.{◌∙◌, ℕ, List, sym, subst}
use Rattle.simple_types.specs.Trees.{type_tree}
use Rattle.simple_types.specs.SimpleTypes.{AreTypesOf, IsWhole, IsValueOf}
use Rattle.simple_types.specs.declared.types.SimpleTypes.{SimpleTypes}
use Rattle.derive_faults.proofs.ValueLaws.{other-value}
use Rattle.derive_faults.proofs.values.has_other_value.Goals as goal

pub returns : goal.returns
returns c =
    let own = c.args.own.now in
    let base = c.args.base.now in
    record {
      lost = λ t ranked judged one two.
          other-value t c.args.of c.args.base_of own base c.in_ok-value.value c.in_ok-other.other
          (subst (λ (x : List ℕ). IsValueOf (type_tree t c.args.of) own.scope x c.in_ok-value.value) c.as_str.ensures (c.in_ok-value.ensures.value t ranked judged one))
          (subst (λ (x : List ℕ). IsValueOf (type_tree t c.args.base_of) base.scope x c.in_ok-other.other) c.as_str-2.ensures
          (c.in_ok-other.ensures.value t ranked (subst (AreTypesOf t) (sym c.validate.ensures.same) judged) (subst (λ (s : SimpleTypes). IsWhole s c.args.base_of) (sym c.validate.ensures.same) two)))
          c.other_values.result c.other_values.ensures;
      same = c.validate-2.ensures.same ∙ c.validate.ensures.same;
    }
