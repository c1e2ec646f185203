use Rattle.std.proofs.Common.{◌≡◌, ℕ, List, sym, subst}
use Rattle.std.proofs.lemmas.Result.{IfOk-weaker}
use Rattle.xs_components.specs.declared.common.TypeId.{TypeId}
use Rattle.xs_components.specs.declared.common.TypeId.TheVariants as types
use Rattle.facets.specs.Literal.{IsBuiltinRead}
use Rattle.simple_types.specs.Trees.{type_tree}
use Rattle.simple_types.specs.declared.judged.JudgedType.{JudgedType}
use Rattle.simple_types.specs.SimpleTypes.{IsWhole, IsValueOf}
use Rattle.simple_types.specs.inside.Numbers.{IsMadeAt}
use Rattle.simple_types.proofs.BuiltIns.{built_in_value}
use Rattle.simple_types.proofs.InForce.{simple_is_made, content_is_made}
use Rattle.simple_types.proofs.types.SimpleTypes.validate.Goals as goal

pub returns-in-Builtin-clause-value : goal.returns-in-Builtin-clause-value
returns-in-Builtin-clause-value c = λ t ranked are whole.
    let text : List ℕ = c.args.text.now in
    IfOk-weaker c.read_builtin.result (IsBuiltinRead c.in-Builtin.kind c.args.scope.now text) (IsValueOf (type_tree t c.args.of) c.args.scope.now text)
    (λ outcome read. subst (λ of. IsValueOf (type_tree t of) c.args.scope.now text outcome) (sym c.in-Builtin.is)
    (built_in_value t ranked c.in-Builtin.kind c.args.scope.now text outcome read))
    c.read_builtin.ensures

pub returns-in-Simple-clause-value : goal.returns-in-Simple-clause-value
returns-in-Simple-clause-value c = λ t ranked are whole.
    let types_of = c.args.self.now in
    let made : IsMadeAt (type_tree t (types.Simple c.in-Simple.id)) types_of.simples c.in-Simple.id =
    simple_is_made t ranked types_of are c.in-Simple.id (subst (IsWhole types_of) c.in-Simple.is whole) in
    let tree = subst (λ of. IsMadeAt (type_tree t of) types_of.simples c.in-Simple.id) (sym c.in-Simple.is) made in
    c.value_in.ensures (type_tree t c.args.of)
    (subst (λ n. IsMadeAt (type_tree t c.args.of) c.as_slice.result.now n) (sym c.number.ensures)
    (subst (λ (table : List JudgedType). IsMadeAt (type_tree t c.args.of) table c.in-Simple.id) (sym c.as_slice.ensures) tree))

pub returns-in-Complex-clause-value : goal.returns-in-Complex-clause-value
returns-in-Complex-clause-value c = λ t ranked are whole.
    let types_of = c.args.self.now in
    let made : IsMadeAt (type_tree t (types.Complex c.in-Complex.id)) types_of.complexes c.in-Complex.id =
    content_is_made t ranked types_of are c.in-Complex.id (subst (IsWhole types_of) c.in-Complex.is whole) in
    let tree = subst (λ of. IsMadeAt (type_tree t of) types_of.complexes c.in-Complex.id) (sym c.in-Complex.is) made in
    c.value_in-in-Complex.ensures (type_tree t c.args.of)
    (subst (λ n. IsMadeAt (type_tree t c.args.of) c.as_slice-in-Complex.result.now n) (sym c.number-in-Complex.ensures)
    (subst (λ (table : List JudgedType). IsMadeAt (type_tree t c.args.of) table c.in-Complex.id) (sym c.as_slice-in-Complex.ensures) tree))
