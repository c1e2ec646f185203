-- Properties are the same where `==` finds them so.
use Rattle.std.proofs.Common.{◌≡◌, ℕ, Bool, true, false, ◌&&◌, ◌==◌, refl, ap}
use Rattle.std.specs.Bool.{Decides}
use mathlib.Core.Bool.{beq}
use denote.Enum.Bare.{same_true, true_same}
use Rattle.std.proofs.lemmas.Bool.{false≢true, eqb-true, eq-eqb}
use Rattle.xs_codes.specs.contracts.builtin.Builtin.{the_type}
use Rattle.xs_components.specs.declared.common.Methods.{Methods}
use Rattle.xs_components.specs.declared.common.TypeId.{TypeId}
use Rattle.xs_components.specs.declared.common.TypeId.TheVariants.{AnyType, Builtin, Simple, Complex}
use Rattle.xs_components.specs.contracts.common.MethodsPartialEq.TheImpl as methods
use Rattle.xs_components.specs.contracts.common.TypeIdPartialEq.TheImpl as types
use Rattle.simple_values.proofs.Keys.{key_decides}
use Rattle.element_declarations.specs.declared.properties.Properties.{Properties}
use Rattle.element_declarations.specs.declared.values.ValueKey.{ValueKey}
use Rattle.element_declarations.specs.declared.values.ValueKey.TheVariants.{Absent, Default, Fixed}
use Rattle.element_declarations.specs.contracts.properties.PropertiesPartialEq.TheImpl as properties
use Rattle.element_declarations.specs.contracts.values.ValueKeyPartialEq.TheImpl as values

both : (a b : Bool) → (a && b) ≡ true → (a ≡ true) × (b ≡ true)
both true true e = (refl, refl)
both true false e = cc
both false b e = cc

all_both : (a b : Bool) → a ≡ true → b ≡ true → (a && b) ≡ true
all_both a b p q = rw (p, q) refl

truth_decides : (a b : Bool) → Decides (beq a b) (a ≡ b)
truth_decides true true = (λ e. refl, λ e. refl)
truth_decides true false = (λ e. cc, λ e. cc)
truth_decides false true = (λ e. cc, λ e. cc)
truth_decides false false = (λ e. refl, λ e. refl)

number_decides : (a b : ℕ) → Decides (a == b) (a ≡ b)
number_decides a b = (eqb-true a b, eq-eqb a b)

type_decides : (a b : TypeId) → Decides (types.eq-value.it a b) (a ≡ b)
type_decides AnyType AnyType = (λ e. refl, λ e. refl)
type_decides (Builtin j) (Builtin k) = (λ e. ap Builtin (same_true the_type tt j k e), λ e. let p : j ≡ k = cc in true_same the_type j k p)
type_decides (Simple j) (Simple k) = let d = number_decides j k in (λ e. ap Simple (d.0 e), λ e. let p : j ≡ k = cc in d.1 p)
type_decides (Complex j) (Complex k) = let d = number_decides j k in (λ e. ap Complex (d.0 e), λ e. let p : j ≡ k = cc in d.1 p)
type_decides a b = (λ e. absurd (false≢true e), λ e. cc)

value_decides : (a b : ValueKey) → Decides (values.eq-value.it a b) (a ≡ b)
value_decides Absent Absent = (λ e. refl, λ e. refl)
value_decides (Default a) (Default b) = let d = key_decides a b in (λ e. ap Default (d.0 e), λ e. let p : a ≡ b = cc in d.1 p)
value_decides (Fixed a) (Fixed b) = let d = key_decides a b in (λ e. ap Fixed (d.0 e), λ e. let p : a ≡ b = cc in d.1 p)
value_decides a b = (λ e. absurd (false≢true e), λ e. cc)

methods_decide : (a b : Methods) → Decides (methods.eq-value.it a b) (a ≡ b)
methods_decide a b = (told, back)
  where
    told : methods.eq-value.it a b ≡ true → a ≡ b
    told e =
        let h = both _ _ e in
        let k = both _ _ h.1 in
        let l = both _ _ k.1 in
        let m = both _ _ l.1 in
        let extension : a.extension ≡ b.extension = (truth_decides a.extension b.extension).0 h.0 in
        let restriction : a.restriction ≡ b.restriction = (truth_decides a.restriction b.restriction).0 k.0 in
        let substitution : a.substitution ≡ b.substitution = (truth_decides a.substitution b.substitution).0 l.0 in
        let by_list : a.by_list ≡ b.by_list = (truth_decides a.by_list b.by_list).0 m.0 in
        let by_union : a.by_union ≡ b.by_union = (truth_decides a.by_union b.by_union).0 m.1 in
        λ i. record { extension = extension i; restriction = restriction i; substitution = substitution i; by_list = by_list i; by_union = by_union i }

    back : a ≡ b → methods.eq-value.it a b ≡ true
    back e =
        all_both _ _ ((truth_decides a.extension b.extension).1 (ap (λ (m : Methods). m.extension) e))
        (all_both _ _ ((truth_decides a.restriction b.restriction).1 (ap (λ (m : Methods). m.restriction) e))
        (all_both _ _ ((truth_decides a.substitution b.substitution).1 (ap (λ (m : Methods). m.substitution) e))
        (all_both _ _ ((truth_decides a.by_list b.by_list).1 (ap (λ (m : Methods). m.by_list) e))
        ((truth_decides a.by_union b.by_union).1 (ap (λ (m : Methods). m.by_union) e)))))

pub properties_decide : (a b : Properties) → Decides (properties.eq-value.it a b) (a ≡ b)
properties_decide a b = (told, back)
  where
    told : properties.eq-value.it a b ≡ true → a ≡ b
    told e =
        let h1 = both _ _ e in
        let h2 = both _ _ h1.1 in
        let h3 = both _ _ h2.1 in
        let h4 = both _ _ h3.1 in
        let h5 = both _ _ h4.1 in
        let h6 = both _ _ h5.1 in
        let name : a.name ≡ b.name = (number_decides a.name b.name).0 h1.0 in
        let of : a.of ≡ b.of = (type_decides a.of b.of).0 h2.0 in
        let value : a.value ≡ b.value = (value_decides a.value b.value).0 h3.0 in
        let nillable : a.nillable ≡ b.nillable = (truth_decides a.nillable b.nillable).0 h4.0 in
        let is_abstract : a.is_abstract ≡ b.is_abstract = (truth_decides a.is_abstract b.is_abstract).0 h5.0 in
        let finals : a.finals ≡ b.finals = (methods_decide a.finals b.finals).0 h6.0 in
        let blocks : a.blocks ≡ b.blocks = (methods_decide a.blocks b.blocks).0 h6.1 in
        λ i. record { name = name i; of = of i; value = value i; nillable = nillable i; is_abstract = is_abstract i; finals = finals i; blocks = blocks i }

    back : a ≡ b → properties.eq-value.it a b ≡ true
    back e =
        all_both _ _ ((number_decides a.name b.name).1 (ap (λ (p : Properties). p.name) e))
        (all_both _ _ ((type_decides a.of b.of).1 (ap (λ (p : Properties). p.of) e))
        (all_both _ _ ((value_decides a.value b.value).1 (ap (λ (p : Properties). p.value) e))
        (all_both _ _ ((truth_decides a.nillable b.nillable).1 (ap (λ (p : Properties). p.nillable) e))
        (all_both _ _ ((truth_decides a.is_abstract b.is_abstract).1 (ap (λ (p : Properties). p.is_abstract) e))
        (all_both _ _ ((methods_decide a.finals b.finals).1 (ap (λ (p : Properties). p.finals) e))
        ((methods_decide a.blocks b.blocks).1 (ap (λ (p : Properties). p.blocks) e)))))))
