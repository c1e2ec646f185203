use Rattle.std.proofs.Common.{◌≡◌, ◌⊎◌, Bool, true, false, sym, subst, ◌∙◌}
use Rattle.std.specs.Prelude.{IfOk}
use Rattle.attr_uses.specs.Uses.{AttrUses, any_type_uses}
use Rattle.attr_uses.specs.Tables.{StandsFor}
use Rattle.derive_faults.specs.TypeFaults.{IsFirstCode}
use Rattle.derive_restriction.specs.Uses.{BreaksUses}
use Rattle.derive_restriction.specs.Wildcards.{BreaksWildcard}
use Rattle.derive_restriction.specs.Restrictions.{is_any_type}
use Rattle.derive_restriction.proofs.RestrictionLaws.{of-any-type}
use Rattle.derive_restriction.proofs.restrictions.base_code.Goals as goal

pub returns-then-is_any_type-clause-first : goal.returns-then-is_any_type-clause-first
returns-then-is_any_type-clause-first c = λ ids value also s u e.
    let t = c.args.set.now.parts.now in
    let names = c.args.set.now.names.now in
    let any : is_any_type c.args.base.now ≡ true = sym c.is_any_type.ensures ∙ c.if-is_any_type.true in
    let is = (of-any-type t c.args.base.now also any e).1 in
    subst (λ (a : AttrUses). IsFirstCode (λ code. BreaksUses t names value a code ⊎ BreaksWildcard (is_any_type c.args.base.now) value.wildcard a.wildcard code) c.any_type_code.result) (sym is)
    (subst (λ (b : Bool). IsFirstCode (λ code. BreaksUses t names value any_type_uses code ⊎ BreaksWildcard b value.wildcard any_type_uses.wildcard code) c.any_type_code.result) (sym any)
    (c.any_type_code.ensures ids value s (subst (StandsFor t ids c.args.set.now.tables.now.store c.args.table) is u)))

pub returns-else-is_any_type-clause-first : goal.returns-else-is_any_type-clause-first
returns-else-is_any_type-clause-first c = λ ids value also s u e.
    let t = c.args.set.now.parts.now in
    let other : is_any_type c.args.base.now ≡ false = sym c.is_any_type.ensures ∙ c.if-is_any_type.false in
    subst (λ (b : Bool). IfOk c.tables_code.result (IsFirstCode (λ code. BreaksUses t c.args.set.now.names.now value also code ⊎ BreaksWildcard b value.wildcard also.wildcard code))) (sym other)
    (c.tables_code.ensures.first ids value also s u)
