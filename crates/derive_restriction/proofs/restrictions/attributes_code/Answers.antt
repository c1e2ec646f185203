use Rattle.std.proofs.Common.{refl}
use Rattle.xs_components.specs.declared.common.TypeId.TheVariants.{Complex}
use Rattle.attr_uses.specs.Uses.{uses_of}
use Rattle.derive_restriction.specs.Restrictions.{is_any_type}
use Rattle.derive_restriction.proofs.RestrictionLaws.{answered-by, refused-by, none-own, none-base, tables-in}
use Rattle.derive_restriction.proofs.restrictions.attributes_code.Goals as goal

pub returns-in-Err-clause-first : goal.returns-in-Err-clause-first
returns-in-Err-clause-first c =
    let t = c.args.set.now.parts.now in
    let w = c.requires.tables in
    none-own t c.args.set.now.names.now c.args.id c.args.base.now
    (refused-by t w.0 c.args.set.now.tables.now.store c.of_type.result _ c.in-Err.is (uses_of t (Complex c.args.id)) (c.of_type.ensures.table t w.0 w.1 c.requires.there))

pub returns-in-Err-of_type-clause-first : goal.returns-in-Err-of_type-clause-first
returns-in-Err-of_type-clause-first c =
    let t = c.args.set.now.parts.now in
    let w = c.requires.tables in
    none-base t c.args.set.now.names.now c.args.id c.args.base.now
    (refused-by t w.0 c.args.set.now.tables.now.store c.of_type-in-Ok.result _ c.in-Err-of_type.is (uses_of t c.args.base.now) (c.of_type-in-Ok.ensures.table t w.0 w.1 c.requires.base))

pub base_code-requires-clause-tables : goal.base_code-requires-clause-tables
base_code-requires-clause-tables c =
    let t = c.args.set.now.parts.now in
    let w = c.requires.tables in
    let store = c.args.set.now.tables.now.store in
    let own = answered-by t w.0 store c.of_type.result c.in-Ok.own c.in-Ok.is (uses_of t (Complex c.args.id)) (c.of_type.ensures.table t w.0 w.1 c.requires.there) in
    let base = answered-by t w.0 store c.of_type-in-Ok.result c.in-Ok-of_type.table c.in-Ok-of_type.is (uses_of t c.args.base.now) (c.of_type-in-Ok.ensures.table t w.0 w.1 c.requires.base) in
    (w.0, own.0, base.0, own.2, base.2)

pub returns-in-Ok-of_type-clause-first : goal.returns-in-Ok-of_type-clause-first
returns-in-Ok-of_type-clause-first c =
    let t = c.args.set.now.parts.now in
    let w = c.requires.tables in
    let store = c.args.set.now.tables.now.store in
    let own = answered-by t w.0 store c.of_type.result c.in-Ok.own c.in-Ok.is (uses_of t (Complex c.args.id)) (c.of_type.ensures.table t w.0 w.1 c.requires.there) in
    let base = answered-by t w.0 store c.of_type-in-Ok.result c.in-Ok-of_type.table c.in-Ok-of_type.is (uses_of t c.args.base.now) (c.of_type-in-Ok.ensures.table t w.0 w.1 c.requires.base) in
    tables-in t c.args.set.now.names.now c.args.id c.args.base.now own.0 base.0 own.1 base.1 (is_any_type c.args.base.now) refl c.base_code.result (c.base_code.ensures.first w.0 own.0 base.0 own.2 base.2 base.1)
