use Rattle.attr_uses.specs.Uses.{group_uses}
use Rattle.derive_restriction.proofs.RestrictionLaws.{answered-by, refused-by}
use Rattle.derive_restriction.proofs.AttrGroupLaws.{none-own, none-base, tables-in}
use Rattle.derive_restriction.proofs.group_faults.broken_code.Goals as goal

pub returns-in-Err-clause-first : goal.returns-in-Err-clause-first
returns-in-Err-clause-first c =
    let t = c.args.set.now.parts.now in
    let w = c.requires.tables in
    none-own t c.args.set.now.names.now c.args.own c.args.original
    (refused-by t w.0 c.args.set.now.tables.now.store c.of_group.result _ c.in-Err.is (group_uses t c.args.own) (c.of_group.ensures.table t w.0 w.1 c.requires.own))

pub returns-in-Err-of_group-clause-first : goal.returns-in-Err-of_group-clause-first
returns-in-Err-of_group-clause-first c =
    let t = c.args.set.now.parts.now in
    let w = c.requires.tables in
    none-base t c.args.set.now.names.now c.args.own c.args.original
    (refused-by t w.0 c.args.set.now.tables.now.store c.of_group-in-Ok.result _ c.in-Err-of_group.is (group_uses t c.args.original) (c.of_group-in-Ok.ensures.table t w.0 w.1 c.requires.original))

pub tables_code-requires-clause-tables : goal.tables_code-requires-clause-tables
tables_code-requires-clause-tables c =
    let t = c.args.set.now.parts.now in
    let w = c.requires.tables in
    let store = c.args.set.now.tables.now.store in
    let own = answered-by t w.0 store c.of_group.result c.in-Ok.own c.in-Ok.is (group_uses t c.args.own) (c.of_group.ensures.table t w.0 w.1 c.requires.own) in
    let base = answered-by t w.0 store c.of_group-in-Ok.result c.in-Ok-of_group.table c.in-Ok-of_group.is (group_uses t c.args.original) (c.of_group-in-Ok.ensures.table t w.0 w.1 c.requires.original) in
    (w.0, own.0, base.0, own.2, base.2)

pub returns-in-Ok-of_group-clause-first : goal.returns-in-Ok-of_group-clause-first
returns-in-Ok-of_group-clause-first c =
    let t = c.args.set.now.parts.now in
    let w = c.requires.tables in
    let store = c.args.set.now.tables.now.store in
    let own = answered-by t w.0 store c.of_group.result c.in-Ok.own c.in-Ok.is (group_uses t c.args.own) (c.of_group.ensures.table t w.0 w.1 c.requires.own) in
    let base = answered-by t w.0 store c.of_group-in-Ok.result c.in-Ok-of_group.table c.in-Ok-of_group.is (group_uses t c.args.original) (c.of_group-in-Ok.ensures.table t w.0 w.1 c.requires.original) in
    tables-in t c.args.set.now.names.now c.args.own c.args.original own.0 base.0 own.1 base.1 c.tables_code.result (c.tables_code.ensures.first w.0 own.0 base.0 own.2 base.2)
