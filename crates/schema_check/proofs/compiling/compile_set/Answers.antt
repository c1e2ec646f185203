use Rattle.std.proofs.Common.{Result, subst}
use Rattle.xs_codes.specs.declared.fault.Fault.{Fault}
use Rattle.schema_check.specs.declared.building.BuiltSet.{BuiltSet}
use Rattle.set_representations.specs.Documents.{set_table}
use Rattle.schema_check.specs.Components.{IsBuilt}
use Rattle.schema_check.proofs.CompiledSetLaws.{source-of, first-names, set-compiled, set-unnamed}
use Rattle.schema_check.proofs.compiling.compile_set.Goals as goal

pub compile_parts-requires-clause-closed : goal.compile_parts-requires-clause-closed
compile_parts-requires-clause-closed c =
    let set = c.args.set.now.documents in
    let s = source-of (set_table c.in_ok-names.names set) set c.args.originals.now c.in-Ok.whole c.in_ok-built.built c.in-Ok.is c.in_ok-built.ensures.built in
    c.tables_are_closed.ensures.closed s.0 c.in-Ok.whole.parts s.1

pub compile_parts-requires-clause-none : goal.compile_parts-requires-clause-none
compile_parts-requires-clause-none c =
    let set = c.args.set.now.documents in
    let s = source-of (set_table c.in_ok-names.names set) set c.args.originals.now c.in-Ok.whole c.in_ok-built.built c.in-Ok.is c.in_ok-built.ensures.built in
    c.tables_are_closed.ensures.none s.0 c.in-Ok.whole.parts s.1

pub returns-in-Ok : goal.returns-in-Ok
returns-in-Ok c =
    let set = c.args.set.now.documents in
    let originals = c.args.originals.now in
    let t = set_table c.in_ok-names.names set in
    set-compiled c.compile_parts.result set originals t c.build.new.names c.in-Ok.whole (first-names set c.in_ok-names.names c.in_ok-names.ensures.table) c.in_ok-built.ensures.table
    (subst (λ (a : Result BuiltSet Fault). IsBuilt t set originals a) c.in-Ok.is c.in_ok-built.ensures.built) c.compile_parts.ensures

pub returns-in-Err : goal.returns-in-Err
returns-in-Err c =
    let set = c.args.set.now.documents in
    let originals = c.args.originals.now in
    let t = set_table c.in_ok-names.names set in
    set-unnamed set originals t c.in-Err.fault (first-names set c.in_ok-names.names c.in_ok-names.ensures.table)
    (subst (λ (a : Result BuiltSet Fault). IsBuilt t set originals a) c.in-Err.is c.in_ok-built.ensures.built)
