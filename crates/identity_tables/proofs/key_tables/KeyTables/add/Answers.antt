use Rattle.std.proofs.Common.{[], sym, ◌∙◌, ap, refl, rules, Some}
use Rattle.std.specs.Option.{unwrap_or}
use Rattle.std.specs.Map.{set_value}
use Rattle.std.proofs.lemmas.Map.Steps.{set_value_same}
use Rattle.identity_tables.specs.KeyTables.{same_table}
use Rattle.identity_tables.proofs.Tables.{changes_table, one_more}
use Rattle.identity_tables.proofs.key_tables.KeyTables.add.Goals as goal

pub returns-in_err-add-clause-err : goal.returns-in_err-add-clause-err
returns-in_err-add-clause-err c =
    let es = c.self.inside.tables.entries in
    let same = (c.get_mut.follows.holds c.add.new.self).0 ∙ ap (λ b. set_value (same_table (record { scope = c.args.scope; constraint = c.args.constraint })) es b) c.in_err-add.ensures.err ∙ set_value_same _ es c.in-Some.counts.now (sym c.in-Some.ensures.value) in
    rw (same, c.self.view_is) (search rules)

pub returns-in-Some-clause-ok : goal.returns-in-Some-clause-ok
returns-in-Some-clause-ok c =
    let m = c.self.inside.tables in
    let n = c.get_mut.follows.lender c.add.new.self in
    let found = sym c.in-Some.ensures.value in
    let updates = (c.get_mut.follows.holds c.add.new.self).3 (rw found refl) in
    let was = ap (λ o. unwrap_or o []) found in
    rw (← c.self.view_is) (one_more m.entries n.entries c.args.scope c.args.constraint c.in-Some.counts.now c.add.new.self was (changes_table m.entries n.entries c.args.scope c.args.constraint (Some c.add.new.self) updates.0) c.args.tuple c.in_ok-add.ensures.ok)

pub returns-clause-ok : goal.returns-clause-ok
returns-clause-ok c =
    let m = c.self.inside.tables in
    let n = c.insert.new.self in
    let was = ap (λ o. unwrap_or o []) (sym c.in_default.ensures.value) in
    let updates = rw c.get_mut.follows.holds-at-none at c.in_ok-insert.ensures.updates in
    let more = rw c.new-counts.ensures.none at c.in_ok-add-2.ensures.ok in
    rw (← c.self.view_is) (one_more m.entries n.entries c.args.scope c.args.constraint [] c.add-2.new.self was (changes_table m.entries n.entries c.args.scope c.args.constraint (Some c.add-2.new.self) updates.0) c.args.tuple more)
