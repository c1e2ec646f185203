use Rattle.std.proofs.Common.{[], sym, ap, refl, arith, Some}
use Rattle.std.specs.Option.{unwrap_or}
use Rattle.identity_tables.specs.Counts.{count_of}
use Rattle.identity_tables.specs.Tuple.{same_tuple}
use Rattle.identity_tables.proofs.Tables.{changes_table, one_less}
use Rattle.identity_tables.proofs.key_tables.KeyTables.drop_entry.Goals as goal

pub returns-in_default : goal.returns-in_default
returns-in_default c =
    let some = rw (← c.self.view_is) at c.requires in
    let none = ap (λ o. count_of same_tuple (unwrap_or o []) c.args.tuple.now) c.in_default.ensures.value in
    absurd (omega arith)

pub drop_one-requires : goal.drop_one-requires
drop_one-requires c =
    let some = rw (← c.self.view_is) at c.requires in
    let found = ap (λ o. count_of same_tuple (unwrap_or o []) c.args.tuple.now) c.in-Some.ensures.value in
    omega arith

pub returns : goal.returns
returns c =
    let m = c.self.inside.tables in
    let n = c.get_mut.follows.lender c.drop_one.new.self in
    let found = sym c.in-Some.ensures.value in
    let updates = (c.get_mut.follows.holds c.drop_one.new.self).3 (rw found refl) in
    let was = ap (λ o. unwrap_or o []) found in
    let less = one_less m.entries n.entries c.args.scope c.args.constraint c.in-Some.counts.now c.drop_one.new.self was (changes_table m.entries n.entries c.args.scope c.args.constraint (Some c.drop_one.new.self) updates.0) c.args.tuple.now c.drop_one.ensures.one_less in
    rw (← c.self.view_is) (λ scope constraint tuple. rw (c.forget_empty.ensures scope constraint) (less scope constraint tuple))
