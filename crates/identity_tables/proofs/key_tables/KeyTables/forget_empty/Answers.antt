use Rattle.std.proofs.Common.{[], sym, ◌∙◌, ap, None}
use Rattle.std.specs.Option.{unwrap_or}
use Rattle.std.proofs.lemmas.List.{nil_from_length}
use Rattle.std.proofs.lemmas.Bool.{eqb-true}
use Rattle.identity_tables.proofs.Tables.{changes_table, same_tuples}
use Rattle.identity_tables.proofs.key_tables.KeyTables.forget_empty.Goals as goal
use Rattle.identity_tables.proofs.key_tables.KeyTables.forget_empty.Goals.{in-Some-1, in-None-1}

pub returns-then-is_empty : goal.returns-then-is_empty
returns-then-is_empty c =
    let m = c.self.inside.tables in
    let n = c.remove.new.self in
    let was = ap (λ o. unwrap_or o []) (sym c.in-Some.ensures.value) in
    let empty = nil_from_length c.in-Some.counts.now (eqb-true _ _ (sym c.is_empty.ensures.none ∙ c.if-is_empty.true)) in
    let same = same_tuples m.entries n.entries c.args.id.scope c.args.id.constraint c.in-Some.counts.now [] was (changes_table m.entries n.entries c.args.id.scope c.args.id.constraint None c.remove.ensures.updates.0) (sym empty) in
    rw (← c.self.view_is) (elim c.match-remove.branch [ in-Some-1 w ↦ rw w.self-is same | in-None-1 w ↦ rw w.self-is same ])
