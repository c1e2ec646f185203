use Rattle.std.proofs.Common.{◌+◌, List, ◌++◌, drop, subst}
use Rattle.std.proofs.lemmas.List.{drop_all}
use Rattle.simple_values.specs.declared.atoms.TypedAtom.{TypedAtom}
use Rattle.identity_tables.specs.Ids.{BorneAtom, borne_by}
use Rattle.identity_tables.specs.Table.{IsTableOf}
use Rattle.identity_tables.proofs.Dropping.{first-item}
use Rattle.identity_tables.proofs.ids.KeptIds.drop_items.Goals as goal

pub drop_atom-requires : goal.drop_atom-requires
drop_atom-requires c =
    let first = first-item c.args.bearer c.args.items.now c.loop-item.item-index c.item-item.result c.loop-item-test.true c.item-item.is in (
      borne_by c.args.bearer (drop (c.loop-item.item-index + 1) c.args.items.now) ++ c.requires.0,
      subst (λ (l : List BorneAtom). IsTableOf c.loop-item.self (l ++ c.requires.0)) first (c.loop-item.invariant c.requires.0 c.requires.1),
    )

pub loop-item-preserved : goal.loop-item-preserved
loop-item-preserved c = λ all t.
    let first = first-item c.args.bearer c.args.items.now c.loop-item.item-index c.item-item.result c.loop-item-test.true c.item-item.is in
    c.drop_atom.ensures (borne_by c.args.bearer (drop (c.loop-item.item-index + 1) c.args.items.now) ++ all)
    (subst (λ (l : List BorneAtom). IsTableOf c.loop-item.self (l ++ all)) first (c.loop-item.invariant all t))

pub returns : goal.returns
returns c = λ all t.
    subst (λ (l : List TypedAtom). IsTableOf c.loop-item.self (borne_by c.args.bearer l ++ all)) (drop_all c.loop-item.item-index c.args.items.now c.loop-item-test.false) (c.loop-item.invariant all t)
