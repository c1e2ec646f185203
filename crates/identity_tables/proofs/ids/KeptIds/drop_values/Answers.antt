use Rattle.std.proofs.Common.{◌+◌, List, Option, ◌++◌, drop, sym, subst}
use Rattle.std.proofs.lemmas.List.{drop_all}
use Rattle.simple_values.specs.declared.value.Value.{Value}
use Rattle.identity_tables.specs.Ids.{borne_in, borne_in_all}
use Rattle.identity_tables.specs.Table.{IsTableOf}
use Rattle.identity_tables.proofs.Dropping.{first-value}
use Rattle.identity_tables.proofs.ids.KeptIds.drop_values.Goals as goal

pub drop_value-requires : goal.drop_value-requires
drop_value-requires c =
    let first = first-value c.args.bearer c.args.values.now c.loop-value.value-index c.value-item.result c.requires.0 c.loop-value-test.true c.value-item.is in
    let rest = borne_in_all c.args.bearer (drop (c.loop-value.value-index + 1) c.args.values.now) ++ c.requires.0 in (
      rest,
      subst (λ (v : Option Value). IsTableOf c.loop-value.self (borne_in c.args.bearer v ++ rest)) (sym c.get.ensures)
          (subst (IsTableOf c.loop-value.self) first (c.loop-value.invariant c.requires.0 c.requires.1)),
    )

pub loop-value-preserved : goal.loop-value-preserved
loop-value-preserved c = λ all t.
    let first = first-value c.args.bearer c.args.values.now c.loop-value.value-index c.value-item.result all c.loop-value-test.true c.value-item.is in
    let rest = borne_in_all c.args.bearer (drop (c.loop-value.value-index + 1) c.args.values.now) ++ all in
    c.drop_value.ensures rest
    (subst (λ (v : Option Value). IsTableOf c.loop-value.self (borne_in c.args.bearer v ++ rest)) (sym c.get.ensures)
    (subst (IsTableOf c.loop-value.self) first (c.loop-value.invariant all t)))

pub returns : goal.returns
returns c = λ all t.
    subst (λ (l : List (Option Value)). IsTableOf c.loop-value.self (borne_in_all c.args.bearer l ++ all)) (drop_all c.loop-value.value-index c.args.values.now c.loop-value-test.false) (c.loop-value.invariant all t)
