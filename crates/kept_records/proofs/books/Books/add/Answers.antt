use Rattle.std.proofs.Common.{◌++◌, List, Option, subst, append_assoc}
use Rattle.simple_values.specs.declared.value.Value.{Value}
use Rattle.identity_tables.specs.Ids.{borne_in, borne_in_all}
use Rattle.identity_tables.specs.Table.{IsTableOf}
use Rattle.kept_records.proofs.books.Books.add.Goals as goal

pub returns-clause-ids : goal.returns-clause-ids
returns-clause-ids c = λ atoms t.
    let found = c.args.found.now in
    let own = borne_in found.bearer found.value in
    let both = c.in_ok-add_values.ensures (atoms ++ own) (c.in_ok-add_value.ensures atoms t) in
    subst (λ (values : List (Option Value)). IsTableOf c.add_values.new.self (atoms ++ (own ++ borne_in_all found.number values))) c.as_slice.ensures
    (subst (IsTableOf c.add_values.new.self) (append_assoc atoms own (borne_in_all found.number c.as_slice.result.now)) both)
