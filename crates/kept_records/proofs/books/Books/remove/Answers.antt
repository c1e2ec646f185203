use Rattle.std.proofs.Common.{◌++◌, List, Option, sym, subst, append_assoc}
use Rattle.simple_values.specs.declared.value.Value.{Value}
use Rattle.identity_tables.specs.Ids.{BorneAtom, borne_in, borne_in_all}
use Rattle.identity_tables.specs.Table.{IsTableOf}
use Rattle.kept_records.proofs.books.Books.remove.Goals as goal

pub drop_value-requires : goal.drop_value-requires
drop_value-requires c =
    let found = c.args.found.now in
    let rest = c.requires.ids.0 in (
      borne_in_all found.number found.attr_values ++ rest,
      subst (IsTableOf c.args.self.now.ids) (append_assoc (borne_in found.bearer found.value) (borne_in_all found.number found.attr_values) rest) c.requires.ids.1,
    )

pub drop_values-requires : goal.drop_values-requires
drop_values-requires c =
    let found = c.args.found.now in
    let rest = c.requires.ids.0 in (
      rest,
      subst (λ (values : List (Option Value)). IsTableOf c.drop_value.new.self (borne_in_all found.number values ++ rest)) (sym c.as_slice.ensures)
          (c.drop_value.ensures (borne_in_all found.number found.attr_values ++ rest)
          (subst (IsTableOf c.args.self.now.ids) (append_assoc (borne_in found.bearer found.value) (borne_in_all found.number found.attr_values) rest) c.requires.ids.1)),
    )

pub returns-clause-ids : goal.returns-clause-ids
returns-clause-ids c = λ rest t.
    let found = c.args.found.now in
    c.drop_values.ensures rest
    (subst (λ (values : List (Option Value)). IsTableOf c.drop_value.new.self (borne_in_all found.number values ++ rest)) (sym c.as_slice.ensures)
    (c.drop_value.ensures (borne_in_all found.number found.attr_values ++ rest)
    (subst (IsTableOf c.args.self.now.ids) (append_assoc (borne_in found.bearer found.value) (borne_in_all found.number found.attr_values) rest) t)))
