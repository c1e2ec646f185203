use Rattle.std.proofs.lemmas.Bool.{ltb-true, lt-ltb}
use Rattle.identity_tables.proofs.Census.{has_missing, missing_from, has_shared, shared_from}
use Rattle.identity_tables.proofs.id_table.IdTable.codes.Goals as goal

pub returns-clause-missing : goal.returns-clause-missing
returns-clause-missing c =
    let f = c.self.inside in
    rw (← c.self.view_is) (
      λ some. has_missing f.ids.entries f.references f.missing f.shared c.self.invariant (ltb-true _ _ some),
      λ some. lt-ltb _ _ (missing_from f.ids.entries f.references f.missing f.shared c.self.invariant some),
    )

pub returns-clause-shared : goal.returns-clause-shared
returns-clause-shared c =
    let f = c.self.inside in
    rw (← c.self.view_is) (
      λ some. has_shared f.ids.entries f.references f.missing f.shared c.self.invariant (ltb-true _ _ some),
      λ some. lt-ltb _ _ (shared_from f.ids.entries f.references f.missing f.shared c.self.invariant some),
    )
