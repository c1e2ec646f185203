use Rattle.type_derivation.proofs.within.Within.spread.Goals as goal

pub returns-in-Builtin-clause-builtins : goal.returns-in-Builtin-clause-builtins
returns-in-Builtin-clause-builtins c = rw (c.in-Builtin.is, ← c.self.view_is) c.put_builtin.ensures
