use Rattle.std.proofs.Common.{◌++◌, ◌∙◌, ap}
use Rattle.xs_codes.specs.declared.code.Code.TheVariants.{CvcId1, CvcId2}
use Rattle.identity_tables.specs.Ids.{code_if}
use Rattle.identity_tables.proofs.Codes.{codes-are}
use Rattle.identity_tables.proofs.ids.KeptIds.codes.Goals as goal

pub returns : goal.returns
returns c = λ all t.
    c.in_ok-push_if-2.ensures ∙ (ap (λ front. front ++ code_if c.codes-unbound.result.1 CvcId2) (c.in_ok-push_if.ensures ∙ ap (λ front. front ++ code_if c.codes-unbound.result.0 CvcId1) c.new-codes.ensures)
    ∙ codes-are c.args.self.now all t c.codes-unbound.result.0 c.codes-unbound.result.1 (rw (← c.self.view_is) c.codes-unbound.ensures.missing) (rw (← c.self.view_is) c.codes-unbound.ensures.shared))
