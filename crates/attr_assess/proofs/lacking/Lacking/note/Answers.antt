use Rattle.std.proofs.Common.{None, Some, not, ap, ◌∙◌}
use Rattle.std.specs.Prelude.{is_some}
use Rattle.std.proofs.lemmas.Result.{on_ok_weaker}
use Rattle.attr_assess.specs.Lacking.{is_missing}
use Rattle.attr_assess.proofs.Needs.{useless-missing, useless-added, found-some, found-none, name-there}
use Rattle.attr_assess.proofs.Notes.{not-picked, one-picked, lacking-by, not-noted, one-noted, present-missing, present-added, required-missing, required-added, optional-missing, optional-added, added-use}
use Rattle.attr_assess.proofs.lacking.Lacking.note.Goals as goal

pub returns-in_default-clause-missing : goal.returns-in_default-clause-missing
returns-in_default-clause-missing c = λ uses named.
    not-picked (is_missing c.args.schema.now.parts.now uses c.args.given.now c.args.one.now.name) c.args.one.now.name c.args.self.now.missing (useless-missing c.args.schema.now.parts.now uses c.args.given.now c.args.one.now.name (found-none c.args.schema.now.parts.now uses c.args.one.now.name c.args.one.now.at named None c.in_default.ensures.none))

pub returns-in_default-clause-added : goal.returns-in_default-clause-added
returns-in_default-clause-added c = λ uses named.
    not-noted c.args.schema.now.names.now c.args.schema.now.parts.now uses c.args.given.now c.args.one.now.name c.args.self.now.added (useless-added c.args.schema.now.parts.now uses c.args.given.now c.args.one.now.name (found-none c.args.schema.now.parts.now uses c.args.one.now.name c.args.one.now.at named None c.in_default.ensures.none))

pub returns-then-has_name-clause-missing : goal.returns-then-has_name-clause-missing
returns-then-has_name-clause-missing c = λ uses named.
    not-picked (is_missing c.args.schema.now.parts.now uses c.args.given.now c.args.one.now.name) c.args.one.now.name c.args.self.now.missing (present-missing c.args.schema.now.names.now c.args.schema.now.parts.now uses c.args.given.now c.args.one.now.name c.in-Some.found (found-some c.args.schema.now.parts.now uses c.args.one.now.name c.args.one.now.at named (Some c.in-Some.found) c.in-Some.ensures.found) (lacking-by c.args.given.now c.args.one.now.name c.in-Some.found.decl.now.name c.has_name.result (found-some c.args.schema.now.parts.now uses c.args.one.now.name c.args.one.now.at named (Some c.in-Some.found) c.in-Some.ensures.found).name c.has_name.ensures ∙ ap not c.if-has_name.true))

pub returns-then-has_name-clause-added : goal.returns-then-has_name-clause-added
returns-then-has_name-clause-added c = λ uses named.
    not-noted c.args.schema.now.names.now c.args.schema.now.parts.now uses c.args.given.now c.args.one.now.name c.args.self.now.added (present-added c.args.schema.now.names.now c.args.schema.now.parts.now uses c.args.given.now c.args.one.now.name c.in-Some.found (found-some c.args.schema.now.parts.now uses c.args.one.now.name c.args.one.now.at named (Some c.in-Some.found) c.in-Some.ensures.found) (lacking-by c.args.given.now c.args.one.now.name c.in-Some.found.decl.now.name c.has_name.result (found-some c.args.schema.now.parts.now uses c.args.one.now.name c.args.one.now.at named (Some c.in-Some.found) c.in-Some.ensures.found).name c.has_name.ensures ∙ ap not c.if-has_name.true))

pub returns-then-found-clause-missing : goal.returns-then-found-clause-missing
returns-then-found-clause-missing c = λ uses named.
    on_ok_weaker c.push.result
    (λ e. one-picked (is_missing c.args.schema.now.parts.now uses c.args.given.now c.args.one.now.name) c.args.one.now.name c.in-Some.found.decl.now.name c.args.self.now.missing c.push.new.self (required-missing c.args.schema.now.names.now c.args.schema.now.parts.now uses c.args.given.now c.args.one.now.name c.in-Some.found (found-some c.args.schema.now.parts.now uses c.args.one.now.name c.args.one.now.at named (Some c.in-Some.found) c.in-Some.ensures.found) (lacking-by c.args.given.now c.args.one.now.name c.in-Some.found.decl.now.name c.has_name.result (found-some c.args.schema.now.parts.now uses c.args.one.now.name c.args.one.now.at named (Some c.in-Some.found) c.in-Some.ensures.found).name c.has_name.ensures ∙ ap not c.if-has_name.false) c.if-found.true) (found-some c.args.schema.now.parts.now uses c.args.one.now.name c.args.one.now.at named (Some c.in-Some.found) c.in-Some.ensures.found).name e)
    c.push.ensures.ok

pub returns-then-found-clause-added : goal.returns-then-found-clause-added
returns-then-found-clause-added c = λ uses named.
    on_ok_weaker c.push.result (λ e. not-noted c.args.schema.now.names.now c.args.schema.now.parts.now uses c.args.given.now c.args.one.now.name c.args.self.now.added (required-added c.args.schema.now.names.now c.args.schema.now.parts.now uses c.args.given.now c.args.one.now.name c.in-Some.found (found-some c.args.schema.now.parts.now uses c.args.one.now.name c.args.one.now.at named (Some c.in-Some.found) c.in-Some.ensures.found) c.if-found.true)) c.push.ensures.ok

pub added-requires : goal.added-requires
added-requires c = record { named = name-there c.args.schema.now.names.now c.args.schema.now.parts.now c.in-Some.found.part.now.attribute c.in-Some.found.decl.now c.requires.named c.in-Some.ensures.found.decl }

pub returns-in-Some-added-clause-missing : goal.returns-in-Some-added-clause-missing
returns-in-Some-added-clause-missing c = λ uses named.
    on_ok_weaker c.push-in-Some-added.result (λ e. not-picked (is_missing c.args.schema.now.parts.now uses c.args.given.now c.args.one.now.name) c.args.one.now.name c.args.self.now.missing (optional-missing c.args.schema.now.names.now c.args.schema.now.parts.now uses c.args.given.now c.args.one.now.name c.in-Some.found (found-some c.args.schema.now.parts.now uses c.args.one.now.name c.args.one.now.at named (Some c.in-Some.found) c.in-Some.ensures.found) c.if-found.false)) c.push-in-Some-added.ensures.ok

pub returns-in-Some-added-clause-added : goal.returns-in-Some-added-clause-added
returns-in-Some-added-clause-added c = λ uses named.
    on_ok_weaker c.push-in-Some-added.result
    (λ e. one-noted c.args.schema.now.names.now c.args.schema.now.parts.now uses c.args.given.now c.args.one.now.name c.in-Some-added.added c.args.self.now.added c.push-in-Some-added.new.self
    (optional-added c.args.schema.now.names.now c.args.schema.now.parts.now uses c.args.given.now c.args.one.now.name c.in-Some.found (found-some c.args.schema.now.parts.now uses c.args.one.now.name c.args.one.now.at named (Some c.in-Some.found) c.in-Some.ensures.found) (lacking-by c.args.given.now c.args.one.now.name c.in-Some.found.decl.now.name c.has_name.result (found-some c.args.schema.now.parts.now uses c.args.one.now.name c.args.one.now.at named (Some c.in-Some.found) c.in-Some.ensures.found).name c.has_name.ensures ∙ ap not c.if-has_name.false) c.if-found.false ∙ ap is_some c.in-Some-added.ensures.added.constraint)
    (added-use c.args.schema.now.names.now c.args.schema.now.parts.now uses c.args.given.now c.args.one.now.name c.in-Some.found (found-some c.args.schema.now.parts.now uses c.args.one.now.name c.args.one.now.at named (Some c.in-Some.found) c.in-Some.ensures.found) c.in-Some-added.added c.in-Some-added.ensures.added)
    (c.in-Some-added.ensures.added.name ∙ (found-some c.args.schema.now.parts.now uses c.args.one.now.name c.args.one.now.at named (Some c.in-Some.found) c.in-Some.ensures.found).name) e)
    c.push-in-Some-added.ensures.ok

pub returns-in-None-clause-missing : goal.returns-in-None-clause-missing
returns-in-None-clause-missing c = λ uses named.
    not-picked (is_missing c.args.schema.now.parts.now uses c.args.given.now c.args.one.now.name) c.args.one.now.name c.args.self.now.missing (optional-missing c.args.schema.now.names.now c.args.schema.now.parts.now uses c.args.given.now c.args.one.now.name c.in-Some.found (found-some c.args.schema.now.parts.now uses c.args.one.now.name c.args.one.now.at named (Some c.in-Some.found) c.in-Some.ensures.found) c.if-found.false)

pub returns-in-None-clause-added : goal.returns-in-None-clause-added
returns-in-None-clause-added c = λ uses named.
    not-noted c.args.schema.now.names.now c.args.schema.now.parts.now uses c.args.given.now c.args.one.now.name c.args.self.now.added (optional-added c.args.schema.now.names.now c.args.schema.now.parts.now uses c.args.given.now c.args.one.now.name c.in-Some.found (found-some c.args.schema.now.parts.now uses c.args.one.now.name c.args.one.now.at named (Some c.in-Some.found) c.in-Some.ensures.found) (lacking-by c.args.given.now c.args.one.now.name c.in-Some.found.decl.now.name c.has_name.result (found-some c.args.schema.now.parts.now uses c.args.one.now.name c.args.one.now.at named (Some c.in-Some.found) c.in-Some.ensures.found).name c.has_name.ensures ∙ ap not c.if-has_name.false) c.if-found.false ∙ ap is_some c.in-None.ensures.added)
