use Rattle.std.proofs.Common.{ap, ◌∙◌}
use Rattle.std.proofs.lemmas.Bool.{true≢false}
use Rattle.std.specs.Prelude.{bytes_eq}
use Rattle.doc_edits.proofs.Naming.{space_shown}
use Rattle.doc_edits.proofs.names.is_space.Goals as goal

pub returns-in-Some-space : goal.returns-in-Some-space
returns-in-Some-space c =
    let shown = space_shown c.args.names.now c.args.number c.in-Some.name.now c.in-Some.ensures.text (λ e. absurd (true≢false (c.in-Some.ensures.absent.1 e))) in
    rw (shown, c.in-Some-space.is) (c.eq.ensures ∙ ap (bytes_eq c.in-Some.name.now) c.as_str.ensures)
