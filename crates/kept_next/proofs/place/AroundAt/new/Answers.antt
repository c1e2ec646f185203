use Rattle.std.proofs.Common.{subst}
use Rattle.xs_names.specs.Names.{NameTable}
use Rattle.content_automaton.specs.Symbols.{AreNamesOf}
use Rattle.content_models.specs.Built.{symbols_of}
use Rattle.kept_next.specs.Spaces.{AreSpacesOf}
use Rattle.kept_next.proofs.Spaces.{names-known, spaces-known}
use Rattle.kept_next.proofs.place.AroundAt.new.Goals as goal

pub ordered-requires-clause-names : goal.ordered-requires-clause-names
ordered-requires-clause-names c =
    let q = c.requires in
    let a = c.args.children.automaton.now in
    subst (λ (t : NameTable). AreNamesOf t (symbols_of a).names) q.4 (names-known q.0 q.1 a q.3.fits q.3.spaced)

pub ordered-requires-clause-spaces : goal.ordered-requires-clause-spaces
ordered-requires-clause-spaces c =
    let q = c.requires in
    let a = c.args.children.automaton.now in
    subst (λ (t : NameTable). AreSpacesOf t (symbols_of a).spaces) q.4 (spaces-known q.0 q.1 a q.3.fits q.3.spaced)
