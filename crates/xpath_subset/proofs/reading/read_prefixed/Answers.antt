use Rattle.std.proofs.Common.{Some, ◌∙◌, sym, ap, refl}
use Rattle.std.specs.Option.{option_map}
use Rattle.xpath_subset.specs.declared.path.NameTest.TheVariants as tests
use Rattle.xpath_subset.specs.Grammar.{name}
use Rattle.xpath_subset.proofs.Tests.{prefixed_only}
use Rattle.xpath_subset.proofs.reading.read_prefixed.Goals as goal

pub returns-in_ok-new-in-Ok : goal.returns-in_ok-new-in-Ok
returns-in_ok-new-in-Ok c = (
  (name (Some c.args.prefix.now) c.args.local.now, (refl, (c.requires.prefix, c.requires.local))),
  λ test reads.
      prefixed_only c.args.scope.now c.args.prefix.now c.args.local.now test c.requires.prefix c.requires.local reads ∙ ap (option_map (λ space. tests.Name space c.args.local.now)) c.in-Ok.ensures ∙ ap (λ local. Some (tests.Name c.in-Ok.space local)) (sym c.in_ok-new-in-Ok.ensures),
)

pub returns-in-Err : goal.returns-in-Err
returns-in-Err c = (
  (name (Some c.args.prefix.now) c.args.local.now, (refl, (c.requires.prefix, c.requires.local))),
  λ test reads.
      prefixed_only c.args.scope.now c.args.prefix.now c.args.local.now test c.requires.prefix c.requires.local reads ∙ ap (option_map (λ space. tests.Name space c.args.local.now)) c.in-Err.ensures,
)
