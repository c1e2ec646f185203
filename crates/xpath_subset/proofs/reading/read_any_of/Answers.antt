use Rattle.std.proofs.Common.{◌∙◌, sym, ap, refl, true≢false}
use Rattle.std.specs.Option.{option_map}
use Rattle.xpath_subset.specs.declared.path.NameTest.TheVariants as tests
use Rattle.xpath_subset.specs.Grammar.{any_of}
use Rattle.xpath_subset.proofs.Tests.{any_of_only}
use Rattle.xpath_subset.proofs.reading.read_any_of.Goals as goal

pub returns-then-not-is_ncname : goal.returns-then-not-is_ncname
returns-then-not-is_ncname c = λ test reads. true≢false (sym (any_of_only c.args.scope.now c.args.prefix.now test reads).0.1 ∙ sym c.is_ncname.ensures ∙ c.if-not-is_ncname.true)

pub returns-in-Ok : goal.returns-in-Ok
returns-in-Ok c = ((any_of c.args.prefix.now, (refl, (c.utf8.prefix, sym c.is_ncname.ensures ∙ c.if-not-is_ncname.false))), λ test reads. (any_of_only c.args.scope.now c.args.prefix.now test reads).1 ∙ ap (option_map tests.Namespace) c.in-Ok.ensures)

pub returns-in-Err : goal.returns-in-Err
returns-in-Err c = ((any_of c.args.prefix.now, (refl, (c.utf8.prefix, sym c.is_ncname.ensures ∙ c.if-not-is_ncname.false))), λ test reads. (any_of_only c.args.scope.now c.args.prefix.now test reads).1 ∙ ap (option_map tests.Namespace) c.in-Err.ensures)
