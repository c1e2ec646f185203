use Rattle.std.proofs.Common.{◌≡◌, None, Some, ◌∙◌, sym, ap, refl, subst}
use Rattle.std.specs.Prelude.{codes}
use Rattle.std.specs.Str.{chars}
use Rattle.xs_names.specs.Characters.{is_ncname}
use Rattle.xs_names.specs.QName.{IsQName, joined, prefix_of}
use Rattle.xpath_subset.specs.declared.path.NameTest.TheVariants as tests
use Rattle.xpath_subset.specs.Grammar.{star, name, IsName}
use Rattle.xpath_subset.proofs.Tests.{star_only, local_only, no_test, bytes_same, bytes_other}
use Rattle.xpath_subset.proofs.reading.read_test.Goals as goal

pub returns-then-eq : goal.returns-then-eq
returns-then-eq c = let same = bytes_same c.args.text.now (codes "*") (sym c.if-eq.ensures) in ((star, (same, tt)), λ test reads. star_only c.args.scope.now test (sym same ∙ reads.0, reads.1))

pub returns-in-Err : goal.returns-in-Err
returns-in-Err c = λ test reads. no_test test c.args.text.now c.in-Err.ensures.parts (bytes_other c.args.text.now (codes "*") c.if-eq.ensures) c.in_default.ensures.cases reads

pub returns-in_ok-new-in-Ok-None-default : goal.returns-in_ok-new-in-Ok-None-default
returns-in_ok-new-in-Ok-None-default c =
    let none = c.in-Ok-None-default.field-0-0-is in
    let text : c.args.text.now ≡ c.in-Ok-None-default.local.now = c.in-Ok-None-default.ensures.text ∙ ap (λ prefix. joined (prefix_of (λ p. p) prefix) c.in-Ok-None-default.local.now) none in
    let parts = subst (λ prefix. IsQName (chars c.args.text.now) (prefix_of chars prefix) (chars c.in-Ok-None-default.local.now)) none c.in-Ok-None-default.ensures.parts in
    let named : IsName c.args.text.now = (c.utf8.text, ap is_ncname parts.0 ∙ parts.1) in
    ((name None c.args.text.now, (refl, named)), λ test reads. local_only c.args.scope.now c.args.text.now test named reads ∙ ap (λ local. Some (tests.Name 0 local)) (text ∙ sym c.in_ok-new-in-Ok-None-default.ensures))
