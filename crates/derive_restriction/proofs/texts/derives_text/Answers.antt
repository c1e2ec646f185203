use Rattle.std.proofs.Common.{subst}
use Rattle.derive_restriction.specs.Contents.{IsTextType}
use Rattle.derive_restriction.proofs.TextLaws.{derived-none, derived-in, found-there}
use Rattle.derive_restriction.proofs.texts.derives_text.Goals as goal

pub returns-in-None : goal.returns-in-None
returns-in-None c = record {
  derived = derived-none c.args.parts.now c.args.own c.args.base (subst (IsTextType c.args.parts.now c.args.base) c.in-None.is c.text_type.ensures.text);
}

pub returns-in-Some : goal.returns-in-Some
returns-in-Some c = record {
  derived = derived-in c.args.parts.now c.args.own c.args.base c.in-Some.text (subst (IsTextType c.args.parts.now c.args.base) c.in-Some.is c.text_type.ensures.text) c.derives_from.result c.derives_from.ensures.derived;
}

pub derives_from-requires-clause-text : goal.derives_from-requires-clause-text
derives_from-requires-clause-text c =
    found-there c.args.parts.now c.requires.ranked c.requires.contents c.args.base c.requires.base c.in-Some.text (subst (IsTextType c.args.parts.now c.args.base) c.in-Some.is c.text_type.ensures.text)
