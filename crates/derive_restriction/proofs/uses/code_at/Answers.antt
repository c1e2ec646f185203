use Rattle.std.specs.Option.{option_copied, option_map}
use Rattle.attr_uses.specs.Uses.{use_named}
use Rattle.derive_restriction.specs.Uses.{declared, use_for}
use Rattle.derive_restriction.proofs.UseLaws.{declaration-given, name-in}
use Rattle.derive_restriction.proofs.uses.code_at.Goals as goal

pub name_code-requires-clause-own : goal.name_code-requires-clause-own
name_code-requires-clause-own c =
    let w = c.requires.tables in
    declaration-given c.args.set.now.parts.now c.args.set.now.names.now c.requires.given c.use_for-own.result (use_named c.args.set.now.parts.now w.1.uses c.args.name) (c.use_for-own.ensures.found w.0 w.1 w.3)

pub name_code-requires-clause-base : goal.name_code-requires-clause-base
name_code-requires-clause-base c =
    let w = c.requires.tables in
    declaration-given c.args.set.now.parts.now c.args.set.now.names.now c.requires.given c.use_for-base.result (use_named c.args.set.now.parts.now w.2.uses c.args.name) (c.use_for-base.ensures.found w.0 w.2 w.4)

pub returns : goal.returns
returns c =
    let t = c.args.set.now.parts.now in
    record {
      first = λ ids value also s u.
          name-in t c.args.set.now.names.now (option_copied c.wildcard-wildcard.result) also.wildcard (c.wildcard-wildcard.ensures.wildcard t ids also u)
          (option_map declared c.use_for-own.result) (use_for t value.uses c.args.name) (c.use_for-own.ensures.found ids value s)
          (option_map declared c.use_for-base.result) (use_for t also.uses c.args.name) (c.use_for-base.ensures.found ids also u)
          c.name_code.result c.name_code.ensures.first;
      same = c.name_code.ensures.same;
    }
