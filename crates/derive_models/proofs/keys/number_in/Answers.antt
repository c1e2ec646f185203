use Rattle.std.proofs.Common.{Some, sym, ap, ◌∙◌, subst}
use Rattle.simple_values.specs.contracts.key.KeyPartialEq.TheImpl as key_impl
use Rattle.simple_values.proofs.Keys.{key_decides}
use Rattle.xs_names.specs.Numbering.{Begins, HasNoRepeats}
use Rattle.xs_names.proofs.NumberingLaws.{Begins-with_item, HasNoRepeats-with_item}
use Rattle.derive_models.proofs.keys.number_in.Goals as goal

pub returns-clause-grows : goal.returns-clause-grows
returns-clause-grows c =
    let old = c.args.keys.now.keys in
    let grown = sym c.in_ok-index.ensures.keys in
    record {
      begins = subst (Begins old) grown (Begins-with_item key_impl.eq-value.it key_decides old c.args.key);
      once = λ h. subst HasNoRepeats grown (HasNoRepeats-with_item key_impl.eq-value.it key_decides old c.args.key h);
    }

pub returns-clause-number : goal.returns-clause-number
returns-clause-number c =
    let stored = c.in_ok-index.ensures.stored in
    stored.1 ∙ ap Some (sym ((key_decides c.args.key stored.0).0 stored.2))
