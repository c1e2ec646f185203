use Rattle.forest_keys.proofs.Stepping.{marked_above}
use Rattle.forest_keys.proofs.joining.add_codes.Goals as goal

pub returns : goal.returns
returns c = marked_above c.args.codes.now c.args.below c.validity_above-own.result c.args.own.now c.mark.new.«record» c.validity_above-own.ensures c.in_ok-mark.ensures
