use Rattle.std.proofs.Common.{None, Some}
use Rattle.tag_names.proofs.TableLaws.{restored}
use Rattle.tag_names.proofs.prefixes.restore.Goals as goal

pub returns-in-None : goal.returns-in-None
returns-in-None c = restored c.args.latest.now c.remove.new.self c.args.prefix.now None c.args.hidden c.in-None.is c.remove.ensures.updates

pub returns-in-Some-get_mut : goal.returns-in-Some-get_mut
returns-in-Some-get_mut c =
    restored c.args.latest.now (c.get_mut.follows.lender c.in-Some.place) c.args.prefix.now (Some c.in-Some.place) c.args.hidden c.in-Some.is ((c.get_mut.follows.holds c.in-Some.place).3 c.requires)
