use Rattle.std.proofs.Common.{ap}
use Rattle.std.specs.Option.{option_copied, option_map}
use Rattle.redefine_originals.specs.inside.Entries.{version_entry}
use Rattle.redefine_faults.proofs.ChainLaws.{next-found}
use Rattle.redefine_faults.proofs.chains.next_of.Goals as goal

pub returns : goal.returns
returns c =
    next-found c.args.originals.now.sources.available.now (version_entry c.args.version) c.in-Some.location.now c.in-Some-declared_as.declared.kind c.in-Some-declared_as.declared.name.now (option_map version_entry c.in_ok-found.found)
    (ap option_copied c.in-Some.is) c.in-Some-declared_as.ensures (rw (c.as_str.ensures, c.as_str-2.ensures) at c.in_ok-found.ensures.original)
