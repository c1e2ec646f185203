use Rattle.std.proofs.Common.{None, Some, Result, subst}
use Rattle.std.specs.Prelude.{MatchResult}
use Rattle.std.specs.Global.{Vec}
use Rattle.xs_codes.specs.declared.fault.Fault.{Fault}
use Rattle.xs_codes.specs.Least.{IsLeast}
use Rattle.xs_components.specs.Tables.{Tables}
use Rattle.xpath_subset.specs.Faults.{IsIdentityFault}
use Rattle.xpath_subset.specs.Reads.{AreIdentities}
use Rattle.xpath_subset.specs.declared.paths.IdentityPaths.{IdentityPaths}
use Rattle.schema_compile.proofs.PhaseLaws.{broken-identity, judged-in}
use Rattle.schema_compile.proofs.judging.with_identities.Goals as goal

-- what the paths of identity constraints are read as
abbrev AreRead : Tables → Result (Vec IdentityPaths) Fault → Type 0
AreRead t read = MatchResult read (λ paths. IsLeast (IsIdentityFault t) None × AreIdentities t paths.items) (λ fault. IsLeast (IsIdentityFault t) (Some fault))

pub returns-in-Ok : goal.returns-in-Ok
returns-in-Ok c =
    let made = c.args.set.now in
    let read = subst (AreRead made.parts) c.in-Ok.is c.in_ok-identities.ensures.read in
    record { judged = judged-in made c.args.found c.requires.found c.requires.none c.args.models c.requires.models c.requires.restricted c.requires.there c.in-Ok.identities read.0 read.1 }

pub returns-in-Err : goal.returns-in-Err
returns-in-Err c =
    let made = c.args.set.now in
    let broken = subst (AreRead made.parts) c.in-Err.is c.in_ok-identities.ensures.read in
    record { judged = broken-identity made c.args.found c.requires.found c.requires.none c.args.models c.requires.models c.requires.restricted c.in-Err.fault broken }
