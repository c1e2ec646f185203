use Rattle.std.proofs.Common.{sym}
use Rattle.std.proofs.lemmas.Option.{slice_get_past, slice_get_read}
use Rattle.std.proofs.Common.{length, refl}
use Rattle.redefine_faults.proofs.OwnLaws.{several-read, several-none}
use Rattle.redefine_faults.proofs.own.are_several.Goals as goal

pub returns-in-None : goal.returns-in-None
returns-in-None c = several-none (λ r. r.now) c.args.references.now (sym (slice_get_past c.args.references.now 0 (c.in-None.ensures.lookup.3)))

pub returns-in-Some : goal.returns-in-Some
returns-in-Some c =
    several-read (λ r. r.now) c.args.references.now c.in-Some.first.now c.has_other.result
    (sym (slice_get_read c.args.references.now (length c.args.references.now) 0 c.in-Some.first.now refl c.in-Some.ensures.lookup.3.0 c.in-Some.ensures.lookup.1)) c.has_other.ensures
