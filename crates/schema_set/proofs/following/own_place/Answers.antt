use Rattle.std.proofs.Common.{◌<◌, length, sym, subst}
use Rattle.schema_set.proofs.ReachLaws.{place-read, place-below}
use Rattle.schema_set.proofs.following.own_place.Goals as goal

pub returns-clause-place : goal.returns-clause-place
returns-clause-place c = place-read c.args.sources.now.available.now c.args.sources.now.places.items c.args.number c.index-place.result.now c.requires.sources.places c.requires.number c.index-place.ensures

pub returns-clause-within : goal.returns-clause-within
returns-clause-within c =
    subst (λ k. k < length c.args.sources.now.available.now)
    (sym (place-read c.args.sources.now.available.now c.args.sources.now.places.items c.args.number c.index-place.result.now c.requires.sources.places c.requires.number c.index-place.ensures))
    (place-below c.args.sources.now.available.now c.args.number c.requires.number)
