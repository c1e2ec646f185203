use Rattle.std.proofs.Common.{sym, subst}
use Rattle.kept_next.specs.Held.{place_of}
use Rattle.kept_next.specs.Place.{ListPlace, LeadWith}
use Rattle.kept_next.proofs.Places.{with-some}
use Rattle.kept_next.proofs.asked.AroundAtAround.after.Goals as goal

pub from-requires : goal.from-requires
from-requires g c =
    let q = c.requires in
    with-some (place_of c.self.inside) c.self.invariant q.0 c.args.state (subst (λ (v : ListPlace). LeadWith v q.0 c.args.state) (sym c.self.view_is) q.2)
