use Rattle.std.proofs.Common.{◌≡◌, ◌^◌, ◌<◌, ◌++◌, ◌∷◌, [], true, rules}
use Rattle.std.proofs.lemmas.List.Elements.{All-push}
use Rattle.reference_faults.specs.Limit.{is_component}
use Rattle.reference_faults.proofs.LimitLaws.{places-more}
use Rattle.reference_faults.proofs.limit.component_places.Goals as goal

pub loop-rep-preserved : goal.loop-rep-preserved
loop-rep-preserved c =
    let rep = c.rep-item.result in
    let component : is_component rep.form ≡ true = search rules in
    let more : c.push.new.self.items ≡ c.loop-rep.places.items ++ rep.at ∷ [] = search rules in
    let low : rep.at.item < 2 ^ 32 = c.counted.ensures.within in
    record {
      places = places-more c.args.reps.now c.loop-rep.rep-index rep c.loop-rep.places.items c.push.new.self.items c.loop-rep-test.true c.rep-item.is component more c.loop-rep.invariant.places;
      within = rw more (All-push (λ at. at.item < 2 ^ 32) c.loop-rep.places.items rep.at c.loop-rep.invariant.within low);
    }
