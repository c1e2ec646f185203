use Rattle.std.proofs.Common.{◌∙◌, ap}
use Rattle.schema_set.specs.EffectiveSet.{own_target}
use Rattle.schema_set.specs.declared.documents.Available.{Available}
use Rattle.schema_set.specs.Order.{target_place}
use Rattle.schema_set.proofs.ListLaws.{map-more}
use Rattle.schema_set.proofs.sources.own_places.Goals as goal

pub loop-document-preserved : goal.loop-document-preserved
loop-document-preserved c =
    let all = c.args.available.now in
    map-more (λ (a : Available). target_place all (own_target a.shaped.shapes)) all c.loop-document.document-index c.document-item.result c.loop-document.places.items c.push.new.self.items c.target_place-place.result
    c.loop-document-test.true c.document-item.is (c.target_place-place.ensures.place ∙ ap (target_place all) c.own_target.ensures) c.in_ok-push.ensures.items c.loop-document.invariant
