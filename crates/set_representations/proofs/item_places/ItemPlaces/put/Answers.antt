use Rattle.set_representations.proofs.item_places.ItemPlaces.put.Goals as goal

pub returns : goal.returns
returns c = λ other. c.in_ok-insert.ensures.updates.0 other
