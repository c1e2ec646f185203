use Rattle.std.proofs.Common.{◌≡◌, take, take_all, bytes_eq, arith}
use Rattle.std.specs.HashMap.{get_by_text}
use Rattle.xs_names.specs.WhiteSpace.{collapsed}
use Rattle.schema_set.proofs.LocationLaws.{locations-none, locations-more}
use Rattle.schema_set.proofs.sources.note_locations.Goals as goal

pub loop-location-init : goal.loop-location-init
loop-location-init c = λ key. locations-none (λ other. bytes_eq (collapsed other) key) c.args.locations.now c.args.number (get_by_text c.args.numbers.now key)

pub loop-location-preserved : goal.loop-location-preserved
loop-location-preserved c = λ key.
    locations-more (λ other. bytes_eq (collapsed other) key) c.args.locations.now c.loop-location.location-index c.location-item.result c.args.number
    (get_by_text c.args.numbers.now key) (get_by_text c.loop-location.numbers key) (get_by_text c.note_location.new.numbers key)
    c.loop-location-test.true c.location-item.is (c.in_ok-note_location.ensures key) (c.loop-location.invariant key)

pub returns : goal.returns
returns c = let all : take c.loop-location.location-index c.args.locations.now ≡ c.args.locations.now = take_all _ _ (omega arith) in rw all at c.loop-location.invariant
