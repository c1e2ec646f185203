use Rattle.std.proofs.Common.{◌≡◌, ◌++◌, length}
use denote.Shadow.{shadow}
use denote.Text.{Utf8}
use Rattle.item_listing.specs.Locations.{between_tabs}
use Rattle.item_listing.proofs.locations.read_locations.Given as goal

abbrev pub invariant-tabs : goal.invariant-tabs
invariant-tabs l = record {
  is_text : shadow (Utf8 l.rest);
  so_far : l.locations ++ between_tabs l.rest ≡ between_tabs l.text;
}

abbrev pub decreases-tabs : goal.decreases-tabs
decreases-tabs l = length l.rest
