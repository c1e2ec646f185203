use Rattle.std.proofs.Common.{◌<◌, ◌↔◌, All, length, drop, map}
use Rattle.xpath_subset.specs.Reaches.{expanded_name, LeadsDown}
use Rattle.xpath_subset.proofs.path.leads_down.Given as goal

abbrev pub invariant-loop-step : goal.invariant-loop-step
invariant-loop-step l = record {
  within : All (λ name. name < length l.names.names) l.rest;
  same : LeadsDown l.steps (map (expanded_name l.names) l.fn.elements) ↔ LeadsDown (drop l.step-index l.steps) (map (expanded_name l.names) l.rest);
}
