use Rattle.std.proofs.Common.{◌≡◌, ℕ, map, take}
use Rattle.redefine_originals.specs.inside.Lists.{listed}
use Rattle.redefine_originals.specs.inside.Redefines.{redefine_entry, owner_numbers}
use Rattle.redefine_originals.proofs.redefines.owners_of.Given as goal

abbrev pub invariant-loop-redefine : goal.invariant-loop-redefine
invariant-loop-redefine l = record {
  counted : l.number ≡ l.redefine-index;
  owners : (item : ℕ) → listed l.owners item ≡ owner_numbers item 0 (map redefine_entry (take l.redefine-index l.redefines));
}
