use Rattle.std.proofs.Common.{◌≡◌, ◌==◌, ◌++◌, ◌∷◌, [], ℕ, take, if◌then◌else◌}
use Rattle.std.specs.Prelude.{nat_eq}
use Rattle.std.specs.HashSet.{contains}
use Rattle.std.specs.List.{list_any}
use Rattle.redefine_originals.specs.inside.Lists.{listed}
use Rattle.redefine_originals.proofs.redefines.note_members.Given as goal

abbrev pub invariant-loop-member : goal.invariant-loop-member
invariant-loop-member l = record {
  noted : (item : ℕ) → contains nat_eq l.noted item ≡ list_any (λ other. other == item) (take l.member-index l.members);
  owners : (item : ℕ) → listed l.owners item ≡ listed l.initial.owners item ++ (if list_any (λ other. other == item) (take l.member-index l.members) then l.number ∷ [] else []);
}
