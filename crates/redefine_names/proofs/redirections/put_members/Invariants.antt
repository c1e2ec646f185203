use Rattle.std.proofs.Common.{◌≡◌, ℕ, ◌==◌, None, length, take, if◌then◌else◌}
use Rattle.std.specs.Prelude.{slice_index_or}
use Rattle.std.specs.List.{list_any}
use Rattle.redefine_names.proofs.redirections.put_members.Given as goal

abbrev pub invariant-loop-member : goal.invariant-loop-member
invariant-loop-member l = record {
  many : length l.table.items ≡ length l.initial.table.items;
  put : (place : ℕ) → slice_index_or l.table.items place None ≡ (if list_any (λ member. member == place) (take l.member-index l.members) then l.version else slice_index_or l.initial.table.items place None);
}
