use Rattle.std.proofs.Common.{◌≡◌, map, take}
use Rattle.std.specs.List.{flat_map}
use Rattle.content_models.specs.declared.member.AllMember.{AllMember}
use Rattle.content_models.specs.Ways.{member_at}
use Rattle.content_models.proofs.all_content.read_members.Given as goal

abbrev pub invariant-loop-id : goal.invariant-loop-id
invariant-loop-id l = record {
  members : l.read.members.items ≡ flat_map (member_at l.parts) (take l.id-index l.fn.members);
  ids : l.read.ids.items ≡ map (λ (m : AllMember). m.term) l.read.members.items;
}
