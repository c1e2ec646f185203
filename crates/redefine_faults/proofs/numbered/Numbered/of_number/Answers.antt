use Rattle.std.proofs.Common.{leb, ltb, take, sym, ap, ◌∙◌, subst, rules}
use Rattle.std.specs.List.Sorted.{IsNonDecreasingBy}
use Rattle.std.proofs.lemmas.List.Sorted.{IsPartitionPoint-from_clause, IsPartitionedBy-leb, IsPartitionedBy-ltb, IsNonDecreasingBy-take}
use Rattle.redefine_faults.specs.inside.Numbers.{of_number}
use Rattle.redefine_faults.proofs.NumberLaws.{number-slice}
use Rattle.redefine_faults.proofs.numbered.Numbered.of_number.Goals as goal

pub returns : goal.returns
returns c =
    let sorted = subst (IsNonDecreasingBy (λ r. r.now.item)) (sym c.deref.ensures.value) c.self.invariant in
    let front = IsPartitionPoint-from_clause (λ r. leb r.now.item c.args.item) c.deref.result.now c.partition_point-end.result c.partition_point-end.ensures.partitioned (IsPartitionedBy-leb (λ r. r.now.item) c.deref.result.now c.args.item sorted) (λ a r q k. search rules) in
    let again = IsNonDecreasingBy-take (λ r. r.now.item) c.partition_point-end.result c.deref-2.result.now (subst (IsNonDecreasingBy (λ r. r.now.item)) (sym c.deref-2.ensures.value) c.self.invariant) in
    let back = IsPartitionPoint-from_clause (λ r. ltb r.now.item c.args.item) (take c.partition_point-end.result c.deref-2.result.now) c.partition_point-start.result c.partition_point-start.ensures.partitioned
    (IsPartitionedBy-ltb (λ r. r.now.item) (take c.partition_point-end.result c.deref-2.result.now) c.args.item again) (λ a r q k. search rules) in
    number-slice (λ r. r.now) c.args.item c.self.inside.shapes.items c.deref-2.result.now c.deref.result.now c.partition_point-end.result c.partition_point-start.result c.deref.ensures.value c.deref-2.ensures.value front back
    ∙ ap (λ l. of_number l c.args.item) c.self.view_is
