use Rattle.std.proofs.Common.{◌+◌, ◌<◌, ◌≤◌, ◌∙◌, max, ℕ, List, Some, subst, sym, arith}
use Rattle.std.proofs.lemmas.List.{with_items_is}
use Rattle.std.specs.Vec.{with_items}
use Rattle.map_rows.specs.Filling.{CanPair, pair_number, pair_row}
use Rattle.map_rows.specs.Places.{number, cell}
use Rattle.map_rows.specs.Rows.{RowMap, Updates}
use Rattle.map_rows.specs.Kept.{row_of, row_map}
use Rattle.map_rows.proofs.Apart.{rows_apart}
use Rattle.map_rows.proofs.Fillings.{lies_within}
use Rattle.map_rows.proofs.Keeping.{live_said}
use Rattle.map_rows.proofs.Made.{pair_alike, pair_small, pair_is, pair_within}
use Rattle.map_rows.proofs.Said.{Said, whole_said, read_said}
use Rattle.map_rows.proofs.rows.Rows.combine.Goals as goal

pub find-place-requires : goal.find-place-requires
find-place-requires c =
    let s = c.self.inside in
    let out = live_said s.width s.cap s.blocks.items s.live.marks c.args.self.now c.out.inside.number c.args.out c.requires.out.0 c.self.view_is c.out.view_is c.requires.out.1 in
    rw c.deref.ensures.value (c.self.invariant.placed c.out.inside.number out.0)

pub find-requires : goal.find-requires
find-requires c =
    let s = c.self.inside in
    let first = live_said s.width s.cap s.blocks.items s.live.marks c.args.self.now c.first.inside.number c.args.first c.requires.first.0 c.self.view_is c.first.view_is c.requires.first.1 in
    rw c.deref-2.ensures.value (c.self.invariant.placed c.first.inside.number first.0)

pub find-requires-2 : goal.find-requires-2
find-requires-2 c =
    let s = c.self.inside in
    let second = live_said s.width s.cap s.blocks.items s.live.marks c.args.self.now c.second.inside.number c.args.second c.requires.second.0 c.self.view_is c.second.view_is c.requires.second.1 in
    rw c.deref-3.ensures.value (c.self.invariant.placed c.second.inside.number second.0)

pub write_row-requires-clause-filling : goal.write_row-requires-clause-filling
write_row-requires-clause-filling c =
    let s = c.self.inside in
    let width = s.width in
    let stride = max width 2 in
    let first = live_said width s.cap s.blocks.items s.live.marks c.args.self.now c.first.inside.number c.args.first c.requires.first.0 c.self.view_is c.first.view_is c.requires.first.1 in
    let can = subst (λ (v : RowMap). CanPair v c.args.operation) (sym c.self.view_is) c.requires.operation in
    let read = λ (i : ℕ). read_said c.deref_mut.result.now s.blocks.items c.find.result stride c.first.inside.number i c.deref_mut.ensures.value c.find.ensures.block c.find.ensures.start in
    record {
      first = lies_within c.deref-2.result.now s.blocks.items c.deref_mut.result.now c.find.result stride width c.deref-2.ensures.value c.deref_mut.ensures.value (omega arith) c.find.ensures.lies;
      second = lies_within c.deref-3.result.now s.blocks.items c.deref_mut.result.now c.find-2.result stride width c.deref-3.ensures.value c.deref_mut.ensures.value (omega arith) c.find-2.ensures.lies;
      within = pair_within (row_map width s.cap s.blocks.items s.live.marks) (cell s.blocks.items stride c.first.inside.number) (λ i l. c.self.invariant.small c.first.inside.number i first.0 l) c.deref_mut.result.now c.find.result c.args.operation can read;
    }

pub write_row-requires-clause-apart : goal.write_row-requires-clause-apart
write_row-requires-clause-apart c =
    let width = c.self.inside.width in
    let stride = max width 2 in (
      rows_apart c.find.result c.find-place.result stride c.out.inside.number c.first.inside.number width c.find.ensures.block c.find.ensures.start c.find-place.ensures.block c.find-place.ensures.start
          (λ e. c.requires.not_first (sym c.out.view_is ∙ e ∙ c.first.view_is)) (omega arith),
      rows_apart c.find-2.result c.find-place.result stride c.out.inside.number c.second.inside.number width c.find-2.ensures.block c.find-2.ensures.start c.find-place.ensures.block c.find-place.ensures.start
          (λ e. c.requires.not_second (sym c.out.view_is ∙ e ∙ c.second.view_is)) (omega arith),
    )

said : (c : goal.After-self-1) → Said c.self.inside.width c.self.inside.cap (with_items c.self.inside.blocks c.write_row.new.blocks).items c.self.inside.live.marks c.self.inside.spare c.args.self.now c.args.out
    (pair_row c.args.operation (row_of c.self.inside.blocks.items c.self.inside.width c.first.inside.number) (row_of c.self.inside.blocks.items c.self.inside.width c.second.inside.number))
said c =
    let s = c.self.inside in
    let stride = max s.width 2 in
    let a = c.deref_mut.result.now in
    let bs = s.blocks.items in
    let v = row_map s.width s.cap bs s.live.marks in
    let first = live_said s.width s.cap bs s.live.marks c.args.self.now c.first.inside.number c.args.first c.requires.first.0 c.self.view_is c.first.view_is c.requires.first.1 in
    let second = live_said s.width s.cap bs s.live.marks c.args.self.now c.second.inside.number c.args.second c.requires.second.0 c.self.view_is c.second.view_is c.requires.second.1 in
    let out = live_said s.width s.cap bs s.live.marks c.args.self.now c.out.inside.number c.args.out c.requires.out.0 c.self.view_is c.out.view_is c.requires.out.1 in
    let f = cell bs stride c.first.inside.number in
    let h = cell bs stride c.second.inside.number in
    let can = subst (λ (y : RowMap). CanPair y c.args.operation) (sym c.self.view_is) c.requires.operation in
    let read_first = λ (i : ℕ). read_said a bs c.find.result stride c.first.inside.number i c.deref_mut.ensures.value c.find.ensures.block c.find.ensures.start in
    let read_second = λ (i : ℕ). read_said a bs c.find-2.result stride c.second.inside.number i c.deref_mut.ensures.value c.find-2.ensures.block c.find-2.ensures.start in
    let small : (i : ℕ) → i < s.width → f i ≤ s.cap = λ i l. c.self.invariant.small c.first.inside.number i first.0 l in
    let also : (i : ℕ) → i < s.width → h i ≤ s.cap = λ i l. c.self.invariant.small c.second.inside.number i second.0 l in
    whole_said s.width s.cap bs a c.write_row.new.blocks (with_items s.blocks c.write_row.new.blocks).items s.live.marks s.spare c.args.self.now c.find-place.result c.out.inside.number c.args.out (pair_number c.args.operation f h)
    (pair_row c.args.operation (row_of bs s.width c.first.inside.number) (row_of bs s.width c.second.inside.number))
    c.self.invariant out.0 c.deref_mut.ensures.value c.find-place.ensures.block c.find-place.ensures.start c.write_row.ensures.frame
    (λ i l. c.write_row.ensures.value i l ∙ pair_alike c.args.operation (λ k. number a c.find.result.block (c.find.result.start + k)) f (λ k. number a c.find-2.result.block (c.find-2.result.start + k)) h read_first read_second i)
    (pair_small v f small c.args.operation h can also) (pair_is v f small c.args.operation h can) c.self.view_is c.out.view_is
    (with_items_is s.blocks c.write_row.new.blocks (c.write_row.ensures.frame.blocks ∙ c.deref_mut.ensures.len))

pub invariant_of-self : goal.invariant_of-self
invariant_of-self c = (said c).kept

pub returns-clause-row : goal.returns-clause-row
returns-clause-row c = λ xs ys ex ey.
    let s = c.self.inside in
    let first = live_said s.width s.cap s.blocks.items s.live.marks c.args.self.now c.first.inside.number c.args.first xs c.self.view_is c.first.view_is ex in
    let second = live_said s.width s.cap s.blocks.items s.live.marks c.args.self.now c.second.inside.number c.args.second ys c.self.view_is c.second.view_is ey in
    let new = row_map s.width s.cap (with_items s.blocks c.write_row.new.blocks).items s.live.marks in
    subst (λ (zs : List ℕ). Updates c.args.self.now new c.args.out (Some (pair_row c.args.operation zs ys))) (sym first.1)
    (subst (λ (zs : List ℕ). Updates c.args.self.now new c.args.out (Some (pair_row c.args.operation (row_of s.blocks.items s.width c.first.inside.number) zs))) (sym second.1) (said c).row_is)

pub returns-clause-rows : goal.returns-clause-rows
returns-clause-rows c = (said c).rows
