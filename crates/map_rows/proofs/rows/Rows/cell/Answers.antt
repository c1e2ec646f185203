use Rattle.std.proofs.Common.{◌≡◌, ◌≤◌, ◌∙◌, max, ℕ, List, get_or, ap, subst, sym, arith}
use Rattle.map_rows.specs.Places.{cell}
use Rattle.map_rows.specs.Rows.{RowMap}
use Rattle.map_rows.proofs.Keeping.{live_said}
use Rattle.map_rows.proofs.Lists.{values_at}
use Rattle.map_rows.proofs.Said.{read_said}
use Rattle.map_rows.proofs.rows.Rows.cell.Goals as goal

pub find-requires : goal.find-requires
find-requires c =
    let s = c.self.inside in
    let l = live_said s.width s.cap s.blocks.items s.live.marks c.args.self.now c.row.inside.number c.args.row c.requires.row.0 c.self.view_is c.row.view_is c.requires.row.1 in
    rw c.deref-2.ensures.value (c.self.invariant.placed c.row.inside.number l.0)

read_is : (c : goal.After-read) → c.read.result ≡ cell c.self.inside.blocks.items (max c.self.inside.width 2) c.row.inside.number c.args.at
read_is c = c.read.ensures ∙ read_said c.deref.result.now c.self.inside.blocks.items c.find.result (max c.self.inside.width 2) c.row.inside.number c.args.at c.deref.ensures.value c.find.ensures.block c.find.ensures.start

pub returns-clause-value : goal.returns-clause-value
returns-clause-value c = λ xs e.
    let s = c.self.inside in
    let l = live_said s.width s.cap s.blocks.items s.live.marks c.args.self.now c.row.inside.number c.args.row xs c.self.view_is c.row.view_is e in
    let f = cell s.blocks.items (max s.width 2) c.row.inside.number in
    let there = values_at f 0 s.width c.args.at (rw (← c.self.view_is) at c.requires.at) in
    read_is c ∙ ap f (omega arith) ∙ sym there ∙ ap (λ (ys : List ℕ). get_or ys c.args.at 0) (sym l.1)

pub returns-clause-small : goal.returns-clause-small
returns-clause-small c =
    let s = c.self.inside in
    let l = live_said s.width s.cap s.blocks.items s.live.marks c.args.self.now c.row.inside.number c.args.row c.requires.row.0 c.self.view_is c.row.view_is c.requires.row.1 in
    let small = c.self.invariant.small c.row.inside.number c.args.at l.0 (rw (← c.self.view_is) at c.requires.at) in
    subst (λ (v : RowMap). c.read.result ≤ v.cap) c.self.view_is (subst (λ x. x ≤ s.cap) (sym (read_is c)) small)
