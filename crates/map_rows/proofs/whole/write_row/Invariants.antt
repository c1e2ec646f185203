use Rattle.std.proofs.Common.{◌≡◌, ◌+◌, ◌<◌, ℕ}
use Rattle.map_rows.specs.Filling.{number_for}
use Rattle.map_rows.specs.Places.{ChangesOnly, number}
use Rattle.map_rows.proofs.whole.write_row.Given as goal

abbrev pub invariant-loop-at : goal.invariant-loop-at
invariant-loop-at l =
    ((i : ℕ) → i < l.at → number l.blocks l.out.block (l.out.start + i) ≡ number_for l.fn.blocks l.filling i) × ChangesOnly l.fn.blocks l.blocks l.out.block l.out.start l.at
