use Rattle.std.proofs.Common.{◌≡◌, ◌<◌, ◌≤◌, length, All}
use Rattle.xs_positions.proofs.Linking.{lists}
use Rattle.xs_positions.proofs.Sharing.{rows_of}
use Rattle.xs_positions.proofs.shared.share_rows.Given as goal

-- the rows so far, by their numbers
abbrev pub invariant-loop-row : goal.invariant-loop-row
invariant-loop-row l = record {
  count : length l.numbers.items ≡ length l.yielded;
  few : length l.kept.items ≤ length l.numbers.items;
  there : All (λ n. n < length l.kept.items) l.numbers.items;
  rows : rows_of (lists l.kept.items) l.numbers.items ≡ lists l.yielded;
}
