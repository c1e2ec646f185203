use Rattle.std.proofs.Common.{◌≡◌, ◌+◌, ◌*◌, ◌≤◌, ℕ}
use Rattle.std.specs.Io.KnownBytes.{Appends}
use Rattle.kept_next.specs.Next.{AreFits, lines_below, fits_below}
use Rattle.kept_next.specs.declared.symbol.Fit.{Fit}
use Rattle.kept_next.proofs.next.write_next.Given as goal

abbrev pub invariant-loop-symbol : goal.invariant-loop-symbol
invariant-loop-symbol g l = record {
  written : (fit_of : ℕ → Fit) → AreFits (g.A.Around.is_word l.around) (g.A.Around.are_around l.around) (g.A.Around.in_words l.around) (g.A.Around.count l.around) fit_of →
      Appends (g.W.Sink.taken l.initial.sink) (g.W.Sink.taken l.sink) (lines_below l.names (g.A.Around.name_of l.around) fit_of l.symbol);
  lines : (fit_of : ℕ → Fit) → AreFits (g.A.Around.is_word l.around) (g.A.Around.are_around l.around) (g.A.Around.in_words l.around) (g.A.Around.count l.around) fit_of →
      l.lines ≡ fits_below fit_of l.symbol;
  few : l.lines ≤ l.symbol;
  later : g.W.Sink.faults l.initial.sink ≤ g.W.Sink.faults l.sink;
  kept : g.W.Sink.fault_bound l.sink ≡ g.W.Sink.fault_bound l.initial.sink;
  least : l.initial.steps ≤ l.steps;
  most : l.steps ≤ l.initial.steps + l.symbol * (g.A.Around.with_most l.around + g.A.Around.after_most l.around);
}
