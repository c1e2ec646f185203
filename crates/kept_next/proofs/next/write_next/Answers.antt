use Rattle.std.proofs.Common.{◌<◌, ◌+◌, ℕ, ap, subst, arith, ◌∙◌}
use Rattle.xsv_io.specs.Writing.{AppendsFront}
use Rattle.std.specs.Io.KnownBytes.{Appends}
use Rattle.kept_next.specs.Next.{next_line, lines_of}
use Rattle.kept_next.proofs.LineFits.{found-fit}
use Rattle.kept_next.proofs.LineSymbols.{more, cut_short, on_err, one_at_most, fits_more}
use Rattle.kept_next.proofs.next.write_next.Goals as goal

pub returns-in_err-write_line-clause-err : goal.returns-in_err-write_line-clause-err
returns-in_err-write_line-clause-err g c =
    let names = c.args.names.now in let k = c.loop-symbol.symbol in let around = c.args.around.now in
    let a = g.W.Sink.taken c.args.sink.now in let b = g.W.Sink.taken c.loop-symbol.sink in let d = g.W.Sink.taken c.write_line.new.sink in
    let less : k < g.A.Around.count around = omega (arith, c.loop-symbol-test.true, c.symbols-symbol-end.ensures.number) in
    on_err c.from_residual.result
    (λ fit_of fits.
    let same = found-fit (g.A.Around.is_word around) (g.A.Around.are_around around) (g.A.Around.in_words around) (g.A.Around.count around) fit_of fits k less c.fit_at-fit.result c.fit_at-fit.ensures.fit in
    let front = subst (AppendsFront b d) (λ i. next_line names (c.symbol_name.ensures i) (same i)) c.in_err-write_line.ensures.written.front in
    cut_short names (g.A.Around.name_of around) fit_of a b d k (g.A.Around.count around) less (c.loop-symbol.invariant.written fit_of fits) front)

pub overflow_add-lines : goal.overflow_add-lines
overflow_add-lines g c =
    let one = one_at_most c.fit_at-fit.result in
    omega (arith, one, c.loop-symbol.invariant.few, c.lines_of-lines.ensures, c.loop-symbol-test.true, c.symbols-symbol-end.type_inv)

pub loop-symbol-preserved : goal.loop-symbol-preserved
loop-symbol-preserved g c =
    let names = c.args.names.now in let k = c.loop-symbol.symbol in let around = c.args.around.now in
    let a = g.W.Sink.taken c.args.sink.now in let b = g.W.Sink.taken c.loop-symbol.sink in let d = g.W.Sink.taken c.write_line.new.sink in
    let before = c.loop-symbol.invariant in
    let w = c.in_ok-write_line.ensures.written in
    let less : k < g.A.Around.count around = omega (arith, c.loop-symbol-test.true, c.symbols-symbol-end.ensures.number) in
    let one = one_at_most c.fit_at-fit.result in
    record {
      written = λ fit_of fits.
          let same = found-fit (g.A.Around.is_word around) (g.A.Around.are_around around) (g.A.Around.in_words around) (g.A.Around.count around) fit_of fits k less c.fit_at-fit.result c.fit_at-fit.ensures.fit in
          let line = subst (Appends b d) (λ i. next_line names (c.symbol_name.ensures i) (same i)) w.all in
          more names (g.A.Around.name_of around) fit_of a b d k (k + 1) (omega arith) (before.written fit_of fits) line;
      lines = λ fit_of fits.
          let same = found-fit (g.A.Around.is_word around) (g.A.Around.are_around around) (g.A.Around.in_words around) (g.A.Around.count around) fit_of fits k less c.fit_at-fit.result c.fit_at-fit.ensures.fit in
          ap (λ (x : ℕ). c.loop-symbol.lines + x) (c.lines_of-lines.ensures ∙ ap lines_of same)
          ∙ fits_more fit_of k (k + 1) c.loop-symbol.lines (omega arith) (before.lines fit_of fits);
      few = omega (arith, before.few, one, c.lines_of-lines.ensures);
      later = omega (arith, before.later, w.cause.later);
      kept = w.kept ∙ before.kept;
      least = omega (arith, before.least, c.fit_at-fit.ensures.least);
      most = omega (arith, before.most, c.fit_at-fit.ensures.most);
    }
