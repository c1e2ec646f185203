use Rattle.std.proofs.Common.{ℕ, List, ◌++◌, ◌∷◌, [], length, map, refl, subst}
use Rattle.std.specs.Prelude.{codes}
use Rattle.std.specs.Fmt.{decimal}
use Rattle.xs_names.specs.Names.{NameTable}
use Rattle.xsv_io.specs.Writing.{AppendsFront}
use Rattle.xsv_io.proofs.Failing.{failed}
use Rattle.xsv_io.proofs.Fronts.{front_before}
use Rattle.xsv_io.proofs.Sequence.{written_then}
use Rattle.content_automaton.specs.Symbols.{symbol_of}
use Rattle.content_models.specs.Built.{symbols_of}
use Rattle.kept_next.specs.Next.{IsNamed, fits_below, lines_below}
use Rattle.kept_next.specs.Answers.{answers_by, reply}
use Rattle.kept_next.specs.Place.{fits_at, name_at}
use Rattle.kept_next.proofs.Written.{reply-is}
use Rattle.kept_next.proofs.writing.write_answers.Goals as goal

pub write_next-requires : goal.write_next-requires
write_next-requires g c = record {
  named = λ n l.
      let q = c.requires in
      subst (λ (t : NameTable). IsNamed t (name_at c.args.place.now n)) q.4 (c.places_are_named.ensures c.args.place.now q.0 q.1 q.2 q.3 n l);
}

pub returns-in_err-lines-clause-written : goal.returns-in_err-lines-clause-written
returns-in_err-lines-clause-written g c = λ s p given is same.
    let v = c.args.place.now in
    let names = c.args.names.now in
    let symbols : List ℕ = map (symbol_of s.names (symbols_of v.automaton)) given in
    let fits = c.places_have_fits.ensures v s p given is in
    let e = c.in_err-lines.ensures in
    failed g.W.Sink.taken g.W.Sink.faults g.W.Sink.fault_bound c.args.sink.now c.write_next.new.sink c.from_residual.result (reply names (answers_by v s given)) c.from_residual.ensures.0
    (subst (AppendsFront (g.W.Sink.taken c.args.sink.now) (g.W.Sink.taken c.write_next.new.sink)) (reply-is names v symbols (fits_below (fits_at v symbols) (length v.symbols)) refl)
    (front_before (g.W.Sink.taken c.args.sink.now) (g.W.Sink.taken c.write_next.new.sink) (lines_below names (name_at v) (fits_at v symbols) (length v.symbols)) _ (e.err (fits_at v symbols) fits)))
    e.cause.later e.cause.failed e.kept

pub returns-clause-written : goal.returns-clause-written
returns-clause-written g c = λ s p given is same.
    let v = c.args.place.now in
    let names = c.args.names.now in
    let symbols : List ℕ = map (symbol_of s.names (symbols_of v.automaton)) given in
    let fits = c.places_have_fits.ensures v s p given is in
    let e = c.in_ok-lines.ensures in
    written_then g.W.Sink.taken g.W.Sink.faults g.W.Sink.fault_bound c.args.sink.now c.write_next.new.sink c.write_parts.new.sink c.write_parts.result
    (lines_below names (name_at v) (fits_at v symbols) (length v.symbols)) (codes "names " ++ decimal c.in_ok-lines.lines ++ 10 ∷ []) (reply names (answers_by v s given))
    (reply-is names v symbols c.in_ok-lines.lines (e.count (fits_at v symbols) fits)) (e.ok (fits_at v symbols) fits) e.cause.later e.kept c.write_parts.ensures.written
