use Rattle.std.proofs.Common.{◌≡◌, ℕ, List, Option, sym, ap, ◌∙◌, subst, arith, map}
use Rattle.std.proofs.lemmas.List.Elements.{All-head, All-tail}
use Rattle.xsv_io.proofs.Failing.{failed, rose-later}
use Rattle.xsv_io.proofs.Sequence.{IsBegun, then_more, then_front, to_the_end}
use Rattle.assess_records.specs.declared.record.AttrRecord.{AttrRecord}
use Rattle.compiled_schema.specs.Usable.{set_of}
use Rattle.report_text.specs.Named.{IsNamed, AreNamed}
use Rattle.session_model.specs.Reports.{attr_line_of}
use Rattle.session_model.specs.inside.Telling.{told_text, text_of, left_behind, left_all}
use Rattle.session_model.proofs.Empty.{no_length}
use Rattle.session_model.proofs.Telling.{line-then, no-lines}
use Rattle.session_model.proofs.report.tell_attrs.Goals as goal

pub tell_attr-requires : goal.tell_attr-requires
tell_attr-requires g c = record {
  named = All-head (λ (a : AttrRecord). IsNamed c.args.set.now.names c.args.set.now.parts a.name a.of) c.in-Some.record.now c.in-Some.more.now
      (subst (AreNamed c.args.set.now.names c.args.set.now.parts) c.in-Some.ensures.cases.0 c.attrs.invariant.named);
}

pub returns-in_err-tell_attr-clause-written : goal.returns-in_err-tell_attr-clause-written
returns-in_err-tell_attr-clause-written g c =
    let w = c.in_err-tell_attr.ensures.written in
    let before = c.attrs.invariant in
    let line = attr_line_of (set_of c.args.set.now) c.args.node in
    let whole = text_of c.args.left.now (map line c.args.attrs.now) in
    let begun = subst (λ (t : List ℕ). IsBegun (g.W.Sink.taken c.args.sink.now) (g.W.Sink.taken c.attrs.sink) t whole)
    (ap (λ (l : List AttrRecord). text_of c.attrs.left (map line l)) c.in-Some.ensures.cases.0 ∙ line-then c.attrs.left (line c.in-Some.record.now) (map line c.in-Some.more.now)) before.begun in
    failed g.W.Sink.taken g.W.Sink.faults g.W.Sink.fault_bound c.args.sink.now c.tell_attr.new.sink c.from_residual.result _ c.from_residual.ensures.0
    (then_front _ _ _ (told_text c.attrs.left (line c.in-Some.record.now)) (text_of (left_behind c.attrs.left c.in-Some.record.now.codes) (map line c.in-Some.more.now)) _ begun w.front)
    (omega (arith, before.later, w.cause.later)) (rose-later before.later w.cause.failed) (w.kept ∙ before.kept)

pub attrs-preserved : goal.attrs-preserved
attrs-preserved g c =
    let w = c.in_ok-tell_attr.ensures.written in
    let before = c.attrs.invariant in
    let line = attr_line_of (set_of c.args.set.now) c.args.node in
    let whole = text_of c.args.left.now (map line c.args.attrs.now) in
    let more = map line c.in-Some.more.now in
    let left : left_behind c.attrs.left c.in-Some.record.now.codes ≡ c.left_behind.result =
    sym (c.left_behind.ensures ∙ ap (λ (attr : AttrRecord). left_behind c.attrs.left attr.codes) c.get.ensures) in
    let begun = subst (λ (t : List ℕ). IsBegun (g.W.Sink.taken c.args.sink.now) (g.W.Sink.taken c.attrs.sink) t whole)
    (ap (λ (l : List AttrRecord). text_of c.attrs.left (map line l)) c.in-Some.ensures.cases.0 ∙ line-then c.attrs.left (line c.in-Some.record.now) more) before.begun in
    record {
      named = All-tail (λ (a : AttrRecord). IsNamed c.args.set.now.names c.args.set.now.parts a.name a.of) c.in-Some.record.now c.in-Some.more.now
          (subst (AreNamed c.args.set.now.names c.args.set.now.parts) c.in-Some.ensures.cases.0 before.named);
      begun = subst (λ (n : Option ℕ). IsBegun (g.W.Sink.taken c.args.sink.now) (g.W.Sink.taken c.tell_attr.new.sink) (text_of n more) whole) left
          (then_more _ _ _ (told_text c.attrs.left (line c.in-Some.record.now)) (text_of (left_behind c.attrs.left c.in-Some.record.now.codes) more) _ begun w.all);
      left_is =
          let behind : left_all c.left_behind.result more ≡ left_all (left_behind c.attrs.left c.in-Some.record.now.codes) more = ap (λ (n : Option ℕ). left_all n more) (sym left) in
          let here : left_all (left_behind c.attrs.left c.in-Some.record.now.codes) more ≡ left_all c.attrs.left (map line c.attrs.rest.now) =
          ap (λ (l : List AttrRecord). left_all c.attrs.left (map line l)) (sym c.in-Some.ensures.cases.0) in
          behind ∙ (here ∙ before.left_is);
      later = omega (arith, before.later, w.cause.later);
      kept = w.kept ∙ before.kept;
    }

pub returns : goal.returns
returns g c =
    let before = c.attrs.invariant in
    let line = attr_line_of (set_of c.args.set.now) c.args.node in
    let whole = text_of c.args.left.now (map line c.args.attrs.now) in
    let none = no_length _ c.in_default.ensures.cases in
    let begun = subst (λ (t : List ℕ). IsBegun (g.W.Sink.taken c.args.sink.now) (g.W.Sink.taken c.attrs.sink) t whole)
    (ap (λ (l : List AttrRecord). text_of c.attrs.left (map line l)) none ∙ no-lines c.attrs.left) before.begun in
    record {
      written = record {
        all = to_the_end (g.W.Sink.taken c.args.sink.now) (g.W.Sink.taken c.attrs.sink) whole begun;
        front = tt;
        cause = record { later = before.later; failed = tt };
        kept = before.kept;
      };
      left = ap (λ (l : List AttrRecord). left_all c.attrs.left (map line l)) (sym none) ∙ before.left_is;
    }
