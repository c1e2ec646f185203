use Rattle.std.proofs.Common.{◌<◌, ℕ, List, Option, refl, sym, ◌∙◌, subst, arith}
use Rattle.xsv_io.proofs.Failing.{failed, rose-later}
use Rattle.xsv_io.proofs.Sequence.{IsBegun, then_more, then_front, to_the_end}
use Rattle.session_model.specs.Reports.{entry_lines, record_lines, report}
use Rattle.session_model.specs.inside.Telling.{text_of, left_all}
use Rattle.session_model.proofs.Telling.{no-lines}
use Rattle.session_model.proofs.Walking.{count_from, walks-first, walks-on, walks-end, entry-next, walks-next, walks-smaller}
use Rattle.session_model.proofs.report.write_report.Goals as goal

pub elements-init : goal.elements-init
elements-init g c =
    let s = g.S.Session.state c.args.session.now in
    let first = c.the_root_is_found_first.ensures.first s.set s.document s.found (c.compiled-set.ensures.found c.requires) in
    record { walks = walks-first s c.args.most (g.W.Sink.taken c.args.sink.now) first.0 first.1 first.2 first.3; later = omega arith; kept = refl }

pub returns-in_err-tell_entry : goal.returns-in_err-tell_entry
returns-in_err-tell_entry g c =
    let s = g.S.Session.state c.args.session.now in
    let old = g.W.Sink.taken c.args.sink.now in
    let before = c.elements.invariant in
    let once = c.each_element_is_found_once.ensures.once s.set s.document s.found (c.compiled-set.ensures.found c.requires) in
    let n = walks-on s c.args.most old (g.W.Sink.taken c.elements.sink) c.elements.left c.elements.next c.in-Some.node c.in-Some.is before.walks in
    let w = c.in_err-tell_entry.ensures.written n.own (entry-next s c.args.most old (g.W.Sink.taken c.elements.sink) c.elements.left once c.in-Some.node n) in
    record {
      written = failed g.W.Sink.taken g.W.Sink.faults g.W.Sink.fault_bound c.args.sink.now c.tell_entry.new.sink c.from_residual.result _ c.from_residual.ensures.0
          (then_front _ _ _ (text_of c.elements.left (entry_lines s.set n.own)) (text_of (left_all c.elements.left (entry_lines s.set n.own)) (record_lines s.set n.later)) _ n.begun w.front)
          (omega (arith, before.later, w.cause.later)) (rose-later before.later w.cause.failed) (w.kept ∙ before.kept);
    }

pub elements-preserved : goal.elements-preserved
elements-preserved g c =
    let s = g.S.Session.state c.args.session.now in
    let old = g.W.Sink.taken c.args.sink.now in
    let now = g.W.Sink.taken c.elements.sink in
    let before = c.elements.invariant in
    let once = c.each_element_is_found_once.ensures.once s.set s.document s.found (c.compiled-set.ensures.found c.requires) in
    let n = walks-on s c.args.most old now c.elements.left c.elements.next c.in-Some.node c.in-Some.is before.walks in
    let at = entry-next s c.args.most old now c.elements.left once c.in-Some.node n in
    let w = c.in_ok-tell_entry.ensures.written n.own at in
    record {
      walks = walks-next s c.args.most old now c.elements.left once c.in-Some.node n (g.W.Sink.taken c.tell_entry.new.sink) c.tell_entry.new.left c.node_after-next.result
          (c.node_after-next.ensures c.requires) (c.in_ok-tell_entry.ensures.left n.own at)
          (then_more _ _ _ (text_of c.elements.left (entry_lines s.set n.own)) (text_of (left_all c.elements.left (entry_lines s.set n.own)) (record_lines s.set n.later)) _ n.begun w.all);
      later = omega (arith, before.later, w.cause.later);
      kept = w.kept ∙ before.kept;
    }

pub elements-smaller : goal.elements-smaller
elements-smaller g c =
    let s = g.S.Session.state c.args.session.now in
    let old = g.W.Sink.taken c.args.sink.now in
    let now = g.W.Sink.taken c.elements.sink in
    let once = c.each_element_is_found_once.ensures.once s.set s.document s.found (c.compiled-set.ensures.found c.requires) in
    let n = walks-on s c.args.most old now c.elements.left c.elements.next c.in-Some.node c.in-Some.is c.elements.invariant.walks in
    subst (λ (x : Option ℕ). count_from c.node_after-next.result s.found < count_from x s.found) (sym c.in-Some.is)
    (walks-smaller s c.args.most old now c.elements.left once c.in-Some.node n c.node_after-next.result (c.node_after-next.ensures c.requires))

pub returns : goal.returns
returns g c =
    let s = g.S.Session.state c.args.session.now in
    let old = g.W.Sink.taken c.args.sink.now in
    let now = g.W.Sink.taken c.elements.sink in
    let before = c.elements.invariant in
    let begun = subst (λ (t : List ℕ). IsBegun old now t (report c.args.most s)) (no-lines c.elements.left) (walks-end s c.args.most old now c.elements.left c.elements.next c.in_default.is before.walks) in
    record {
      written = record {
        all = to_the_end old now (report c.args.most s) begun;
        front = tt;
        cause = record { later = before.later; failed = tt };
        kept = before.kept;
      };
    }
