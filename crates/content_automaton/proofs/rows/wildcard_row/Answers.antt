use Rattle.std.proofs.Common.{◌≡◌, ℕ, ap, subst, ◌∙◌, arith}
use Rattle.content_automaton.specs.Symbols.{count_of}
use Rattle.content_automaton.specs.Rows.{AreAdmitted}
use Rattle.content_automaton.proofs.Rowing.{admitted_none, admitted_more}
use Rattle.content_automaton.proofs.rows.wildcard_row.Goals as goal
use Rattle.content_automaton.proofs.rows.wildcard_row.Goals.{then-is_admitted+in_ok-push, else-is_admitted}

pub loop-symbol-preserved : goal.loop-symbol-preserved
loop-symbol-preserved c =
    elim c.if-is_admitted.branch [
      | then-is_admitted+in_ok-push w ↦ admitted_more c.args.names.now c.args.symbols.now c.args.namespaces.now c.args.class c.loop-symbol.symbol c.loop-symbol.row.items c.loop-symbol.invariant
          c.is_admitted.result _ c.is_admitted.ensures w.if-is_admitted.true (ap (λ v. v.items) w.row-is ∙ w.in_ok-push.ensures.items)
      | else-is_admitted w ↦ rw w.row-is (admitted_none c.args.names.now c.args.symbols.now c.args.namespaces.now c.args.class c.loop-symbol.symbol c.loop-symbol.row.items c.loop-symbol.invariant
          c.is_admitted.result c.is_admitted.ensures w.if-is_admitted.false)
    ]

pub returns : goal.returns
returns c =
    let e : c.loop-symbol.symbol ≡ count_of c.args.symbols.now = (let k = c.count-symbol-end.ensures.count in omega arith) in
    subst (λ (n : ℕ). AreAdmitted c.args.names.now c.args.symbols.now c.args.namespaces.now c.args.class n c.loop-symbol.row.items) e c.loop-symbol.invariant
