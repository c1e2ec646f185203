use Rattle.std.proofs.Common.{◌≡◌, [], length, drop, ◌∙◌, arith}
use Rattle.std.proofs.lemmas.Iterator.{YieldsList-from_chars}
use Rattle.std.proofs.lemmas.Iterator.Consumers.{YieldsList-turn, YieldsList-end}
use Rattle.std.proofs.lemmas.List.{length_push}
use Rattle.std.specs.Str.{chars}
use Rattle.xs_regex.specs.Program.{expression_of}
use Rattle.xs_regex.proofs.Running.{run_sound, run_complete, turn_sound, turn_complete, run_matches, matches_run, drop_all}
use Rattle.xs_regex.proofs.program.Program.run.Goals as goal

pub loop-c-init : goal.loop-c-init
loop-c-init c =
    let term = expression_of c.args.self.now in
    let table = c.args.self.now.positions in
    record {
      sound = run_sound term.classes term.tree table c.requires.program.positions c.args.live.now (chars c.args.text.now);
      complete = run_complete term.classes term.tree table c.requires.program.positions c.args.live.now (chars c.args.text.now);
      live = c.requires.live;
      next = c.requires.next;
    }

pub loop-c-preserved : goal.loop-c-preserved
loop-c-preserved c =
    let term = expression_of c.args.self.now in
    let table = c.args.self.now.positions in
    let text = chars c.args.text.now in
    let yielded = c.loop-c.yielded in
    let t = YieldsList-turn (YieldsList-from_chars c.args.text.now c.utf8.text cc) yielded _ c.loop-c.yielded_by _ _ c.in-Some.c c.in-Some.is c.next.ensures.steps in
    let m = length_push yielded c.in-Some.c in
    let size = c.advance.ensures.size ∙ c.loop-c.invariant.next in
    record {
      sound = turn_sound term.classes term.tree table c.requires.program.positions c.loop-c.live c.advance.new.next c.swap.new.x c.loop-c.begun
          text c.in-Some.c (length yielded) _ c.swap.ensures.x_after m t.0 t.1 size c.advance.ensures.next c.loop-c.invariant.sound;
      complete = turn_complete term.classes term.tree table c.requires.program.positions c.loop-c.live c.advance.new.next c.swap.new.x c.loop-c.begun
          text c.in-Some.c (length yielded) _ c.swap.ensures.x_after m t.0 t.1 size c.advance.ensures.next c.loop-c.invariant.complete;
      live = rw c.swap.ensures.x_after size;
      next = rw c.swap.ensures.y_after c.loop-c.invariant.live;
    }

pub returns-clause-answer : goal.returns-clause-answer
returns-clause-answer c =
    let term = expression_of c.args.self.now in
    let table = c.args.self.now.positions in
    let text = chars c.args.text.now in
    let t = YieldsList-end (YieldsList-from_chars c.args.text.now c.utf8.text cc) c.loop-c.yielded _ c.loop-c.yielded_by _ _ c.in-None.is c.next.ensures.steps in
    let e : drop (length c.loop-c.yielded) text ≡ [] = drop_all text (length c.loop-c.yielded) (let l = t.1 in omega (arith, l)) in (
      (λ h. run_matches term.classes term.tree table c.requires.program.positions text (c.loop-c.invariant.sound (rw e (c.accepts.ensures.0 h)))),
      (λ h. c.accepts.ensures.1 (rw e at (c.loop-c.invariant.complete (matches_run term.classes term.tree table c.requires.program.positions text h)))),
    )
