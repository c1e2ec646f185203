use Rattle.std.proofs.Common.{refl, inl, inr}
use Rattle.xs_regex.specs.Program.{expression_of}
use Rattle.xs_regex.proofs.ProgramLaws.{follow_within, done_within, put_already}
use Rattle.xs_regex.proofs.program.Program.put_followers.Goals as goal

pub is_done-requires-clause-done : goal.is_done-requires-clause-done
is_done-requires-clause-done c = done_within c.args.self.now c.args.next.now c.args.c c.args.done.now c.requires.done

pub put-requires-clause-positions : goal.put-requires-clause-positions
put-requires-clause-positions c =
    rw c.follow.ensures (follow_within (expression_of c.args.self.now).tree c.args.self.now.positions c.requires.program.positions c.args.p c.requires.within)

pub returns-then-is_done : goal.returns-then-is_done
returns-then-is_done c =
    let same = c.is_done.ensures c.if-is_done.true in
    let already = put_already c.args.self.now c.args.next.now c.args.c c.args.done.now c.args.p same.0 c.requires.done same.1 same.2 in
    record {
      done = c.requires.done;
      next = λ q. ((λ h. inl h), elim [ inl h ↦ h | inr h ↦ already q h.0 h.1 ]);
      size = refl;
    }

pub returns : goal.returns
returns c =
    let more = c.put.ensures.set in
    record {
      done = (c.requires.within, λ q h t. (more q).1 (inr (rw c.follow.ensures h, t)));
      next = λ q. rw c.follow.ensures at (more q);
      size = c.put.ensures.size;
    }
