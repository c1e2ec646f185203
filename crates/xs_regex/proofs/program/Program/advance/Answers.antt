use Rattle.std.proofs.Common.{◌≡◌, get_or, ◌∙◌, arith}
use Rattle.std.specs.Prelude.{Contains, IsTrue}
use Rattle.xs_positions.specs.Sets.{row}
use Rattle.xs_regex.specs.Program.{takes, expression_of}
use Rattle.xs_regex.specs.Sets.{Has}
use Rattle.xs_regex.proofs.SetLaws.{has_within}
use Rattle.xs_regex.proofs.ProgramLaws.{same_at, turn, after_turns, first_within}
use Rattle.xs_regex.proofs.program.Program.advance.Goals as goal

pub put-requires-clause-positions : goal.put-requires-clause-positions
put-requires-clause-positions c =
    rw c.first.ensures (first_within (expression_of c.args.self.now).tree c.args.self.now.positions c.requires.program.positions)

pub put_followers-requires-clause-within : goal.put_followers-requires-clause-within
put_followers-requires-clause-within c =
    let xs = c.members-p-items.result.now in
    let i = c.loop-p.p-index in
    let x = get_or xs i 0 in
    let h : Has c.args.live.now x = (c.members-p-items.ensures x).0 (i, c.loop-p-test.true, same_at xs i 0 x c.loop-p-test.true) in
    let l = has_within c.args.live.now x h in
    let e = c.requires.live in
    omega (arith, l, e)

pub loop-p-preserved : goal.loop-p-preserved
loop-p-preserved c =
    let xs = c.members-p-items.result.now in
    let i = c.loop-p.p-index in
    let x = get_or xs i 0 in
    let program = c.args.self.now in
    record {
      next = λ q. turn (λ p. Contains (row program.positions.follow p) q) (λ p. IsTrue (takes program q c.args.c)) xs i x (Has c.loop-p.next q) (Has c.put_followers.new.next q)
          c.loop-p-test.true (same_at xs i x 0 c.loop-p-test.true) (c.put_followers.ensures.next q) (c.loop-p.invariant.next q);
      size = c.put_followers.ensures.size ∙ c.loop-p.invariant.size;
      done = c.put_followers.ensures.done;
    }

pub returns-clause-next : goal.returns-clause-next
returns-clause-next c = λ q.
    let program = c.args.self.now in
    let told = after_turns (λ p. Contains (row program.positions.follow p) q) (λ p. IsTrue (takes program q c.args.c)) c.members-p-items.result.now c.loop-p.p-index c.args.live.now (Has c.loop-p.next q)
    c.loop-p-test.false c.members-p-items.ensures (c.loop-p.invariant.next q) in
    rw c.if-not-begun.false (
      (λ h. let k = told.0 h in ((k.0, k.1, k.2), k.3)),
      (λ h. told.1 (h.0.0, h.0.1, h.0.2, h.1)),
    )
