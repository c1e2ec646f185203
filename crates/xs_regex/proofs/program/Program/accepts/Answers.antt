use Rattle.std.proofs.Common.{◌≡◌, ◌<◌, false, length, get_or, refl, ◌∙◌, inl, inr, arith}
use Rattle.std.proofs.lemmas.Bool.{both_ways, false≢true}
use Rattle.std.proofs.lemmas.List.{take_all}
use Rattle.std.specs.Prelude.{Contains}
use Rattle.xs_regex.specs.Sets.{Has}
use Rattle.xs_regex.proofs.SetLaws.{has_within, taken_cases, flag_at}
use Rattle.xs_regex.proofs.ProgramLaws.{same_at}
use Rattle.xs_regex.proofs.program.Program.accepts.Goals as goal

pub index-requires : goal.index-requires
index-requires c =
    let xs = c.members-p-items.result.now in
    let i = c.loop-p.p-index in
    let x = get_or xs i 0 in
    let h : Has c.args.live.now x = (c.members-p-items.ensures x).0 (i, c.loop-p-test.true, same_at xs i 0 x c.loop-p-test.true) in
    let l = has_within c.args.live.now x h in
    omega (arith, l, c.requires.live, c.requires.program.ends_count, c.args.self.now.ends.ok.0)

pub returns-then-index : goal.returns-then-index
returns-then-index c =
    let xs = c.members-p-items.result.now in
    let i = c.loop-p.p-index in
    let x = get_or xs i 0 in
    let h : Has c.args.live.now x = (c.members-p-items.ensures x).0 (i, c.loop-p-test.true, same_at xs i 0 x c.loop-p-test.true) in
    let l = has_within c.args.live.now x h in
    let inside : x < length c.args.self.now.ends.items = omega (arith, l, c.requires.live, c.requires.program.ends_count) in
    let last : Contains c.args.self.now.positions.last x = (c.requires.program.ends x).0 (flag_at c.args.self.now.ends.items x c.index.result.now inside c.index.ensures ∙ c.if-index.true) in
    rw c.if-not-begun.false ((λ _. (x, h, last)), (λ _. refl))

pub loop-p-preserved : goal.loop-p-preserved
loop-p-preserved c =
    let xs = c.members-p-items.result.now in
    let i = c.loop-p.p-index in
    let x = get_or xs i 0 in
    let l = c.loop-p-test.true in
    let ends = c.args.self.now.ends.items in
    let h : Has c.args.live.now x = (c.members-p-items.ensures x).0 (i, l, same_at xs i 0 x l) in
    let within = has_within c.args.live.now x h in
    let inside : x < length ends = omega (arith, within, c.requires.live, c.requires.program.ends_count) in
    let off : get_or ends x false ≡ false = flag_at ends x c.index.result.now inside c.index.ensures ∙ c.if-index.false in
    λ p k last. elim (taken_cases xs i x p l (same_at xs i x 0 l) k) [
      | inl a ↦ c.loop-p.invariant p a last
      | inr e ↦ both_ways _ off ((c.requires.program.ends x).1 (rw e at last))
    ]

pub returns : goal.returns
returns c =
    let xs = c.members-p-items.result.now in
    rw c.if-not-begun.false (
      (λ h. absurd (false≢true h)),
      (λ k. absurd (c.loop-p.invariant k.0 (rw (take_all c.loop-p.p-index xs c.loop-p-test.false) ((c.members-p-items.ensures k.0).1 k.1)) k.2)),
    )
