use Rattle.std.proofs.Common.{◌≡◌, ℕ, ◌<◌, ◌↔◌, ◌⊎◌, true, length, get_or, ap, sym, ◌∙◌, arith}
use Rattle.std.proofs.lemmas.Bool.{both_ways}
use Rattle.std.proofs.lemmas.List.{take_all, length-set}
use Rattle.std.specs.Prelude.{IsTrue}
use Rattle.xs_regex.specs.Program.{takes}
use Rattle.xs_regex.specs.Sets.{Has}
use Rattle.xs_regex.proofs.ProgramLaws.{same_at, put_one, put_none, put_more}
use Rattle.xs_regex.proofs.program.Program.put.Goals as goal
use Rattle.xs_regex.proofs.program.Program.put.Goals.{then-takes, else-takes}

pub loop-p-preserved : goal.loop-p-preserved
loop-p-preserved c =
    let xs = c.args.positions.now in
    let i = c.loop-p.p-index in
    let x = get_or xs i 0 in
    let flags = c.loop-p.set in
    let l = c.loop-p-test.true in
    let T : ℕ → Type 0 = λ q. IsTrue (takes c.args.self.now q c.args.c) in
    let inside : x < length flags = (let a = c.requires.positions i 0 l in let b = c.loop-p.invariant.size in let s = c.requires.set in omega (arith, a, b, s)) in
    let one : (q : ℕ) → Has c.if-takes.set q ↔ (Has flags q ⊎ ((q ≡ x) × T q)) = elim c.if-takes.branch [
      | then-takes w ↦ put_one T flags c.if-takes.set x inside (w.set-is ∙ w.insert.ensures) (sym c.takes.ensures ∙ w.if-takes.true)
      | else-takes w ↦ put_none T flags c.if-takes.set x w.set-is (λ t. both_ways _ (sym c.takes.ensures ∙ w.if-takes.false) t)
    ] in
    let size : length c.if-takes.set ≡ length flags = elim c.if-takes.branch [
      | then-takes w ↦ ap length (w.set-is ∙ w.insert.ensures) ∙ length-set flags x true
      | else-takes w ↦ ap length w.set-is
    ] in
    record {
      set = put_more T c.args.set.now flags c.if-takes.set xs i x l (same_at xs i x 0 l) one c.loop-p.invariant.set;
      size = size ∙ c.loop-p.invariant.size;
    }

pub returns-clause-set : goal.returns-clause-set
returns-clause-set c = rw (take_all c.loop-p.p-index c.args.positions.now c.loop-p-test.false) at c.loop-p.invariant.set
