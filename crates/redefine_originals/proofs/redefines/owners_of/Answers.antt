use Rattle.std.proofs.Common.{◌≡◌, take, take_all, arith}
use Rattle.redefine_originals.specs.inside.Lists.{listed}
use Rattle.redefine_originals.specs.inside.Redefines.{redefine_entry}
use Rattle.redefine_originals.proofs.RedefineLaws.{numbers-more}
use Rattle.redefine_originals.proofs.redefines.owners_of.Goals as goal

pub loop-redefine-preserved : goal.loop-redefine-preserved
loop-redefine-preserved c =
    let inv = c.loop-redefine.invariant in
    record {
      counted = omega (arith, inv.counted);
      owners = λ item.
          numbers-more redefine_entry item c.args.redefines.now c.loop-redefine.redefine-index c.redefine-item.result c.loop-redefine.number (listed c.loop-redefine.owners item) (listed c.note_members.new.owners item)
          c.loop-redefine-test.true c.redefine-item.is inv.counted (c.in_ok-note_members.ensures item) (inv.owners item);
    }

pub returns : goal.returns
returns c = let all : take c.loop-redefine.redefine-index c.args.redefines.now ≡ c.args.redefines.now = take_all _ _ (omega arith) in rw all at c.loop-redefine.invariant.owners
