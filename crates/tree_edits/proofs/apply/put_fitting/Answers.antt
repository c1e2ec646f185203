use Rattle.std.proofs.Common.{◌+◌, ◌++◌, take, drop, ap, arith, ◌∙◌, List}
use Rattle.tree_rows.specs.declared.row.Row.{Row}
use Rattle.tree_edits.proofs.Putting.{put_fits, new_under}
use Rattle.tree_edits.proofs.apply.put_fitting.Goals as goal

pub raise-requires-clause-depths : goal.raise-requires-clause-depths
raise-requires-clause-depths c = new_under c.args.spot.depth c.args.new.items c.requires.under c.requires.fits.shallow

pub returns-clause-ok : goal.returns-clause-ok
returns-clause-ok c =
    λ parent index spot. put_fits c.args.rows.now.items c.args.new.items c.insert_rows.new.rows.items c.args.next_free (c.args.next_free + c.len.result) parent index c.args.spot
    c.requires.sound c.requires.whole spot c.requires.fits.few c.requires.fits.shallow
    (c.in_ok-insert_rows.ensures.ok ∙ ap (λ (l : List Row). take c.args.spot.place c.args.rows.now.items ++ (l ++ drop c.args.spot.place c.args.rows.now.items)) c.raise.ensures)
    (omega (arith, c.len.ensures, c.args.new.ok.0))
