use Rattle.std.proofs.Common.{◌∙◌, sym}
use Rattle.std.specs.Rc.{rc_str_bytes}
use Rattle.std.proofs.lemmas.Slice.Eq.{bytes_eq-Decides}
use Rattle.xs_names.proofs.pool.TextPool.text.Goals as goal

-- what is found by its characters has them
pub returns-in-Some : goal.returns-in-Some
returns-in-Some c =
    c.in_ok-clone.ensures.cases ∙ sym ((bytes_eq-Decides c.args.text.now (rc_str_bytes c.in-Some.known.now)).0 c.in-Some.ensures.same_key)
