use Rattle.std.proofs.Common.{◌≡◌, ℕ, List, ◌+◌, ◌++◌, take, drop, set, get_or, length, ap, ◌∙◌, add-one, arith}
use Rattle.xs_components.specs.Tables.{Tables}
use Rattle.component_references.proofs.WriteLaws.{seam}
use Rattle.component_references.proofs.writing.write_groups.Goals as goal

pub loop-n-preserved : goal.loop-n-preserved
loop-n-preserved c =
    let n = c.loop-n.n in
    let ranks = c.args.ranks.now in
    let old = c.args.parts.now.groups.ranks in
    let law : set (take n ranks ++ drop n old) n (get_or ranks n 0) ≡ take (n + 1) ranks ++ drop (n + 1) old = rw add-one (seam ranks old n (omega (arith, c.requires, c.group_ranks-count.ensures.alike, ap length c.group_ranks-count.ensures.ranks)) (omega (arith, c.group_ranks-count.ensures.alike, ap length c.group_ranks-count.ensures.ranks))) in
    c.write_group.ensures
    ∙ ap (λ (p : Tables). record p { groups = record p.groups { ranks = set p.groups.ranks n (get_or ranks n 0) } }) c.loop-n.invariant
    ∙ ap (λ (l : List ℕ). record c.args.parts.now { groups = record c.args.parts.now.groups { ranks = l } }) law
