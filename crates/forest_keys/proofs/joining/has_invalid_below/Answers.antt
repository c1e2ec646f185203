use Rattle.std.proofs.Common.{List, sym, ap, ◌∙◌}
use Rattle.what_is_found.specs.Identity.{has_invalid}
use Rattle.tree_assess.specs.declared.entry.ElementEntry.{ElementEntry}
use Rattle.forest_keys.specs.inside.Parsed.{assessed_of, below_of}
use Rattle.forest_keys.proofs.Stepping.{none_invalid_below, invalid_below}
use Rattle.forest_keys.proofs.joining.has_invalid_below.Goals as goal

pub returns-in-None : goal.returns-in-None
returns-in-None c =
    sym (none_invalid_below c.split_at.result.1.now c.in-None.ensures) ∙ ap (λ (es : List ElementEntry). has_invalid (below_of (assessed_of es))) c.split_at.ensures.back

pub returns-in-Some : goal.returns-in-Some
returns-in-Some c =
    c.has_invalid.ensures ∙ sym (invalid_below c.split_at.result.1.now c.in-Some.parts c.in-Some.ensures)
    ∙ ap (λ (es : List ElementEntry). has_invalid (below_of (assessed_of es))) c.split_at.ensures.back
