use Rattle.std.proofs.Common.{◌∙◌, ap, arith}
use Rattle.std.specs.HashMap.{get_by_text}
use Rattle.tag_names.proofs.TableLaws.{IsTable-bound}
use Rattle.tag_names.proofs.prefixes.Prefixes.bind.Goals as goal

pub invariant_of-self-in-Ok : goal.invariant_of-self-in-Ok
invariant_of-self-in-Ok c =
    IsTable-bound c.self.inside.entries.items c.push.new.self.items _ c.self.inside.latest c.insert.new.self _ c.len-place.result c.self.invariant c.in_ok-push.ensures.items
    (c.copied-hidden.ensures ∙ c.get.ensures.value ∙ ap (get_by_text c.self.inside.latest) c.as_str-2.ensures)
    (c.in_ok-prefix.ensures.ok ∙ c.as_str.ensures) (omega (arith, c.len-place.ensures, c.self.inside.entries.ok.0)) c.in-Ok.ensures.updates
