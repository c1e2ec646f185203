use Rattle.std.proofs.Common.{sym, ◌∙◌}
use Rattle.derive_faults.proofs.IdLaws.{id-ends, id-goes, source-under}
use Rattle.derive_faults.proofs.value_ids.has_id_content.Goals as goal

pub returns-in-None : goal.returns-in-None
returns-in-None c =
    let ends = id-ends c.args.set.now.parts.now c.up.at (sym c.source_of.ensures ∙ c.in-None.is) in
    let told = c.is_simple_id.ensures.id in
    let same = c.up.invariant.same in
    record { id = ((λ e. same.0 (ends.0 (told.0 e))), (λ h. told.1 (ends.1 (same.1 h)))) }

pub up-smaller : goal.up-smaller
up-smaller c = (source-under c.args.set.now.parts.now c.requires.found.given c.up.at c.in-Some.source (sym c.source_of.ensures ∙ c.in-Some.is)).1

pub up-preserved : goal.up-preserved
up-preserved c =
    let t = c.args.set.now.parts.now in
    let source = sym c.source_of.ensures ∙ c.in-Some.is in
    let goes = id-goes t c.up.at c.in-Some.source source in
    let same = c.up.invariant.same in
    record {
      there = (source-under t c.requires.found.given c.up.at c.in-Some.source source).0;
      same = ((λ h. same.0 (goes.0 h)), (λ h. goes.1 (same.1 h)));
    }
