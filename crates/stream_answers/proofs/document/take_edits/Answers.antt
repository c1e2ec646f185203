use Rattle.std.proofs.Common.{◌≡◌, refl, sym, subst}
use Rattle.stream_answers.specs.inside.Turns.{commands, no_block}
use Rattle.stream_answers.specs.inside.Turning.{spot_of, moved}
use Rattle.stream_answers.specs.declared.place.Place.TheVariants as places
use Rattle.stream_answers.proofs.Moved.{if_goes}
use Rattle.stream_answers.proofs.Opening.{opening_answers, opening_breaks}
use Rattle.stream_answers.proofs.document.take_edits.Goals as goal

pub returns-in-Ok-clause-takes : goal.returns-in-Ok-clause-takes
returns-in-Ok-clause-takes g c basis next stood e =
    let h = c.in-Ok.ensures.opened basis e in
    opening_answers c.args.wanted basis c.args.tree (λ s. next (commands s no_block)) c.open.new.self h c.begin_edits.result _ _ _ _ _
    (c.begin_edits.ensures.wrote h.document h.work_is) c.in-Ok.ensures.steps.later c.in-Ok.ensures.steps.few
    (if_goes next stood c.open.new.self c.begin_edits.result (places.Commands no_block) (commands h.document no_block)
    (subst (λ w. spot_of (places.Commands no_block) w ≡ commands h.document no_block) (sym h.work_is) refl) c.begin_edits.ensures.goes)

pub returns-in-Err-clause-takes : goal.returns-in-Err-clause-takes
returns-in-Err-clause-takes g c basis next stood e =
    opening_breaks c.args.wanted basis c.args.tree (λ s. next (commands s no_block)) _ _ _ (moved next stood c.open.new.self) c.in-Err.ensures.steps.later c.in-Err.ensures.steps.few
