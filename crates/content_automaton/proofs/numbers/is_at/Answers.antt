use Rattle.std.proofs.Common.{◌≡◌, ℕ, ◌<◌, [], length, Vec, Global, ◌∙◌, sym, ap}
use Rattle.std.proofs.lemmas.Bool.Decides.{Decides-eqb}
use Rattle.std.proofs.lemmas.Slice.Eq.{slice_eq-Decides}
use Rattle.content_automaton.proofs.Numbering.{set_at}
use Rattle.content_automaton.proofs.numbers.is_at.Goals as goal

pub returns-in-Some : goal.returns-in-Some
returns-in-Some c = λ t.
    let state = c.in-Some.state.now in
    let at = c.in-Some.ensures.lookup in
    let there : c.args.number < length c.args.states.now = at.3.0 in
    let same : c.as_slice.result.now ≡ c.args.set.now = (slice_eq-Decides Decides-eqb _ _ _ c.eq.ensures).0 t in (
      there,
      set_at (λ (v : Vec ℕ Global). v.items) c.args.states.now c.args.number state there at.1 ∙ (sym c.as_slice.ensures.value ∙ same),
    )
