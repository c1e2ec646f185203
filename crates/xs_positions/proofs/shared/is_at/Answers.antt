use Rattle.std.proofs.Common.{◌≡◌, ℕ, ◌<◌, [], length, Vec, Global, ◌∙◌, sym, ap}
use Rattle.std.proofs.lemmas.Bool.Decides.{Decides-eqb}
use Rattle.std.proofs.lemmas.Slice.Eq.{slice_eq-Decides}
use Rattle.xs_positions.proofs.Measuring.{get_or-map}
use Rattle.xs_positions.proofs.shared.is_at.Goals as goal

pub returns-in-Some : goal.returns-in-Some
returns-in-Some c = λ t.
    let known = c.in-Some.known.now in
    let at = c.in-Some.ensures.lookup in
    let there : c.args.number < length c.args.rows.now = at.3.0 in
    let same : c.as_slice.result.now ≡ c.args.row.now = (slice_eq-Decides Decides-eqb _ _ _ c.eq.ensures).0 t in (
      there,
      get_or-map (λ (v : Vec ℕ Global). v.items) c.args.rows.now c.args.number known [] there ∙
          (ap (λ (v : Vec ℕ Global). v.items) (sym at.1) ∙ (sym c.as_slice.ensures.value ∙ same)),
    )
