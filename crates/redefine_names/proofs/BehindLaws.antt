-- What stands in an element stays behind it where versions have names of their own.
use Rattle.std.proofs.Common.{◌≡◌, ℕ, ◌<◌, List, Option, None, Some, map, length, refl, sym, ap, subst, ◌∙◌}
use Rattle.std.specs.Prelude.{All, slice_get}
use Rattle.std.proofs.lemmas.Option.{none-some, same_Some, slice_get-map}
use Rattle.std.proofs.lemmas.List.{length-map}
use Rattle.std.specs.Option.{option_map}
use Rattle.representations.specs.Behind.{IsBetween, AreBehind}
use Rattle.representations.specs.declared.parts.Representation.{Representation}
use Rattle.redefine_names.specs.Unnamed.{unnamed_rep, unnamed_reps}

some-before : (o : Option Representation) (rep : Representation) → option_map unnamed_rep o ≡ Some rep → (was : Representation) × (o ≡ Some was) × (unnamed_rep was ≡ rep)
some-before None rep e = absurd (none-some rep e)
some-before (Some was) rep e = (was, refl, same_Some (unnamed_rep was) rep e)

-- of representations that are alike but for names
pub behind-alike : (reps new : List Representation) → unnamed_reps new ≡ unnamed_reps reps → AreBehind reps → AreBehind new
behind-alike reps new alike behind place rep at =
    let there : slice_get (unnamed_reps new) place ≡ Some (unnamed_rep rep) = slice_get-map unnamed_rep new place ∙ ap (option_map unnamed_rep) at in
    let before = some-before (slice_get reps place) (unnamed_rep rep) (sym (slice_get-map unnamed_rep reps place) ∙ (ap (λ rs. slice_get rs place) (sym alike) ∙ there)) in
    let members : before.0.members ≡ rep.members = ap (λ (r : Representation). r.members) before.2 in
    let long : length reps ≡ length new = sym (length-map reps unnamed_rep) ∙ (ap length (sym alike) ∙ length-map new unnamed_rep) in
    subst (λ ms. All (IsBetween place (length new)) ms) members (subst (λ n. All (IsBetween place n) before.0.members) long (behind place before.0 before.1))
