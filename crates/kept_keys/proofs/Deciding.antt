-- Codes are the same where `==` finds them so.
use Rattle.std.proofs.Common.{◌≡◌, Bool, true, false, ◌&&◌, refl, ap}
use Rattle.std.specs.Bool.{Decides}
use denote.Enum.Bare.{same_true, true_same}
use Rattle.std.proofs.lemmas.Bool.{eqb-true, eq-eqb}
use Rattle.xs_codes.specs.contracts.code.Code.{the_type}
use Rattle.xs_codes.specs.declared.fault.Found.{Found}
use Rattle.xs_codes.specs.contracts.fault.FoundPartialEq.TheImpl as found

both : (a b : Bool) → (a && b) ≡ true → (a ≡ true) × (b ≡ true)
both true true e = (refl, refl)
both true false e = cc
both false b e = cc

all-both : (a b : Bool) → a ≡ true → b ≡ true → (a && b) ≡ true
all-both a b p q = rw (p, q) refl

pub found-decides : (a b : Found) → Decides (found.eq-value.it a b) (a ≡ b)
found-decides a b = (told, back)
  where
    told : found.eq-value.it a b ≡ true → a ≡ b
    told e =
        let h = both _ _ e in
        let code : a.code ≡ b.code = same_true the_type tt a.code b.code h.0 in
        let place : a.place ≡ b.place = eqb-true a.place b.place h.1 in
        λ i. record { code = code i; place = place i }

    back : a ≡ b → found.eq-value.it a b ≡ true
    back e = all-both _ _ (true_same the_type a.code b.code (ap (λ (f : Found). f.code) e)) (eq-eqb a.place b.place (ap (λ (f : Found). f.place) e))
