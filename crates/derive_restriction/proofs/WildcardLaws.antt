-- Wildcards that are like others break the same.
use Rattle.std.proofs.Common.{◌≡◌, inl, inr, Bool, Option, None, Some, refl, sym, ◌∙◌, subst}
use Rattle.std.specs.Prelude.{◌&&◌, not, true, false}
use Rattle.xs_codes.specs.declared.code.Code.{Code}
use Rattle.xs_components.specs.Sets.{IsSubset}
use Rattle.xs_components.specs.declared.common.Process.{Process}
use Rattle.xs_components.specs.declared.common.Wildcard.{Wildcard}
use Rattle.attr_uses.specs.Tables.{IsLike, IsWildcard}
use Rattle.derive_faults.specs.TypeFaults.{IsFirstCode, stands_before}
use Rattle.derive_faults.proofs.FaultLaws.{first-same, not-itself}
use Rattle.derive_restriction.specs.Wildcards.{is_weaker, BreaksWildcard}

turned : (a b : Option Wildcard) → IsWildcard a b → IsWildcard b a
turned None None like = like
turned None (Some b) like = like
turned (Some a) None like = like
turned (Some a) (Some b) like = record { process = sym like.process; same = λ ns. sym (like.same ns) }

within : (a b x y : Wildcard) → IsLike a b → IsLike x y → IsSubset b.namespaces y.namespaces → IsSubset a.namespaces x.namespaces
within a b x y one other sub ns h = other.same ns ∙ sub ns (sym (one.same ns) ∙ h)

breaks-like : (any : Bool) (a b x y : Option Wildcard) → IsWildcard a b → IsWildcard x y → (code : Code) → BreaksWildcard any a x code → BreaksWildcard any b y code
breaks-like any None None x y one other code broken = broken
breaks-like any None (Some b) x y one other code broken = absurd one
breaks-like any (Some a) None x y one other code broken = absurd one
breaks-like any (Some a) (Some b) None None one other code broken = broken
breaks-like any (Some a) (Some b) None (Some y) one other code broken = absurd other
breaks-like any (Some a) (Some b) (Some x) None one other code broken = absurd other
breaks-like any (Some a) (Some b) (Some x) (Some y) one other code (inl (never, is)) = inl ((λ sub. never (within a b x y one other sub)), is)
breaks-like any (Some a) (Some b) (Some x) (Some y) one other code (inr (weaker, is)) =
    inr (subst (λ (p : Process). (is_weaker p y.process && not any) ≡ true) one.process (subst (λ (q : Process). (is_weaker a.process q && not any) ≡ true) other.process weaker), is)

pub first-like : (any : Bool) (a b x y : Option Wildcard) → IsWildcard a b → IsWildcard x y → (r : Option Code) → IsFirstCode (BreaksWildcard any a x) r → IsFirstCode (BreaksWildcard any b y) r
first-like any a b x y one other r is =
    first-same (BreaksWildcard any a x) (BreaksWildcard any b y) (breaks-like any a b x y one other) (breaks-like any b a y x (turned a b one) (turned x y other)) r is

-- one code alone
pub first-alone : (code : Code) → IsFirstCode (λ c. c ≡ code) (Some code)
first-alone code = (refl, λ other e. subst (λ c. stands_before c code ≡ false) (sym e) (not-itself code))
