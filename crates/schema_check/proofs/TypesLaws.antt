-- The first of what simple types and their facets break is one (Structures 3.14.6).
use Rattle.std.proofs.Common.{◌≡◌, inl, inr, Bool, true, false, Option, ap, subst}
use Rattle.xs_codes.specs.declared.fault.Fault.{Fault}
use Rattle.xs_codes.specs.Least.{IsLeast}
use Rattle.xs_codes.proofs.Firsts.{least-one}
use Rattle.xs_components.specs.Tables.{Tables}
use Rattle.xs_components.specs.declared.common.TypeId.{TypeId}
use Rattle.xs_components.specs.declared.simple.SimpleForm.{SimpleForm}
use Rattle.xs_components.specs.declared.simple.SimpleForm.TheVariants.{Restrict, ListOf, UnionOf}
use Rattle.xs_components.specs.declared.complex.ContentForm.{ContentForm}
use Rattle.xs_components.specs.declared.complex.ContentForm.TheVariants as contents
use Rattle.simple_types.specs.Broken.{BreaksOwnStep, BreaksContent, IsBroken, of_type, of_content}
use Rattle.schema_check.specs.Completed.{IsFirstTypeFault}
use Rattle.schema_check.proofs.RankedLaws.{ranked-same}

-- what is broken is of phase 5
own-five : (t : Tables) (form : SimpleForm) (f : Fault) → BreaksOwnStep t form f → f.phase ≡ 5
own-five t (Restrict base step) f b = ap (λ (x : Fault). x.phase) b.is
own-five t (ListOf item) f b = absurd b
own-five t (UnionOf members) f b = absurd b

content-five : (t : Tables) (by_extension : Bool) (base : TypeId) (form : ContentForm) (f : Fault) → BreaksContent t by_extension base form f → f.phase ≡ 5
content-five t false base (contents.Simple own step) f b = ap (λ (x : Fault). x.phase) b.is
content-five t false base (contents.Complex effective mixed) f b = absurd b
content-five t true base (contents.Simple own step) f b = absurd b
content-five t true base (contents.Complex effective mixed) f b = absurd b

five : (t : Tables) (f : Fault) → IsBroken t f → f.phase ≡ 5
five t f (of_type n part at (inl (code, breaks, is))) = ap (λ (x : Fault). x.phase) is
five t f (of_type n part at (inr step)) = own-five t part.form f step
five t f (of_content n part at breaks) = content-five t part.by_extension part.base part.content f breaks

pub types-one : (parts : Tables) (f g : Option Fault) → IsFirstTypeFault parts f → IsFirstTypeFault parts g → f ≡ g
types-one parts f g (a, ranked, p) (b, ranked', q) = least-one (IsBroken b) 5 (five b) f g (subst (λ (t : Tables). IsLeast (IsBroken t) f) (ranked-same parts a b ranked ranked') p) q
