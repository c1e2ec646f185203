-- Without identity constraints there are no codes of them.
use Rattle.std.proofs.Common.{◌≡◌, ℕ, ◌==◌, Bool, true, false, if◌then◌else◌, List, [], ◌∷◌, ◌++◌, refl, ap, ◌∙◌, subst}
use Rattle.std.specs.Prelude.{slice_get}
use Rattle.std.specs.List.{flat_map, AllZip}
use Rattle.xs_names.specs.Names.{NameTable}
use Rattle.xs_codes.specs.declared.fault.Found.{Found}
use Rattle.xs_components.specs.Tables.{Tables}
use Rattle.xs_components.specs.declared.constraint.Constraint.{Constraint}
use Rattle.xpath_subset.specs.Reads.{ArePathsOf, AreIdentities}
use Rattle.xpath_subset.specs.declared.paths.IdentityPaths.{IdentityPaths}
use Rattle.identity_constraints.specs.Seen.{KeyElement, KeyForest, none, element}
use Rattle.identity_constraints.specs.Targets.{constraints_of}
use Rattle.identity_constraints.specs.Satisfied.{codes_by, identity_codes, identity_at}
use Rattle.compiled_schema.specs.Usable.{IsUsable}
use Rattle.compiled_schema.specs.declared.compiled.Compiled.{Compiled}
use Rattle.kept_keys.specs.Keys.{codes_at}

no-parts : (parts : List Constraint) → AllZip ArePathsOf parts [] → parts ≡ []
no-parts [] zip = refl
no-parts (part ∷ parts) zip = absurd zip

abbrev no-found : List Found
no-found = []

if-both : (b : Bool) → (if b then no-found else no-found) ≡ no-found
if-both true = refl
if-both false = refl

module _ (names : NameTable) (t : Tables) (identities : List IdentityPaths) (bare : t.constraints.parts ≡ []) where
  no-code : (own : KeyElement) (below : KeyForest) (ks : List ℕ) → flat_map (λ k. codes_by names t identities k (slice_get t.constraints.parts k) own below) ks ≡ []
  no-code own below [] = refl
  no-code own below (k ∷ ks) = (λ i. codes_by names t identities k (slice_get (bare i) k) own below ++ no-code own below ks i)

  no-codes : (own : KeyElement) (below : KeyForest) → identity_codes names t identities own below ≡ []
  unfolding identity_codes
  no-codes own below = no-code own below (constraints_of t own)

  none-at : (n : ℕ) (f : KeyForest) → identity_at names t identities n f ≡ []
  none-at n none = refl
  none-at n (element own below next) =
      let first = ap (λ (codes : List Found). if own.number == n then codes else []) (no-codes own below) ∙ if-both (own.number == n) in
      let one = none-at n below in
      let two = none-at n next in
      λ i. first i ++ (one i ++ two i)

-- a usable set has a path for each of them
pub none-coded : (c : Compiled) → IsUsable c → c.identities.items ≡ [] → (f : KeyForest) (n : ℕ) → codes_at c f n ≡ []
none-coded c usable bare f n =
    none-at c.names c.parts c.identities.items (no-parts c.parts.constraints.parts (subst (λ (paths : List IdentityPaths). AreIdentities c.parts paths) bare usable.identities_are)) n f
