-- A set whose table of names is as it was.
use Rattle.std.proofs.Common.{◌≡◌, ◌<◌, List, length, sym, ap, subst}
use Rattle.std.specs.Prelude.{All}
use Rattle.xs_names.specs.Names.{NameTable}
use Rattle.assess_records.specs.declared.shape.NamedText.{NamedText}
use Rattle.xs_components.specs.Tables.{Tables}
use Rattle.component_tables.specs.Types.{DeclarationTable}
use Rattle.component_tables.specs.Named.{Spaces}
use Rattle.elem_governing.specs.View.{IsView, AreKnown}
use Rattle.compiled_schema.specs.Usable.{IsUsable}
use Rattle.compiled_schema.specs.declared.compiled.Compiled.{Compiled}
use Rattle.assess_records.specs.Numbered.{Scope}

module _ (c : Compiled) (names : NameTable) (e : names ≡ c.names) where
  pub names_same : record c { names = names } ≡ c
  names_same = ap (λ n. record c { names = n }) e

  pub usable_still : IsUsable c → IsUsable (record c { names = names })
  usable_still usable = subst IsUsable (sym names_same) usable

  pub known_still : (scope : Scope) → AreKnown c.names scope → AreKnown names scope
  known_still scope known = subst (λ n. AreKnown n scope) (sym e) known

  pub named_still : (attrs : List NamedText) → All (λ (a : NamedText). a.name < length c.names.names) attrs → All (λ (a : NamedText). a.name < length names.names) attrs
  named_still attrs named = subst (λ (n : NameTable). All (λ (a : NamedText). a.name < length n.names) attrs) (sym e) named

-- what governing is read off
pub viewed : (c : Compiled) (p : Tables) (d : DeclarationTable) (n : Spaces) → p ≡ c.parts → d ≡ c.declarations → n ≡ c.named → IsUsable c → IsView p d n
viewed c p d n e f g usable =
    subst (λ x. IsView x d n) (sym e) (subst (λ x. IsView c.parts x n) (sym f) (subst (λ x. IsView c.parts c.declarations x) (sym g) usable.view))
