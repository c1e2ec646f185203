-- What the tables of attribute uses say.
use Rattle.std.proofs.Common.{◌≡◌, ℕ, Bool, true, false, List, Option, None, Some, refl, sym, ap, ◌∙◌}
use Rattle.std.specs.Prelude.{Result, Ok, Err}
use Rattle.xs_codes.specs.declared.fault.Fault.{Fault}
use Rattle.xs_components.specs.Tables.{Tables}
use Rattle.xs_components.specs.declared.common.Wildcard.{Wildcard}
use Rattle.attr_uses.specs.Uses.{AttrUses, no_uses}
use Rattle.attr_uses.specs.Tables.{Answers, StandsFor, IsWildcard}
use Rattle.attr_uses.specs.declared.store.KeptTable.{KeptTable}
use Rattle.attr_uses.specs.declared.store.Store.{Store}
use Rattle.attr_assess.specs.Governing.{accepted_uses, by_process, by_wildcard, if_admitted}
use Rattle.attr_assess.specs.declared.governing.AttrGoverning.{AttrGoverning}
use Rattle.attr_assess.specs.declared.governing.AttrGoverning.TheVariants.{Refused}
use Rattle.xs_codes.specs.declared.code.Code.TheVariants.{CvcComplexType3_2_2}
use Rattle.xs_components.specs.Sets.{admits}

module _ (t : Tables) (ids : List Bool) (store : Store) where
  pub table-accepted : (table : KeptTable) (value : Result AttrUses Fault) → Answers t ids store (Ok table) value → StandsFor t ids store table (accepted_uses value)
  table-accepted table (Ok value) a = a
  table-accepted table (Err fault) a = absurd a

  pub table-refused : (other : Fault) (value : Result AttrUses Fault) → Answers t ids store (Err other) value → accepted_uses value ≡ no_uses
  table-refused other (Ok value) a = absurd a
  table-refused other (Err fault) a = refl

-- wildcards that admit the same, and are assessed alike
pub by_wildcard-like : (w v : Option Wildcard) → IsWildcard w v → (space : ℕ) (top : Option ℕ) → by_wildcard w space top ≡ by_wildcard v space top
by_wildcard-like None None like space top = refl
by_wildcard-like None (Some b) like space top = absurd like
by_wildcard-like (Some a) None like space top = absurd like
by_wildcard-like (Some a) (Some b) like space top = λ i. if_admitted (like.same space i) (like.process i) top

-- what a wildcard admits, and what it does not
module _ (w : Wildcard) (v : Option Wildcard) (like : IsWildcard (Some w) v) (space ns : ℕ) (here : ns ≡ space) (top : Option ℕ) (b : Bool) (e : b ≡ admits w.namespaces ns) where
  admitted-is : b ≡ admits w.namespaces space
  admitted-is = e ∙ ap (admits w.namespaces) here

  pub is-admitted : (found : Option ℕ) (result : AttrGoverning) → b ≡ true → found ≡ top → result ≡ by_process w.process found → result ≡ by_wildcard v space top
  is-admitted found result here_admits same is =
      is ∙ (ap (by_process w.process) same ∙ (ap (λ c. if_admitted c w.process top) (sym here_admits ∙ admitted-is) ∙ by_wildcard-like (Some w) v like space top))

  pub is-not-admitted : b ≡ false → Refused CvcComplexType3_2_2 ≡ by_wildcard v space top
  is-not-admitted here_refuses = ap (λ c. if_admitted c w.process top) (sym here_refuses ∙ admitted-is) ∙ by_wildcard-like (Some w) v like space top
