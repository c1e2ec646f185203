-- Namespaces and names that a table has, under their numbers.
use Rattle.std.proofs.Common.{◌≡◌, ℕ, ◌<◌, ◌≤◌, Bool, true, false, List, [], ◌∷◌, ◌++◌, Option, Some, None, length, bytes_eq, refl, sym, ap, subst, ◌∙◌, arith}
use Rattle.std.specs.Prelude.{IsSome, is_some, unwrap_or}
use Rattle.std.specs.List.{list_any}
use Rattle.std.specs.Bool.{Decides}
use Rattle.std.proofs.lemmas.Slice.Eq.{bytes_eq-Decides}
use Rattle.xs_names.specs.Names.{NameTable, Grown, IsSound, absent_space, same_name, space_number, name_number, with_space, with_name}
use Rattle.xs_names.specs.Numbering.{number_of, with_item}
use Rattle.xs_names.proofs.GrownLaws.{space_number-Grown, name_number-Grown, within-name_number, within-space_number, two_spaces}
use Rattle.xs_names.proofs.NumberingLaws.{same_name-Decides, with_item-old, with_item-new, number_of-new}
use Rattle.tree_rows.specs.declared.name.Expanded.{Expanded}
use Rattle.plain_tree.specs.Numbers.{space_in, name_in}
use Rattle.plain_tree.specs.Table.{with_namespace, with_local, with_expanded}
use Rattle.plain_tree.specs.Found.{HasSpace, HasName}

-- a number where there is one
pub number_there : (o : Option ℕ) → IsSome o → (n : ℕ) × (o ≡ Some n)
number_there None h = cc
number_there (Some n) h = (n, refl)

pub there_by : (o : Option ℕ) (n : ℕ) → o ≡ Some n → IsSome o
there_by o n e = ap is_some e

pub else_number : (o : Option ℕ) (d n : ℕ) → o ≡ Some n → unwrap_or o d ≡ n
else_number o d n e = ap (λ p. unwrap_or p d) e

module _ {X : Type 0} (same : X → X → Bool) (decides : (a b : X) → Decides (same a b) (a ≡ b)) where
  -- an item that was put into a list has a number
  put_by : (xs : List X) (x : X) (o : Option ℕ) → number_of same xs x ≡ o → (n : ℕ) × (number_of same (with_item same xs x) x ≡ Some n)
  put_by xs x None e = (length xs, ap (λ l. number_of same l x) (with_item-new same decides xs x e) ∙ number_of-new same decides xs x e)
  put_by xs x (Some n) e = (n, ap (λ l. number_of same l x) (with_item-old same decides xs x n e) ∙ e)

  pub put_there : (xs : List X) (x : X) → (n : ℕ) × (number_of same (with_item same xs x) x ≡ Some n)
  put_there xs x = put_by xs x (number_of same xs x) refl

-- a namespace that was put into a table has a number, and so has a name
pub space_put : (t : NameTable) (space : List ℕ) → IsSome (space_number (with_space t space) space)
space_put t space = let p = put_there bytes_eq bytes_eq-Decides t.spaces space in there_by _ p.0 p.1

pub name_put : (t : NameTable) (space : ℕ) (local : List ℕ) → IsSome (name_number (with_name t space local) space local)
name_put t space local = let p = put_there same_name same_name-Decides t.names (space, local) in there_by _ p.0 p.1

-- a table that has grown
module _ (old new : NameTable) (g : Grown old new) where
  pub space_kept : (space : List ℕ) → IsSome (space_number old space) → IsSome (space_number new space)
  space_kept space h = let p = number_there (space_number old space) h in there_by (space_number new space) p.0 (space_number-Grown old new g space p.0 p.1)

  pub has_space_kept : (space : Option (List ℕ)) → HasSpace old space → HasSpace new space
  has_space_kept None h = tt
  has_space_kept (Some space) h = space_kept space h

  pub space_alike : (space : Option (List ℕ)) → HasSpace old space → space_in new space ≡ space_in old space
  space_alike None h = refl
  space_alike (Some space) h =
      let p = number_there (space_number old space) h in
      else_number (space_number new space) absent_space p.0 (space_number-Grown old new g space p.0 p.1) ∙ sym (else_number (space_number old space) absent_space p.0 p.1)

  number_kept : (name : Expanded) (h : HasName old name) → (n : ℕ) × (name_number old (space_in old name.namespace) name.local ≡ Some n) × (name_number new (space_in new name.namespace) name.local ≡ Some n)
  number_kept name h =
      let p = number_there (name_number old (space_in old name.namespace) name.local) h.number in
      (p.0, p.1, ap (λ s. name_number new s name.local) (space_alike name.namespace h.space) ∙ name_number-Grown old new g (space_in old name.namespace) name.local p.0 p.1)

  pub has_name_kept : (name : Expanded) → HasName old name → HasName new name
  has_name_kept name h = record {
    space = has_space_kept name.namespace h.space;
    number = (let p = number_kept name h in there_by _ p.0 p.2);
  }

  pub name_alike : (name : Expanded) → HasName old name → name_in new name ≡ name_in old name
  name_alike name h =
      let p = number_kept name h in
      else_number (name_number new (space_in new name.namespace) name.local) 0 p.0 p.2 ∙ sym (else_number (name_number old (space_in old name.namespace) name.local) 0 p.0 p.1)

pub name_within : (t : NameTable) (name : Expanded) → HasName t name → name_in t name < length t.names
name_within t name h =
    let p = number_there (name_number t (space_in t name.namespace) name.local) h.number in
    subst (λ n. n < length t.names) (sym (else_number (name_number t (space_in t name.namespace) name.local) 0 p.0 p.1))
    (within-name_number t (space_in t name.namespace) name.local p.0 p.1)

-- a name that was put into a table has its number
pub has_namespace : (t : NameTable) (space : Option (List ℕ)) → HasSpace (with_namespace t space) space
has_namespace t None = tt
has_namespace t (Some space) = space_put t space

-- the namespaces are those of before where a name is put
pub space_same : (t : NameTable) (space : ℕ) (local : List ℕ) (o : Option (List ℕ)) → space_in (with_name t space local) o ≡ space_in t o
space_same t space local None = refl
space_same t space local (Some name) = refl

has_same : (t : NameTable) (space : ℕ) (local : List ℕ) (o : Option (List ℕ)) → HasSpace t o → HasSpace (with_name t space local) o
has_same t space local None h = tt
has_same t space local (Some name) h = h

has_local : (t : NameTable) (name : Expanded) → HasSpace t name.namespace → HasName (with_local t name) name
has_local t name h = record {
  space = has_same t (space_in t name.namespace) name.local name.namespace h;
  number =
      subst (λ s. IsSome (name_number (with_local t name) s name.local)) (sym (space_same t (space_in t name.namespace) name.local name.namespace))
      (name_put t (space_in t name.namespace) name.local);
}

pub has_expanded : (t : NameTable) (name : Expanded) → HasName (with_expanded t name) name
has_expanded t name = has_local (with_namespace t name.namespace) name (has_namespace t name.namespace)

-- the number that a name was given in a table
pub number_is : (t u : NameTable) (name : Expanded) (space n : ℕ) (local : List ℕ) → space ≡ space_in t name.namespace → u ≡ with_name t space local → local ≡ name.local
    → name_number u space local ≡ Some n → n ≡ name_in u name
number_is t u name space n local here is same e =
    let there : space_in u name.namespace ≡ space = ap (λ v. space_in v name.namespace) is ∙ space_same t space local name.namespace ∙ sym here in
    sym (else_number (name_number u (space_in u name.namespace) name.local) 0 n (ap (λ s. name_number u s name.local) there ∙ ap (name_number u space) (sym same) ∙ e))
