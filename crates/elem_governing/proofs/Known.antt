-- Names and namespaces that stand in a table.
use Rattle.std.proofs.Common.{◌≡◌, ℕ, ◌<◌, Bool, true, false, List, [], ◌∷◌, Option, Some, None, length, bytes_eq, refl, sym, ap, subst, ◌∙◌}
use Rattle.std.specs.Prelude.{IsSome, is_some, unwrap_or}
use Rattle.std.proofs.lemmas.Slice.Eq.{bytes_eq-Decides}
use Rattle.xs_names.specs.Names.{NameTable, absent_space, space_number, name_number, with_space}
use Rattle.xs_names.proofs.NumberingLaws.{with_item-old}
use Rattle.tree_rows.specs.declared.name.Expanded.{Expanded}
use Rattle.assess_records.specs.Numbered.{space_in, name_in}
use Rattle.plain_tree.proofs.Numbers.{number_there, else_number}

-- a table stays where a namespace of it is put
pub space_stays : (t : NameTable) (space : List ℕ) → IsSome (space_number t space) → with_space t space ≡ t
space_stays t space h =
    let p = number_there (space_number t space) h in
    ap (λ spaces. record t { spaces = spaces }) (with_item-old bytes_eq bytes_eq-Decides t.spaces space p.0 p.1)

-- the number that a search gave
pub space_by : (t u : NameTable) (space : List ℕ) (n : ℕ) → IsSome (space_number t space) → u ≡ with_space t space → space_number u space ≡ Some n → n ≡ space_in t (Some space)
space_by t u space n h e number =
    sym (else_number (space_number t space) absent_space n (ap (λ v. space_number v space) (sym (e ∙ space_stays t space h)) ∙ number))

pub name_by : (t u : NameTable) (name : Expanded) (space n : ℕ) (local : List ℕ) → u ≡ t → space ≡ space_in t name.namespace → local ≡ name.local → name_number u space local ≡ Some n → n ≡ name_in t name
name_by t u name space n local same s l e =
    sym (else_number (name_number t (space_in t name.namespace) name.local) 0 n
    (ap (λ k. name_number t k name.local) (sym s) ∙ ap (name_number t space) (sym l) ∙ ap (λ v. name_number v space local) (sym same) ∙ e))
