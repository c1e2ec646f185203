-- What undoes a change is what undoes the edit that it is of.
use Rattle.std.proofs.Common.{◌≡◌, ℕ, length, true, refl, sym, ◌∙◌, subst}
use Rattle.xs_names.specs.Names.{NameTable}
use Rattle.tree_rows.specs.Forest.{Forest, none, text, element, Document}
use Rattle.tree_rows.specs.declared.name.Expanded.{Expanded}
use Rattle.tag_names.specs.Scopes.{first_scope}
use Rattle.tree_building.specs.Building.{block}
use Rattle.tree_edits.specs.Edits.{found, renumbered, scope_in, can_be_made}
use Rattle.tree_edits.specs.Tests.{attributes_of}
use Rattle.tree_edits.specs.declared.edit.Edit.{Edit}
use Rattle.tree_edits.specs.declared.edit.Edit.TheVariants as edits
use Rattle.tree_edits.specs.Inverses.{IsOne}
use Rattle.tree_edits.specs.Inverses as law
use Rattle.tree_edits.specs.EditChanges.{change_of}
use Rattle.tree_edits.specs.Sites.{first_number, node_of, name_of, chars_of, place_of, value_of}
use Rattle.tree_edits.proofs.Undone.{edit_fits}
use Rattle.doc_nodes.specs.Nodes.{Nodes}
use Rattle.doc_changes.specs.Stands.{StandsFor, expanded_of}
use Rattle.doc_edits.specs.Changes.{IsPrepared, changed}
use Rattle.doc_edits.specs.declared.change.Change.{Change}
use Rattle.doc_edits.specs.declared.change.Change.TheVariants as changes
use Rattle.doc_tree.specs.Changes.{Means}
use Rattle.doc_tree.specs.declared.change.Change as numbered
use Rattle.doc_tree.specs.declared.change.Change.TheVariants as numbers

-- an attribute gets the value that it has, at its place
abbrev pub written_again : Document → ℕ → Expanded → law.Change
written_again d key name = law.write key name (place_of name (attributes_of (found key 1 d.forest))) (value_of name (attributes_of (found key 1 d.forest)))

-- this undoes the change
abbrev pub Undoes : NameTable → Nodes → Document → Change → numbered.Change → Type 0
Undoes u ns d (changes.Insert parent index part) back = back ≡ numbers.Take (length ns)
Undoes u ns d (changes.AddText parent index chars) back = back ≡ numbers.Take (length ns)
Undoes u ns d (changes.SetText key chars) back = Means u back (law.reword key (chars_of (node_of key d.forest)))
Undoes u ns d (changes.Remove key) back = Means u back (law.inverse_of d (law.take_out key))
Undoes u ns d (changes.Rename key name) back = Means u back (law.rename key (name_of (node_of key d.forest)))
Undoes u ns d (changes.SetAttr key name value) back = Means u back (written_again d key (expanded_of u name))
Undoes u ns d (changes.UnsetAttr key name) back = Means u back (written_again d key (expanded_of u name))

-- nodes get numbers from a first one on
first_given : (free : ℕ) (f : Forest) → IsOne (renumbered free f) → free ≡ first_number (renumbered free f)
first_given free none one = absurd one
first_given free (text n chars next) one = refl
first_given free (element n name bindings attributes children next) one = refl

module _ (t u : NameTable) (ns : Nodes) (d : Document) (z : StandsFor u ns d) where
  taken : (back : numbered.Change) (key : ℕ) → back ≡ numbers.Take (length ns) → d.next_free ≡ key → Means u back (law.take_out key)
  taken back key is same = subst (λ (x : numbered.Change). Means u x (law.take_out key)) (sym is) (z.next ∙ same)

  pub undoes-edit : (edit : Edit) (change : Change) (back : numbered.Change) → can_be_made edit ≡ true → IsPrepared t u ns d edit change → Undoes u ns d change back → Means u back (law.inverse_of d (change_of d edit))
  undoes-edit (edits.Insert parent index its) change back can prepared undoes =
      let part = renumbered d.next_free (block (scope_in parent first_scope d.forest) its) in
      let fits = edit_fits d (changed u d change) (edits.Insert parent index its) can z.tree prepared.makes in
      taken back (first_number part) (subst (λ (x : Change). Undoes u ns d x back) prepared.is_of.1 undoes) (first_given d.next_free (block (scope_in parent first_scope d.forest) its) fits.one)
  undoes-edit (edits.AddText parent index chars) change back can prepared undoes =
      taken back d.next_free (subst (λ (x : Change). Undoes u ns d x back) prepared.is_of undoes) refl
  undoes-edit (edits.SetText key chars) change back can prepared undoes = subst (λ (x : Change). Undoes u ns d x back) prepared.is_of undoes
  undoes-edit (edits.Remove key) change back can prepared undoes = subst (λ (x : Change). Undoes u ns d x back) prepared.is_of undoes
  undoes-edit (edits.Rename key name) change back can prepared undoes = subst (λ (x : Change). Undoes u ns d x back) prepared.is_of.1 undoes
  undoes-edit (edits.SetAttr key name value) change back can prepared undoes =
      subst (λ (x : Expanded). Means u back (written_again d key x)) (prepared.called prepared.is_of.0 prepared.is_of.1) (subst (λ (x : Change). Undoes u ns d x back) prepared.is_of.1 undoes)
  undoes-edit (edits.UnsetAttr key name) change back can prepared undoes =
      subst (λ (x : Expanded). Means u back (written_again d key x)) (prepared.called prepared.is_of.0 prepared.is_of.1) (subst (λ (x : Change). Undoes u ns d x back) prepared.is_of.1 undoes)
