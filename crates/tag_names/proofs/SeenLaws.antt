-- What stands against attribute lines, with one line more.
use Rattle.std.proofs.Common.{◌≡◌, List, [], ◌∷◌, ◌++◌, map, Bool, true, false, not, ◌||◌, ◌&&◌, refl, sym, ap, ◌∙◌}
use Rattle.std.specs.List.{list_any}
use Rattle.std.specs.Option.{option_eq}
use Rattle.std.specs.String.{string_eq}
use Rattle.indexmap.specs.IndexSet.{insert_key}
use Rattle.tree_rows.specs.Naming.{same_name}
use Rattle.tree_rows.specs.declared.name.Expanded.{Expanded}
use Rattle.tree_rows.specs.declared.row.Binding.{Binding}
use Rattle.tag_names.specs.Faults.{is_no_qname, is_unbound, line_is_unbound, repeats_name}
use Rattle.tag_names.specs.Keys.{name_of}
use Rattle.tag_names.specs.Resolving.{is_bad}
use Rattle.tag_names.specs.Seen.{repeats_after, names_from, faults_with}
use Rattle.tag_names.specs.Tags.{is_binding, prefix_of, attribute_name, attributes_in}
use Rattle.tag_names.specs.declared.doubles.NameKey.{NameKey}
use Rattle.tag_names.specs.declared.lines.AttributeLine.{AttributeLine}
use Rattle.tag_names.specs.declared.seen.LineFaults.{LineFaults}
use Rattle.tag_names.specs.declared.seen.SeenLines.{SeenLines}
use Rattle.tag_names.proofs.DoubleLaws.{repeats_behind, repeats-seen, repeats-added, names_agree, start-names, not_true, not_false, or-assoc, or-false}

after-behind : (seen names : List Expanded) → repeats_after seen names ≡ repeats_behind same_name seen names
after-behind seen [] = refl
after-behind seen (name ∷ names) = ap (λ r. list_any (same_name name) seen || r) (after-behind (seen ++ name ∷ []) names)

abbrev key_eq : NameKey → NameKey → Bool
key_eq a b = option_eq string_eq a.namespace b.namespace && string_eq a.local b.local

-- a name that is put to those seen, where it is not among them
pub name-again : (keys grown : List NameKey) (key : NameKey) (name : Expanded) → name_of key ≡ name → (added : Bool) → added ≡ not (list_any (key_eq key) keys)
    → grown ≡ insert_key key_eq keys key → (more : List Expanded) → (not added || repeats_after (map name_of grown) more) ≡ repeats_after (map name_of keys) (name ∷ more)
name-again keys grown key name is true says put more =
    after-behind (map name_of grown) more ∙ ap (λ l. repeats_behind same_name (map name_of l) more) put
    ∙ repeats-added same_name key_eq name_of names_agree keys key name more is (not_true (list_any (key_eq key) keys) (sym says)) ∙ sym (after-behind (map name_of keys) (name ∷ more))
name-again keys grown key name is false says put more =
    sym (after-behind (map name_of keys) (name ∷ more) ∙ repeats-seen same_name key_eq name_of names_agree keys key name more is (not_false (list_any (key_eq key) keys) (sym says)))

pub same_faults : (a b c d e f : Bool) → a ≡ b → c ≡ d → e ≡ f
    → (let x : LineFaults = record { bad = a; unbound = c; double = e } in let y : LineFaults = record { bad = b; unbound = d; double = f } in x ≡ y)
same_faults a b c d e f p q r = cc

-- no line was seen
pub faults-start : (keys : List NameKey) → keys ≡ [] → (scope : List Binding) (lines : List AttributeLine) → repeats_after (map name_of keys) (names_from scope lines) ≡ repeats_name (attributes_in scope lines)
faults-start keys none scope lines = after-behind (map name_of keys) (names_from scope lines) ∙ start-names keys (attributes_in scope lines) none

-- no line is left
pub faults-end : (seen : SeenLines) (scope : List Binding) → seen.faults ≡ faults_with scope seen []
faults-end seen scope =
    sym (same_faults (seen.faults.bad || false) seen.faults.bad (seen.faults.unbound || false) seen.faults.unbound (seen.faults.double || false) seen.faults.double
    (or-false seen.faults.bad) (or-false seen.faults.unbound) (or-false seen.faults.double))

module _ (scope : List Binding) (old new : SeenLines) (line : AttributeLine) (bad : new.faults.bad ≡ (old.faults.bad || is_no_qname line.name)) (more : List AttributeLine) where
  is_worse : new.faults.bad || list_any is_bad more ≡ old.faults.bad || list_any is_bad (line ∷ more)
  is_worse = ap (λ b. b || list_any is_bad more) bad ∙ or-assoc old.faults.bad (is_no_qname line.name) (list_any is_bad more)

  -- a binding more
  pub faults-bound : is_binding line ≡ true → new.faults.unbound ≡ old.faults.unbound → new.faults.double ≡ old.faults.double → map name_of new.names.keys ≡ map name_of old.names.keys
      → faults_with scope new more ≡ faults_with scope old (line ∷ more)
  faults-bound binds unbound double names =
      let prefix : new.faults.unbound || list_any (line_is_unbound scope) more ≡ old.faults.unbound || list_any (line_is_unbound scope) (line ∷ more) =
      ap (λ u. u || list_any (line_is_unbound scope) more) unbound ∙ (rw binds refl) in
      let twice : new.faults.double || repeats_after (map name_of new.names.keys) (names_from scope more) ≡ old.faults.double || repeats_after (map name_of old.names.keys) (names_from scope (line ∷ more)) =
      ap (λ d. d || repeats_after (map name_of new.names.keys) (names_from scope more)) double
      ∙ ap (λ keys. old.faults.double || repeats_after keys (names_from scope more)) names ∙ (rw binds refl) in
      same_faults _ _ _ _ _ _ is_worse prefix twice

  -- an attribute more
  pub faults-named : is_binding line ≡ false → new.faults.unbound ≡ (old.faults.unbound || is_unbound scope (prefix_of line.name))
      → (new.faults.double || repeats_after (map name_of new.names.keys) (names_from scope more)) ≡ (old.faults.double || repeats_after (map name_of old.names.keys) (attribute_name scope line.name ∷ names_from scope more))
      → faults_with scope new more ≡ faults_with scope old (line ∷ more)
  faults-named binds unbound double =
      let prefix : new.faults.unbound || list_any (line_is_unbound scope) more ≡ old.faults.unbound || list_any (line_is_unbound scope) (line ∷ more) =
      ap (λ u. u || list_any (line_is_unbound scope) more) unbound ∙ or-assoc old.faults.unbound (is_unbound scope (prefix_of line.name)) (list_any (line_is_unbound scope) more) ∙ (rw binds refl) in
      same_faults _ _ _ _ _ _ is_worse prefix (double ∙ (rw binds refl))
