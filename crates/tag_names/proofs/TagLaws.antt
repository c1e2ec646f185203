-- The bindings and the attributes among the lines of a tag.
use Rattle.std.proofs.Common.{◌≡◌, ℕ, List, [], ◌∷◌, ◌++◌, drop, Bool, true, false, ◌||◌, Some, None, refl, ap, ◌∙◌, append_assoc, append-nil}
use Rattle.std.specs.Prelude.{if◌then◌else◌}
use Rattle.std.specs.List.{list_any}
use Rattle.tree_rows.specs.declared.row.Attribute.{Attribute}
use Rattle.tree_rows.specs.declared.row.Binding.{Binding}
use Rattle.tag_names.specs.Tags.{is_binding, bound_prefix, attributes_in, attribute_name, prefix_of}
use Rattle.tag_names.specs.Faults.{is_no_qname, is_unbound, line_is_unbound}
use Rattle.tag_names.specs.Resolving.{is_bad, element_resolved, attribute_resolved, end_of, judged_element, judged_attribute, with_attribute, with_binding, lines_with}
use Rattle.tag_names.specs.declared.judged.JudgedName.{JudgedName}
use Rattle.tag_names.specs.declared.lines.AttributeLine.{AttributeLine}
use Rattle.tag_names.specs.declared.named.JudgedLines.{JudgedLines}

none_false : (name : List ℕ) (b : Bool) → None ≡ (if b then Some (drop 6 name) else None) → b ≡ false
none_false name true e = cc
none_false name false e = refl

-- a line that binds no prefix is no binding
pub bound-none : (line : AttributeLine) → None ≡ bound_prefix line → is_binding line ≡ false
bound-none line e = none_false line.name (is_binding line) e

some_true : (name p : List ℕ) (b : Bool) → Some p ≡ (if b then Some (drop 6 name) else None) → b ≡ true
some_true name p true e = refl
some_true name p false e = cc

-- a line that binds a prefix is a binding
pub bound-some : (line : AttributeLine) (p : List ℕ) → Some p ≡ bound_prefix line → is_binding line ≡ true
bound-some line p e = some_true line.name p (is_binding line) e

or-assoc : (a b c : Bool) → (a || b) || c ≡ a || (b || c)
or-assoc true b c = refl
or-assoc false b c = refl

or-false : (b : Bool) → b || false ≡ b
or-false true = refl
or-false false = refl

same_lines : (a b : List Attribute) (c d e f : Bool) → a ≡ b → c ≡ d → e ≡ f
    → (let x : JudgedLines = record { attributes = a; bad = c; unbound = e } in let y : JudgedLines = record { attributes = b; bad = d; unbound = f } in x ≡ y)
same_lines a b c d e f p q r = cc

-- an attribute line more
pub lines-more : (scope : List Binding) (old now : JudgedLines) (line : AttributeLine) (judged : JudgedName) → None ≡ bound_prefix line
    → now ≡ with_attribute old judged line.value → judged ≡ judged_attribute scope line.name
    → (more : List AttributeLine) → lines_with scope now more ≡ lines_with scope old (line ∷ more)
lines-more scope old now line judged none put is more =
    let no = bound-none line none in
    let a : Attribute = record { name = attribute_name scope line.name; value = line.value } in
    let attributes : (old.attributes ++ a ∷ []) ++ attributes_in scope more ≡ old.attributes ++ attributes_in scope (line ∷ more) =
    append_assoc old.attributes (a ∷ []) (attributes_in scope more) ∙ (rw no refl) in
    let unbound : (old.unbound || is_unbound scope (prefix_of line.name)) || list_any (line_is_unbound scope) more ≡ old.unbound || list_any (line_is_unbound scope) (line ∷ more) =
    or-assoc old.unbound (is_unbound scope (prefix_of line.name)) (list_any (line_is_unbound scope) more) ∙ (rw no refl) in
    ap (λ n. lines_with scope n more) put ∙ ap (λ j. lines_with scope (with_attribute old j line.value) more) is
    ∙ same_lines _ _ _ _ _ _ attributes (or-assoc old.bad (is_no_qname line.name) (list_any is_bad more)) unbound

-- a binding more
pub lines-bound : (scope : List Binding) (old : JudgedLines) (line : AttributeLine) (bad : Bool) (p : List ℕ) → Some p ≡ bound_prefix line → bad ≡ is_no_qname line.name
    → (more : List AttributeLine) → lines_with scope (with_binding old bad) more ≡ lines_with scope old (line ∷ more)
lines-bound scope old line bad p some is more =
    let yes = bound-some line p some in
    let attributes : old.attributes ++ attributes_in scope more ≡ old.attributes ++ attributes_in scope (line ∷ more) = rw yes refl in
    let unbound : old.unbound || list_any (line_is_unbound scope) more ≡ old.unbound || list_any (line_is_unbound scope) (line ∷ more) = rw yes refl in
    same_lines _ _ _ _ _ _ attributes (ap (λ b. (old.bad || b) || list_any is_bad more) is ∙ or-assoc old.bad (is_no_qname line.name) (list_any is_bad more)) unbound

-- no line more
pub lines-end : (scope : List Binding) (lines : JudgedLines) → lines_with scope lines [] ≡ lines
lines-end scope lines = same_lines _ _ _ _ _ _ (append-nil lines.attributes) (or-false lines.bad) (or-false lines.unbound)

-- a name by itself, where nothing is bound before the scope
pub element-end : (own scope : List Binding) (name : List ℕ) (judged : JudgedName) → own ≡ [] → judged ≡ judged_element (own ++ scope) name → end_of judged ≡ element_resolved scope name
element-end own scope name judged none is = ap end_of is ∙ ap (λ o. end_of (judged_element (o ++ scope) name)) none

pub attribute-end : (own scope : List Binding) (name : List ℕ) (judged : JudgedName) → own ≡ [] → judged ≡ judged_attribute (own ++ scope) name → end_of judged ≡ attribute_resolved scope name
attribute-end own scope name judged none is = ap end_of is ∙ ap (λ o. end_of (judged_attribute (o ++ scope) name)) none
