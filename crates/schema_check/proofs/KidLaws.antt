-- The children of an element but for annotations, each by its number and its name.
use Rattle.std.proofs.Common.{◌≡◌, ℕ, Bool, true, false, not, ◌||◌, cond, List, [], ◌∷◌, map, filter, All, if◌then◌else◌, refl, sym, ap, ◌∙◌, true≢false}
use Rattle.std.specs.List.{list_any}
use Rattle.std.proofs.lemmas.Bool.{or_parts}
use Rattle.std.proofs.lemmas.List.Elements.{All-nil, All-cons}
use Rattle.tree_rows.specs.Forest.{Forest, none, text, element}
use Rattle.schema_values.specs.GrammarNames.{tag_of}
use Rattle.schema_values.specs.Table.{is_in}
use Rattle.schema_values.specs.declared.grammar_kinds.Class.TheVariants as c
use Rattle.schema_values.specs.declared.grammar_kinds.Tag.{Tag}
use Rattle.schema_values.specs.declared.grammar_kinds.Tag.TheVariants as tags
use Rattle.schema_faults.specs.Children.{child_tags}
use Rattle.schema_shape.specs.Shapes.{member_numbers}
use Rattle.schema_check.proofs.TagLaws.{is_complex_tag, is_member_tag}

abbrev pub Kid : Type 0
Kid = ℕ × Tag

abbrev pub kids : Forest → List Kid
kids none = []
kids (text number chars next) = kids next
kids (element number name bindings attributes children next) = if is_in c.Annotation (tag_of name) then kids next else (number, tag_of name) ∷ kids next

abbrev pub number_of : Kid → ℕ
number_of kid = kid.0

abbrev pub name_of : Kid → Tag
name_of kid = kid.1

pub numbers-are : (f : Forest) → member_numbers f ≡ map number_of (kids f)
numbers-are none = refl
numbers-are (text number chars next) = numbers-are next
numbers-are (element number name bindings attributes children next) = by (is_in c.Annotation (tag_of name)) (numbers-are next)
  where
    by : (b : Bool) → member_numbers next ≡ map number_of (kids next) → (if b then member_numbers next else number ∷ member_numbers next) ≡ map number_of (if b then kids next else (number, tag_of name) ∷ kids next)
    by true rest = rest
    by false rest = ap (λ (ns : List ℕ). number ∷ ns) rest

pub names-are : (f : Forest) → filter is_member_tag (child_tags f) ≡ map name_of (kids f)
names-are none = refl
names-are (text number chars next) = names-are next
names-are (element number name bindings attributes children next) = by (is_in c.Annotation (tag_of name)) (names-are next)
  where
    by : (b : Bool) → filter is_member_tag (child_tags next) ≡ map name_of (kids next) → cond (not b) (tag_of name ∷ filter is_member_tag (child_tags next)) (filter is_member_tag (child_tags next))
        ≡ map name_of (if b then kids next else (number, tag_of name) ∷ kids next)
    by true rest = rest
    by false rest = ap (λ (ts : List Tag). tag_of name ∷ ts) rest

abbrev pub IsPlainKid : Kid → Type 0
IsPlainKid kid = is_complex_tag kid.1 ≡ false

pub kids-plain : (f : Forest) → list_any is_complex_tag (child_tags f) ≡ false → All IsPlainKid (kids f)
kids-plain none never = All-nil IsPlainKid
kids-plain (text number chars next) never = kids-plain next never
kids-plain (element number name bindings attributes children next) never = by (is_in c.Annotation (tag_of name)) (kids-plain next)
  where
    parts : (is_complex_tag (tag_of name) ≡ false) × (list_any is_complex_tag (child_tags next) ≡ false)
    parts = or_parts (is_complex_tag (tag_of name)) (list_any is_complex_tag (child_tags next)) never

    by : (b : Bool) → (list_any is_complex_tag (child_tags next) ≡ false → All IsPlainKid (kids next)) → All IsPlainKid (if b then kids next else (number, tag_of name) ∷ kids next)
    by true rest = rest parts.1
    by false rest = All-cons IsPlainKid (number, tag_of name) (kids next) parts.0 (rest parts.1)

apart : (tag : Tag) → is_in c.Annotation tag ≡ true → is_in c.SimpleType tag ≡ false
apart tags.SimpleType is = absurd (true≢false (sym is))
apart _ is = refl

abbrev pub is_simple_kid : Kid → Bool
is_simple_kid kid = is_in c.SimpleType kid.1

-- a simple type among the children is one of these
pub kids-simple : (f : Forest) → list_any (is_in c.SimpleType) (child_tags f) ≡ list_any is_simple_kid (kids f)
kids-simple none = refl
kids-simple (text number chars next) = kids-simple next
kids-simple (element number name bindings attributes children next) = by (is_in c.Annotation (tag_of name)) (apart (tag_of name)) (kids-simple next)
  where
    by : (b : Bool) → (b ≡ true → is_in c.SimpleType (tag_of name) ≡ false) → list_any (is_in c.SimpleType) (child_tags next) ≡ list_any is_simple_kid (kids next)
        → (is_in c.SimpleType (tag_of name) || list_any (is_in c.SimpleType) (child_tags next)) ≡ list_any is_simple_kid (if b then kids next else (number, tag_of name) ∷ kids next)
    by true never rest = ap (λ (b : Bool). b || list_any (is_in c.SimpleType) (child_tags next)) (never refl) ∙ rest
    by false never rest = ap (λ (b : Bool). is_in c.SimpleType (tag_of name) || b) rest
