-- Which names the children of an element have, by the grammar of schema documents.
use Rattle.std.proofs.Common.{◌≡◌, ℕ, suc, ◌+◌, Bool, true, false, not, ◌&&◌, ◌||◌, cond, List, [], ◌∷◌, drop, filter, refl, sym, ap, ◌∙◌, true≢false, arith}
use Rattle.std.specs.List.{list_any, prefix_len}
use Rattle.std.proofs.lemmas.Bool.{and_parts, or_parts}
use Rattle.schema_values.specs.Table.{contents, is_in}
use Rattle.schema_values.specs.declared.grammar_kinds.Class.{Class}
use Rattle.schema_values.specs.declared.grammar_kinds.Class.TheVariants as c
use Rattle.schema_values.specs.declared.grammar_kinds.Kind.{Kind}
use Rattle.schema_values.specs.declared.grammar_kinds.Kind.TheVariants as k
use Rattle.schema_values.specs.declared.grammar_kinds.Step.{Step}
use Rattle.schema_values.specs.declared.grammar_kinds.Tag.{Tag}
use Rattle.schema_values.specs.declared.grammar_kinds.Tag.TheVariants as tags
use Rattle.schema_faults.specs.Children.{follows, allows}
use Rattle.schema_faults.specs.ShapeFaults.{has_wrong_children}

abbrev pub is_complex_tag : Tag → Bool
is_complex_tag tags.ComplexType = true
is_complex_tag _ = false

-- the classes with complex types in them
abbrev allows_complex : Class → Bool
allows_complex c.Anything = true
allows_complex c.Top = true
allows_complex c.Redefined = true
allows_complex c.Type = true
allows_complex _ = false

class-plain : (class : Class) → allows_complex class ≡ false → is_in class tags.ComplexType ≡ false
class-plain c.Anything never = absurd (true≢false never)
class-plain c.Top never = absurd (true≢false never)
class-plain c.Redefined never = absurd (true≢false never)
class-plain c.Type never = absurd (true≢false never)
class-plain _ never = refl

tag-plain : (class : Class) (tag : Tag) → allows_complex class ≡ false → is_in class tag ≡ true → is_complex_tag tag ≡ false
tag-plain class tags.ComplexType never is = absurd (true≢false (sym is ∙ class-plain class never))
tag-plain class _ never is = refl

module _ {X : Type 0} (bad test : X → Bool) (free : (x : X) → test x ≡ true → bad x ≡ false) where
  -- a front in which nothing is bad
  prefix-free : (xs : List X) → list_any bad xs ≡ list_any bad (drop (prefix_len test xs) xs)
  prefix-free [] = refl
  prefix-free (x ∷ xs) = by (test x) refl (prefix-free xs)
    where
      by : (b : Bool) → test x ≡ b → list_any bad xs ≡ list_any bad (drop (prefix_len test xs) xs) → list_any bad (x ∷ xs) ≡ list_any bad (drop (cond (test x) (1 + prefix_len test xs) 0) (x ∷ xs))
      by true e rest =
          let one : suc (prefix_len test xs) ≡ 1 + prefix_len test xs = omega arith in
          ap (λ (b : Bool). b || list_any bad xs) (free x e)
          ∙ rest
          ∙ ap (λ (n : ℕ). list_any bad (drop n (x ∷ xs))) one
          ∙ ap (λ (b : Bool). list_any bad (drop (cond b (1 + prefix_len test xs) 0) (x ∷ xs))) (sym e)
      by false e rest = ap (λ (b : Bool). list_any bad (drop (cond b (1 + prefix_len test xs) 0) (x ∷ xs))) (sym e)

abbrev has_complex : List Step → Bool
has_complex steps = list_any (λ (step : Step). allows_complex step.class) steps

steps-plain : (steps : List Step) (tags : List Tag) → has_complex steps ≡ false → follows steps tags ≡ true → list_any is_complex_tag tags ≡ false
steps-plain [] [] never is = refl
steps-plain [] (tag ∷ tags) never is = absurd (true≢false (sym is))
steps-plain (step ∷ steps) tags never is =
    let free = or_parts (allows_complex step.class) (has_complex steps) never in
    let n = prefix_len (is_in step.class) tags in
    let rest = and_parts (allows step n) (follows steps (drop n tags)) is in
    prefix-free is_complex_tag (is_in step.class) (λ tag on. tag-plain step.class tag free.0 on) tags ∙ steps-plain steps (drop n tags) free.1 rest.1

contents-plain : (all : List (List Step)) (tags : List Tag) → list_any has_complex all ≡ false → list_any (λ (steps : List Step). follows steps tags) all ≡ true → list_any is_complex_tag tags ≡ false
contents-plain [] tags never is = absurd (true≢false (sym is))
contents-plain (steps ∷ all) tags never is = by (follows steps tags) refl (contents-plain all tags)
  where
    parts : (has_complex steps ≡ false) × (list_any has_complex all ≡ false)
    parts = or_parts (has_complex steps) (list_any has_complex all) never

    by : (b : Bool) → follows steps tags ≡ b
        → (list_any has_complex all ≡ false → list_any (λ (steps : List Step). follows steps tags) all ≡ true → list_any is_complex_tag tags ≡ false) → list_any is_complex_tag tags ≡ false
    by true e rest = steps-plain steps tags parts.0 e
    by false e rest = rest parts.1 (ap (λ (b : Bool). b || list_any (λ (steps : List Step). follows steps tags) all) (sym e) ∙ is)

-- elements in which complex types may stand, and elements of which nothing is represented
abbrev pub holds_complex : Kind → Bool
holds_complex k.Schema = true
holds_complex k.Include = true
holds_complex k.Import = true
holds_complex k.Redefine = true
holds_complex k.TopElement = true
holds_complex k.LocalElement = true
holds_complex k.Annotation = true
holds_complex k.Notation = true
holds_complex k.Document = true
holds_complex k.NoSchema = true
holds_complex k.Ignored = true
holds_complex _ = false

kind-plain : (kind : Kind) → holds_complex kind ≡ false → list_any has_complex (contents kind) ≡ false
kind-plain k.Schema never = absurd (true≢false never)
kind-plain k.Include never = absurd (true≢false never)
kind-plain k.Import never = absurd (true≢false never)
kind-plain k.Redefine never = absurd (true≢false never)
kind-plain k.TopElement never = absurd (true≢false never)
kind-plain k.LocalElement never = absurd (true≢false never)
kind-plain k.Annotation never = absurd (true≢false never)
kind-plain k.Notation never = absurd (true≢false never)
kind-plain k.Document never = absurd (true≢false never)
kind-plain k.NoSchema never = absurd (true≢false never)
kind-plain k.Ignored never = absurd (true≢false never)
kind-plain _ never = refl

fitting : (b : Bool) → not b ≡ false → b ≡ true
fitting true is = refl
fitting false is = absurd (true≢false is)

-- no child of the others is a complex type
pub tags-plain : (kind : Kind) (tags : List Tag) → holds_complex kind ≡ false → has_wrong_children kind tags ≡ false → list_any is_complex_tag tags ≡ false
tags-plain kind tags never right =
    contents-plain (contents kind) tags (kind-plain kind never) (fitting (list_any (λ (steps : List Step). follows steps tags) (contents kind)) right)

-- all but annotations
abbrev pub is_member_tag : Tag → Bool
is_member_tag tag = not (is_in c.Annotation tag)

skipped : (tags : List Tag) → filter is_member_tag tags ≡ filter is_member_tag (drop (prefix_len (is_in c.Annotation) tags) tags)
skipped [] = refl
skipped (tag ∷ tags) = by (is_in c.Annotation tag) refl (skipped tags)
  where
    by : (b : Bool) → is_in c.Annotation tag ≡ b → filter is_member_tag tags ≡ filter is_member_tag (drop (prefix_len (is_in c.Annotation) tags) tags)
        → filter is_member_tag (tag ∷ tags) ≡ filter is_member_tag (drop (cond (is_in c.Annotation tag) (1 + prefix_len (is_in c.Annotation) tags) 0) (tag ∷ tags))
    by true e rest =
        let one : suc (prefix_len (is_in c.Annotation) tags) ≡ 1 + prefix_len (is_in c.Annotation) tags = omega arith in
        ap (λ (b : Bool). cond (not b) (tag ∷ filter is_member_tag tags) (filter is_member_tag tags)) e
        ∙ rest
        ∙ ap (λ (m : ℕ). filter is_member_tag (drop m (tag ∷ tags))) one
        ∙ ap (λ (b : Bool). filter is_member_tag (drop (cond b (1 + prefix_len (is_in c.Annotation) tags) 0) (tag ∷ tags))) (sym e)
    by false e rest = ap (λ (b : Bool). filter is_member_tag (drop (cond b (1 + prefix_len (is_in c.Annotation) tags) 0) (tag ∷ tags))) (sym e)

-- one of a class, which stands there once
abbrev once : Class → Step
once class = record { class = class; required = true; repeats = false }

abbrev pub annotated : Class → List Step
annotated class = record { class = c.Annotation; required = false; repeats = false } ∷ once class ∷ []

-- the first child but for annotations
module _ (class : Class) (apart : (tag : Tag) → is_in class tag ≡ true → is_in c.Annotation tag ≡ false) where
  abbrev pub First : List Tag → Type 0
  First tags = (tag : Tag) × (rest : List Tag) × (filter is_member_tag tags ≡ tag ∷ rest) × (is_in class tag ≡ true)

  first-of : (tags : List Tag) → follows (once class ∷ []) tags ≡ true → First tags
  first-of [] is = absurd (true≢false (sym is))
  first-of (tag ∷ tags) is = by (is_in class tag) refl
    where
      by : (b : Bool) → is_in class tag ≡ b → First (tag ∷ tags)
      by true e = (tag, filter is_member_tag tags, ap (λ (b : Bool). cond (not b) (tag ∷ filter is_member_tag tags) (filter is_member_tag tags)) (apart tag e), e)
      by false e =
          absurd (true≢false (sym is
          ∙ ap (λ (b : Bool).
          allows (once class) (cond b (1 + prefix_len (is_in class) tags) 0) && follows [] (drop (cond b (1 + prefix_len (is_in class) tags) 0) (tag ∷ tags))) e))

  first-tag : (tags : List Tag) → follows (annotated class) tags ≡ true → First tags
  first-tag tags is =
      let n = prefix_len (is_in c.Annotation) tags in
      let rest = and_parts (allows (record { class = c.Annotation; required = false; repeats = false }) n) (follows (once class ∷ []) (drop n tags)) is in
      let first = first-of (drop n tags) rest.1 in
      (first.0, first.1, skipped tags ∙ first.2, first.3)

  or-false : (b : Bool) → (b || false) ≡ true → b ≡ true
  or-false true is = refl
  or-false false is = is

  -- the first child, but for annotations, is of the class
  pub first-child : (kind : Kind) (tags : List Tag) → contents kind ≡ annotated class ∷ [] → has_wrong_children kind tags ≡ false → First tags
  first-child kind tags has right =
      let follows_one = fitting (list_any (λ (steps : List Step). follows steps tags) (contents kind)) right in
      first-tag tags (or-false (follows (annotated class) tags) (sym (ap (λ (all : List (List Step)). list_any (λ (steps : List Step). follows steps tags) all) has) ∙ follows_one))
