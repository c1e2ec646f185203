-- What targets come to, field by field.
use Rattle.std.proofs.Common.{◌≡◌, ◌||◌, Bool, List, [], ◌∷◌, ◌++◌, refl, ◌∙◌, ap, Option, None, Some}
use Rattle.std.specs.List.{list_any}
use Rattle.std.proofs.lemmas.List.Folds.{list_any-append}
use Rattle.std.proofs.Math.Bool.{or-false}
use Rattle.simple_values.specs.declared.key.Key.{Key}
use Rattle.xs_components.specs.Tables.{Tables}
use Rattle.identity_constraints.specs.Targets.{FieldNode, field_key, with_key, key_sequence, is_misused, is_nillable}
use Rattle.path_walk.specs.declared.tuples.TargetOutcome.{TargetOutcome}
use Rattle.path_walk.specs.Outcomes.{outcome_of}
use Rattle.path_walk.specs.inside.Extended.{AreFieldsOf, extended}

with-more : (first last : Option Key) (keys : Option (List Key)) → with_key first (extended keys last) ≡ extended (with_key first keys) last
with-more None None keys = refl
with-more None (Some key) keys = refl
with-more (Some first) None keys = refl
with-more (Some first) (Some key) None = refl
with-more (Some first) (Some key) (Some keys) = refl

alone : (last : Option Key) → with_key last (Some []) ≡ extended (Some []) last
alone None = refl
alone (Some key) = refl

pub sequence_more : (fields : List (List FieldNode)) (nodes : List FieldNode) → key_sequence (fields ++ nodes ∷ []) ≡ extended (key_sequence fields) (field_key nodes)
sequence_more [] nodes = alone (field_key nodes)
sequence_more (first ∷ fields) nodes = ap (with_key (field_key first)) (sequence_more fields nodes) ∙ with-more (field_key first) (field_key nodes) (key_sequence fields)

pub any_more : {A : Type 0} (p : A → Bool) (xs : List A) (x : A) → list_any p (xs ++ x ∷ []) ≡ (list_any p xs || p x)
any_more p xs x = list_any-append p xs (x ∷ []) ∙ ap (λ b. list_any p xs || b) (or-false (p x))

pub outcome_of_fields : (t : Tables) (fields : List (List FieldNode)) (o : TargetOutcome) → AreFieldsOf t fields o
    → outcome_of o ≡ record { tuple = key_sequence fields; misused = list_any (is_misused t) fields; nillable = list_any (list_any (is_nillable t)) fields }
outcome_of_fields t fields o are = λ i. record { tuple = are.tuple_is i; misused = are.misused_is i; nillable = are.nillable_is i }
