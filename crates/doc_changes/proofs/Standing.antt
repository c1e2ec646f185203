-- What stands for siblings, elsewhere and under more names.
use Rattle.std.proofs.Common.{◌≡◌, ℕ, ◌+◌, ◌<◌, ◌≤◌, List, [], ◌∷◌, ◌++◌, length, map, sym, ap, ◌∙◌, Bool, true, false, ◌==◌, ◌||◌, if◌then◌else◌, Some, None, refl, inl, inr, arith, All}
use Rattle.std.specs.Prelude.{slice_index_or}
use Rattle.std.proofs.lemmas.Bool.{or_parts, or_left, or_right, or_from, or_cases, eq-eqb, false≢true, false_from_ne_true, true_from_ne_false}
use Rattle.std.proofs.lemmas.List.{get_or_append_left}
use Rattle.std.proofs.lemmas.List.Elements.{All-head, All-tail}
use Rattle.xs_names.specs.Names.{NameTable, Grown, IsSound, absent_space, space_of, local_of}
use Rattle.std.proofs.lemmas.Option.{slice_get-get_or}
use Rattle.xs_names.proofs.GrownLaws.{space_of-Grown, local_of-Grown}
use Rattle.tree_rows.specs.Forest.{Forest, none, text, element}
use Rattle.tree_rows.specs.Whole.{times}
use Rattle.tree_edits.specs.Edits.{has, append}
use Rattle.doc_nodes.specs.Nodes.{Nodes, node}
use Rattle.doc_changes.specs.Stands.{firsts, StandFor, HasNames, namespace_of, expanded_of, attribute_of, binding_of}
use Rattle.doc_nodes.specs.declared.content.Element.{Element}
use Rattle.doc_nodes.specs.declared.content.NameAttribute.{NameAttribute}
use Rattle.doc_nodes.specs.declared.content.NameBinding.{NameBinding}

pub here : (n : ℕ) (b : Bool) → (n == n || b) ≡ true
here n b = or_left (n == n) b (eq-eqb n n refl)

-- the same nodes stand for the same
pub stand_same : (t : NameTable) (old new : Nodes) (f : Forest) → ((m : ℕ) → has m f ≡ true → node new m ≡ node old m) → StandFor t old f → StandFor t new f
stand_same t old new none h s = tt
stand_same t old new (text number chars next) h s = (
  record { text = s.0.text; is = h number (here number (has number next)) ∙ s.0.is; content = s.0.content; no_children = s.0.no_children },
  stand_same t old new next (λ m k. h m (or_right (number == m) (has m next) k)) s.1,
)
stand_same t old new (element number name bindings attributes children next) h s =
    let e = s.0 in (
      record { it = e.it; is = h number (here number (has number children || has number next)) ∙ e.is; parts = e.parts; content = e.content; known = e.known; name_is = e.name_is; bindings_are = e.bindings_are; attributes_are = e.attributes_are; children_are = e.children_are },
      stand_same t old new children (λ m k. h m (or_right (number == m) (has m children || has m next) (or_left (has m children) (has m next) k))) s.1,
      stand_same t old new next (λ m k. h m (or_right (number == m) (has m children || has m next) (or_right (has m children) (has m next) k))) s.2,
    )

-- siblings one after the other
pub stand_append : (t : NameTable) (ns : Nodes) (f g : Forest) → StandFor t ns f → StandFor t ns g → StandFor t ns (append f g)
stand_append t ns none g s r = r
stand_append t ns (text number chars next) g s r = (s.0, stand_append t ns next g s.1 r)
stand_append t ns (element number name bindings attributes children next) g s r = (s.0, s.1, stand_append t ns next g s.2 r)

pub firsts_append : (f g : Forest) → firsts (append f g) ≡ firsts f ++ firsts g
firsts_append none g = refl
firsts_append (text number chars next) g = ap (λ l. number ∷ l) (firsts_append next g)
firsts_append (element number name bindings attributes children next) g = ap (λ l. number ∷ l) (firsts_append next g)

pub append_assoc_forest : (f g h : Forest) → append (append f g) h ≡ append f (append g h)
append_assoc_forest none g h = refl
append_assoc_forest (text number chars next) g h = ap (text number chars) (append_assoc_forest next g h)
append_assoc_forest (element number name bindings attributes children next) g h = ap (element number name bindings attributes children) (append_assoc_forest next g h)

pub append_none : (f : Forest) → append f none ≡ f
append_none none = refl
append_none (text number chars next) = ap (text number chars) (append_none next)
append_none (element number name bindings attributes children next) = ap (element number name bindings attributes children) (append_none next)

pub has_append : (m : ℕ) (f g : Forest) → has m (append f g) ≡ false → (has m f ≡ false) × (has m g ≡ false)
has_append m none g h = (refl, h)
has_append m (text number chars next) g h =
    let z = or_parts (number == m) (has m (append next g)) h in
    let y = has_append m next g z.1 in
    (or_from (number == m) (has m next) z.0 y.0, y.1)
has_append m (element number name bindings attributes children next) g h =
    let z = or_parts (number == m) (has m children || has m (append next g)) h in
    let x = or_parts (has m children) (has m (append next g)) z.1 in
    let y = has_append m next g x.1 in
    (or_from (number == m) (has m children || has m next) z.0 (or_from (has m children) (has m next) x.0 y.0), y.1)

pub times_append : (m : ℕ) (f g : Forest) → times m (append f g) ≡ times m f + times m g
times_append m none g = omega arith
times_append m (text number chars next) g = let h = times_append m next g in omega (arith, h)
times_append m (element number name bindings attributes children next) g = let h = times_append m next g in omega (arith, h)

pub or_none : (b : Bool) → (b || false) ≡ b
or_none true = refl
or_none false = refl

pub from_both : (m : ℕ) (f g : Forest) → has m f ≡ false → has m g ≡ false → has m (append f g) ≡ false
from_both m none g a b = b
from_both m (text number chars next) g a b =
    let z = or_parts (number == m) (has m next) a in
    or_from (number == m) (has m (append next g)) z.0 (from_both m next g z.1 b)
from_both m (element number name bindings attributes children next) g a b =
    let z = or_parts (number == m) (has m children || has m next) a in
    let y = or_parts (has m children) (has m next) z.1 in
    or_from (number == m) (has m children || has m (append next g)) z.0 (or_from (has m children) (has m (append next g)) y.0 (from_both m next g y.1 b))

pub has_left : (m : ℕ) (f g : Forest) → has m f ≡ true → has m (append f g) ≡ true
has_left m f g h = true_from_ne_false (has m (append f g)) (λ k. false≢true (sym (has_append m f g k).0 ∙ h))

pub has_right : (m : ℕ) (f g : Forest) → has m g ≡ true → has m (append f g) ≡ true
has_right m f g h = true_from_ne_false (has m (append f g)) (λ k. false≢true (sym (has_append m f g k).1 ∙ h))

pub stand_parts : (t : NameTable) (ns : Nodes) (f g : Forest) → StandFor t ns (append f g) → StandFor t ns f × StandFor t ns g
stand_parts t ns none g s = (tt, s)
stand_parts t ns (text number chars next) g s = let z = stand_parts t ns next g s.1 in ((s.0, z.0), z.1)
stand_parts t ns (element number name bindings attributes children next) g s = let z = stand_parts t ns next g s.2 in ((s.0, s.1, z.0), z.1)

pub if_one : (b : Bool) → b ≡ true → ◌≡◌ {A = ℕ} (if b then 1 else 0) 1
if_one b e = ap (λ c. if c then 1 else 0) e

pub has_times : (m : ℕ) (f : Forest) → has m f ≡ true → 1 ≤ times m f
has_times m none h = absurd (false≢true h)
has_times m (text number chars next) h = elim (or_cases (number == m) (has m next) h) [
  | inl e ↦ let one = if_one (number == m) e in omega (arith, one)
  | inr k ↦ let i = has_times m next k in omega (arith, i)
]
has_times m (element number name bindings attributes children next) h = elim (or_cases (number == m) (has m children || has m next) h) [
  | inl e ↦ let one = if_one (number == m) e in omega (arith, one)
  | inr k ↦ elim (or_cases (has m children) (has m next) k) [
    | inl j ↦ let i = has_times m children j in omega (arith, i)
    | inr j ↦ let i = has_times m next j in omega (arith, i)
  ]
]

pub if_none : (b : Bool) → b ≡ false → ◌≡◌ {A = ℕ} (if b then 1 else 0) 0
if_none b e = ap (λ c. if c then 1 else 0) e

pub no_times : (m : ℕ) (f : Forest) → has m f ≡ false → times m f ≡ 0
no_times m none h = refl
no_times m (text number chars next) h =
    let z = or_parts (number == m) (has m next) h in
    let own = if_none (number == m) z.0 in let i = no_times m next z.1 in omega (arith, own, i)
no_times m (element number name bindings attributes children next) h =
    let z = or_parts (number == m) (has m children || has m next) h in
    let y = or_parts (has m children) (has m next) z.1 in
    let own = if_none (number == m) z.0 in let i = no_times m children y.0 in let j = no_times m next y.1 in omega (arith, own, i, j)

pub absent_times : (m : ℕ) (f : Forest) → times m f ≡ 0 → has m f ≡ false
absent_times m f e = false_from_ne_true (has m f) (λ h. let x = has_times m f h in absurd (omega (arith, x, e)))

pub present_times : (m : ℕ) (f : Forest) → 1 ≤ times m f → has m f ≡ true
present_times m f l = true_from_ne_false (has m f) (λ h. let x = no_times m f h in absurd (omega (arith, x, l)))

-- names and namespaces keep their numbers where a table grows
spaces_grown : (t u : NameTable) → Grown t u → (n : ℕ) → n < length t.spaces → slice_index_or u.spaces n [] ≡ slice_index_or t.spaces n []
spaces_grown t u g n l = ap (λ (xs : List (List ℕ)). slice_index_or xs n []) g.spaces.1 ∙ get_or_append_left t.spaces g.spaces.0 [] n l

module _ (t u : NameTable) (g : Grown t u) (sound : IsSound t) where
  space_within : (n : ℕ) → n < length t.names → space_of t n < length t.spaces
  space_within n l = sound.within n (space_of t n) (local_of t n) (slice_get-get_or t.names n (0, []) l)

  pub expanded_grown : (n : ℕ) → n < length t.names → expanded_of u n ≡ expanded_of t n
  expanded_grown n l =
      ap (λ s. record { namespace = namespace_of u s; local = local_of u n }) (space_of-Grown t u g n l)
      ∙ ap (λ s. record { namespace = if space_of t n == absent_space then None else Some s; local = local_of u n }) (spaces_grown t u g (space_of t n) (space_within n l))
      ∙ ap (λ s. record { namespace = namespace_of t (space_of t n); local = s }) (local_of-Grown t u g n l)

  pub attributes_grown : (xs : List NameAttribute) → All (λ a. a.name < length t.names) xs → map (attribute_of u) xs ≡ map (attribute_of t) xs
  attributes_grown [] a = refl
  attributes_grown (x ∷ xs) a = λ i. record { name = expanded_grown x.name (All-head (λ a. a.name < length t.names) x xs a) i; value = x.value } ∷ attributes_grown xs (All-tail (λ a. a.name < length t.names) x xs a) i

  pub bindings_grown : (xs : List NameBinding) → All (λ b. b.namespace < length t.spaces) xs → map (binding_of u) xs ≡ map (binding_of t) xs
  bindings_grown [] a = refl
  bindings_grown (x ∷ xs) a = λ i. record { prefix = x.prefix; namespace = spaces_grown t u g x.namespace (All-head (λ b. b.namespace < length t.spaces) x xs a) i } ∷ bindings_grown xs (All-tail (λ b. b.namespace < length t.spaces) x xs a) i

  pub more_attributes : (xs : List NameAttribute) → All (λ a. a.name < length t.names) xs → All (λ a. a.name < length u.names) xs
  more_attributes xs a = λ k d l. let h = a k d l in let m = g.more_names in omega (arith, h, m)

  pub more_bindings : (xs : List NameBinding) → All (λ b. b.namespace < length t.spaces) xs → All (λ b. b.namespace < length u.spaces) xs
  more_bindings xs a = λ k d l. let h = a k d l in let m = g.more_spaces in omega (arith, h, m)

  pub known_grown : (e : Element) → HasNames t e → HasNames u e
  known_grown e k = record {
    name = (let l = k.name in let m = g.more_names in omega (arith, l, m));
    attributes = more_attributes e.attributes k.attributes;
    bindings = more_bindings e.bindings k.bindings;
  }

  pub stand_grown : (ns : Nodes) (f : Forest) → StandFor t ns f → StandFor u ns f
  stand_grown ns none s = tt
  stand_grown ns (text number chars next) s = (s.0, stand_grown ns next s.1)
  stand_grown ns (element number name bindings attributes children next) s =
      let e = s.0 in (
        record {
          it = e.it;
          is = e.is;
          parts = e.parts;
          content = e.content;
          known = known_grown e.parts e.known;
          name_is = expanded_grown e.parts.name e.known.name ∙ e.name_is;
          bindings_are = bindings_grown e.parts.bindings e.known.bindings ∙ e.bindings_are;
          attributes_are = attributes_grown e.parts.attributes e.known.attributes ∙ e.attributes_are;
          children_are = e.children_are;
        },
        stand_grown ns children s.1,
        stand_grown ns next s.2,
      )
