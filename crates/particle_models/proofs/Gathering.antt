-- What stands among the members of a group.
use Rattle.std.proofs.Common.{◌≡◌, ℕ, zero, suc, ◌+◌, ◌<◌, ◌≤◌, ◌&&◌, Bool, true, false, List, [], ◌∷◌, ◌++◌, Option, None, Some, map, length, get_or, slice_get, drop, take, sym, refl, ap, ◌∙◌, arith}
use Rattle.std.specs.Prelude.{All as Each, IfSome}
use Rattle.std.proofs.lemmas.Option.{same_Some}
use Rattle.std.proofs.lemmas.List.{drop_all, drop_more, take_more, get_or_default}
use Rattle.std.proofs.lemmas.List.Elements.{All-nil}
use Rattle.particle_models.specs.Trees.{Tree, Trees, leaf, group, none, member, joined, once}
use Rattle.particle_models.specs.Pointless.{is_once, is_pointless_empty, unless_pointless, stands_in, members_by, leaves, term_form}
use Rattle.particle_models.specs.Parts.{tree_at, members_at, tree_of, trees_from, tree_in, form_in, MembersBelow}
use Rattle.particle_models.specs.Forming.{AreOrdered, Extends, IsPart, is_pointless_with, gathered_of}
use Rattle.particle_models.specs.declared.part.Bounds.{Bounds}
use Rattle.particle_models.specs.declared.part.Compositor.{Compositor}
use Rattle.particle_models.specs.declared.part.Compositor.TheVariants.{Choice}
use Rattle.particle_models.specs.declared.part.Part.{Part}
use Rattle.particle_models.specs.declared.part.Part.TheVariants.{Leaf, Group}
use Rattle.particle_models.proofs.GroupGrowing.{tree_is, joined-assoc, joined-none, members_at-append, members_kept, extends_none}

-- ---- a part among the members of a group
module _ (parts : List Part) (id : ℕ) (p : Part) (compositor : Compositor) (ordered : AreOrdered parts) (there : id < length parts) (is : p ≡ get_or parts id p) where
  read : (q : Part) → p ≡ q → tree_in parts id ≡ tree_of (trees_from [] parts) q
  read q e = tree_is parts id p ordered there ∙ ap (tree_of (trees_from [] parts)) (sym is ∙ e)

  pub leaf_stays : (b : Bounds) (t : ℕ) → p ≡ Leaf b t → members_by compositor (Some (tree_in parts id)) ≡ member (tree_in parts id) none
  leaf_stays b t e = rw (read (Leaf b t) e) refl

  module _ (b : Bounds) (k : Compositor) (ms : List ℕ) (e : p ≡ Group b k ms) where
    pub group_stays : (is_once b && stands_in compositor k) ≡ false → members_by compositor (Some (tree_in parts id)) ≡ member (tree_in parts id) none
    group_stays f = rw (read (Group b k ms) e, f) refl

    pub group_goes : is_once b ≡ true → stands_in compositor k ≡ true → members_by compositor (Some (tree_in parts id)) ≡ members_at (trees_from [] parts) ms
    group_goes f h = rw (read (Group b k ms) e, f, h) refl

    pub members_below : Each (λ i. i < length parts) ms
    members_below i d l = let below : MembersBelow id p = rw is (ordered id p there) in let low = (rw e at below) i d l in omega arith

-- ---- the members so far
module _ (trees : List Tree) (form : ℕ → Option Tree) (compositor : Compositor) (members : List ℕ) where
  pub gather_more : (i : ℕ) (old new : Trees) → i < length members → new ≡ joined old (members_by compositor (form (get_or members i 0))) →
      joined old (gathered_of compositor (map form (drop i members))) ≡ gathered_of compositor (map form members) →
      joined new (gathered_of compositor (map form (drop (i + 1) members))) ≡ gathered_of compositor (map form members)
  gather_more i old new l e was =
      ap (λ ts. joined ts (gathered_of compositor (map form (drop (i + 1) members)))) e ∙
      (joined-assoc old (members_by compositor (form (get_or members i 0))) (gathered_of compositor (map form (drop (i + 1) members))) ∙
      (sym (ap (λ ms. joined old (gathered_of compositor (map form ms))) (drop_more members i 0 l)) ∙ was))

  pub gather_done : (i : ℕ) (all : Trees) → length members ≤ i → joined all (gathered_of compositor (map form (drop i members))) ≡ gathered_of compositor (map form members) → all ≡ gathered_of compositor (map form members)
  gather_done i all l was = sym (joined-none all) ∙ (sym (ap (λ ms. joined all (gathered_of compositor (map form ms))) (drop_all i members l)) ∙ was)

-- ---- a group that is pointless by its own members
module _ (parts : List Part) (b : Bounds) (k : Compositor) where
  pub goes : (ms : List ℕ) → is_pointless_with b k (length ms) ≡ true → Each (λ id. id < length parts) ms →
      IsPart parts parts (unless_pointless b k (members_at (trees_from [] parts) ms)) (slice_get ms 0)
  goes [] h below = record { extends = extends_none parts; there = tt; is = rw h refl }
  goes (m ∷ []) h below = record { extends = extends_none parts; there = below 0 0 (omega arith); is = rw h refl }
  goes (m ∷ n ∷ ms) h below = cc

  pub stays : (ms : List ℕ) → is_pointless_with b k (length ms) ≡ false → unless_pointless b k (members_at (trees_from [] parts) ms) ≡ Some (group b k (members_at (trees_from [] parts) ms))
  stays [] h = rw h refl
  stays (m ∷ []) h = rw h refl
  stays (m ∷ n ∷ ms) h = refl

-- ---- terms
pub one_term : (b : Bounds) (ts : List ℕ) → length ts ≡ 1 → term_form b ts ≡ Some (leaf b (get_or ts 0 0))
one_term b [] e = absurd (omega arith)
one_term b (t ∷ []) e = refl
one_term b (t ∷ u ∷ ts) e = absurd (omega arith)

pub more_terms : (b : Bounds) (ts : List ℕ) → (length ts ≡ 1 → ⊥) → term_form b ts ≡ unless_pointless b Choice (leaves ts)
more_terms b [] e = refl
more_terms b (t ∷ []) e = absurd (e refl)
more_terms b (t ∷ u ∷ ts) e = refl

pub leaves_push : (ts : List ℕ) (t : ℕ) → leaves (ts ++ t ∷ []) ≡ joined (leaves ts) (member (leaf once t) none)
leaves_push [] t = refl
leaves_push (u ∷ ts) t = ap (λ ms. member (leaf once u) ms) (leaves_push ts t)

pub leaves_more : (old new : List Part) (ms ts : List ℕ) (i id : ℕ) → i < length ts → IsPart old new (Some (leaf once (get_or ts i 0))) (Some id) → Each (λ k. k < length old) ms →
    members_at (trees_from [] old) ms ≡ leaves (take i ts) → members_at (trees_from [] new) (ms ++ id ∷ []) ≡ leaves (take (i + 1) ts)
leaves_more old new ms ts i id l is below was =
    members_at-append (trees_from [] new) ms (id ∷ []) ∙
    (ap (λ a. joined a (member (tree_in new id) none)) (members_kept old new ms is.extends below ∙ was) ∙
    (ap (λ t. joined (leaves (take i ts)) (member t none)) (same_Some (tree_in new id) (leaf once (get_or ts i 0)) is.is) ∙
    sym (ap leaves (take_more ts i 0 l) ∙ leaves_push (take i ts) (get_or ts i 0))))
