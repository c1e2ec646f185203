-- The trees of parts: they only grow, and each is that of its part over all of them.
use Rattle.std.proofs.Common.{◌≡◌, ℕ, suc, ◌+◌, ◌<◌, ◌≤◌, inl, inr, List, [], ◌∷◌, ◌++◌, Option, None, Some, length, get_or, take, drop, sym, refl, ap, subst, ◌∙◌, arith, length-append}
use Rattle.std.specs.Prelude.{All as Each, IfSome, Result, Ok, Err, IfOk}
use Rattle.std.proofs.lemmas.Bool.{cases_lt}
use Rattle.std.proofs.lemmas.List.{get_or_append_left, get_or_at, get_or_push, get_or_default, take-append-drop, drop_more, length-take-le, length_push}
use Rattle.std.proofs.lemmas.List.Elements.{All-head, All-tail}
use Rattle.particle_models.specs.Trees.{Tree, Trees, group, none, member, joined, no_tree}
use Rattle.particle_models.specs.Parts.{tree_at, members_at, tree_of, trees_from, tree_in, form_in, MembersBelow}
use Rattle.particle_models.specs.Forming.{AreOrdered, Extends, IsPart}
use Rattle.particle_models.specs.declared.part.Part.{Part}
use Rattle.particle_models.specs.declared.part.Part.TheVariants.{Leaf, Group}

abbrev trees_of_all : List Part → List Tree
trees_of_all parts = trees_from [] parts

trees_from-append : (trees : List Tree) (ps qs : List Part) → trees_from trees (ps ++ qs) ≡ trees_from (trees_from trees ps) qs
trees_from-append trees [] qs = refl
trees_from-append trees (p ∷ ps) qs = trees_from-append (trees ++ tree_of trees p ∷ []) ps qs

pub trees_push : (ps : List Part) (p : Part) → trees_of_all (ps ++ p ∷ []) ≡ trees_of_all ps ++ tree_of (trees_of_all ps) p ∷ []
trees_push ps p = trees_from-append [] ps (p ∷ [])

length-trees_from : (trees : List Tree) (ps : List Part) → length (trees_from trees ps) ≡ length trees + length ps
length-trees_from trees [] = omega arith
length-trees_from trees (p ∷ ps) =
    length-trees_from (trees ++ tree_of trees p ∷ []) ps ∙ (let e = length-append trees (tree_of trees p ∷ []) in omega arith)

pub length-trees : (ps : List Part) → length (trees_of_all ps) ≡ length ps
length-trees ps = length-trees_from [] ps ∙ omega arith

-- earlier trees stay
tree_at-trees_from : (trees : List Tree) (ps : List Part) (i : ℕ) → i < length trees → tree_at (trees_from trees ps) i ≡ tree_at trees i
tree_at-trees_from trees [] i l = refl
tree_at-trees_from trees (p ∷ ps) i l =
    tree_at-trees_from (trees ++ tree_of trees p ∷ []) ps i (let e = length-append trees (tree_of trees p ∷ []) in omega arith) ∙
    get_or_append_left trees (tree_of trees p ∷ []) no_tree i l

-- members hang on the trees of their numbers alone
pub members_alike : (ts us : List Tree) (b : ℕ) (ids : List ℕ) → ((i : ℕ) → i < b → tree_at ts i ≡ tree_at us i) → Each (λ id. id < b) ids → members_at ts ids ≡ members_at us ids
members_alike ts us b [] same below = refl
members_alike ts us b (id ∷ ids) same below =
    ap (λ t. member t (members_at ts ids)) (same id (All-head (λ id. id < b) id ids below)) ∙
    ap (λ ms. member (tree_at us id) ms) (members_alike ts us b ids same (All-tail (λ id. id < b) id ids below))

tree_of-alike : (ts us : List Tree) (b : ℕ) (p : Part) → ((i : ℕ) → i < b → tree_at ts i ≡ tree_at us i) → MembersBelow b p → tree_of ts p ≡ tree_of us p
tree_of-alike ts us b (Leaf bounds term) same below = refl
tree_of-alike ts us b (Group bounds compositor members) same below = ap (λ ms. group bounds compositor ms) (members_alike ts us b members same below)

-- the tree of a number is that of its part, over all trees
pub tree_is : (ps : List Part) (i : ℕ) (d : Part) → AreOrdered ps → i < length ps → tree_in ps i ≡ tree_of (trees_of_all ps) (get_or ps i d)
tree_is ps i d ordered l =
    let p : Part = get_or ps i d in
    let split : ps ≡ take i ps ++ p ∷ drop (i + 1) ps = sym (take-append-drop i ps) ∙ ap (λ r. take i ps ++ r) (drop_more ps i d l) in
    let front : List Tree = trees_of_all (take i ps) in
    let grown : trees_of_all ps ≡ trees_from (front ++ tree_of front p ∷ []) (drop (i + 1) ps) =
    ap trees_of_all split ∙ trees_from-append [] (take i ps) (p ∷ drop (i + 1) ps) in
    let long : length front ≡ i = length-trees (take i ps) ∙ length-take-le i ps (omega arith) in
    let longer : length (front ++ tree_of front p ∷ []) ≡ i + 1 = (let e = length-append front (tree_of front p ∷ []) in omega arith) in
    let same : (k : ℕ) → k < i → tree_at front k ≡ tree_at (trees_of_all ps) k = (λ k h.
    sym (ap (λ ts. tree_at ts k) grown ∙ (tree_at-trees_from (front ++ tree_of front p ∷ []) (drop (i + 1) ps) k (omega arith) ∙
    get_or_append_left front (tree_of front p ∷ []) no_tree k (omega arith)))) in
    ap (λ ts. tree_at ts i) grown ∙ (tree_at-trees_from (front ++ tree_of front p ∷ []) (drop (i + 1) ps) i (omega arith) ∙
    (get_or_at front (tree_of front p) [] no_tree i long ∙
    tree_of-alike front (trees_of_all ps) i p same
    (let b = ordered i p l in let e : get_or ps i p ≡ p = get_or_default ps i p d l in rw e at b)))

-- members among trees that stay
pub members_kept : (old new : List Part) (ids : List ℕ) → Extends old new → Each (λ id. id < length old) ids → members_at (trees_of_all new) ids ≡ members_at (trees_of_all old) ids
members_kept old new ids h below = members_alike (trees_of_all new) (trees_of_all old) (length old) ids h.same below

pub members_at-append : (ts : List Tree) (xs ys : List ℕ) → members_at ts (xs ++ ys) ≡ joined (members_at ts xs) (members_at ts ys)
members_at-append ts [] ys = refl
members_at-append ts (x ∷ xs) ys = ap (λ ms. member (tree_at ts x) ms) (members_at-append ts xs ys)

pub joined-assoc : (a b c : Trees) → joined (joined a b) c ≡ joined a (joined b c)
joined-assoc none b c = refl
joined-assoc (member t a) b c = ap (λ ms. member t ms) (joined-assoc a b c)

pub joined-none : (a : Trees) → joined a none ≡ a
joined-none none = refl
joined-none (member t a) = ap (λ ms. member t ms) (joined-none a)

-- ---- one part more
pub extends_none : (a : List Part) → Extends a a
extends_none a = record { ordered = λ o. o; more = omega arith; same = λ k l. refl }

pub extends_then : (a b c : List Part) → Extends a b → Extends b c → Extends a c
extends_then a b c h k = record {
  ordered = λ o. k.ordered (h.ordered o);
  more = (let x = h.more in let y = k.more in omega arith);
  same = λ i l. k.same i (let x = h.more in omega arith) ∙ h.same i l;
}

module _ (old : List Part) (more : Part) where
  abbrev longer_list : List Part
  longer_list = old ++ more ∷ []

  length-new : length longer_list ≡ length old + 1
  length-new = length_push old more

  pushed-tree : tree_in longer_list (length old) ≡ tree_of (trees_of_all old) more
  pushed-tree =
      ap (λ ts. tree_at ts (length old)) (trees_push old more) ∙
      get_or_push (trees_of_all old) (tree_of (trees_of_all old) more) no_tree (length old) (length-trees old)

  pushed-extends : MembersBelow (length old) more → Extends old longer_list
  pushed-extends below = record {
    ordered = ordered;
    more = (let e = length-new in omega arith);
    same = λ k l. ap (λ ts. tree_at ts k) (trees_push old more) ∙
        get_or_append_left (trees_of_all old) (tree_of (trees_of_all old) more ∷ []) no_tree k (let e = length-trees old in omega arith);
  }
    where
      ordered : AreOrdered old → AreOrdered longer_list
      ordered was i d l = elim (cases_lt i (length old)) [
        | inl before ↦ rw (get_or_append_left old (more ∷ []) d i before) (was i d before)
        | inr behind ↦ (let e = length-new in
            let is : length old ≡ i = omega arith in
            rw (get_or_push old more d i is) (subst (λ b. MembersBelow b more) is below))
      ]

  pub pushed : MembersBelow (length old) more → IsPart old longer_list (Some (tree_of (trees_of_all old) more)) (Some (length old))
  pushed below = record {
    extends = pushed-extends below;
    there = (let e = length-new in omega arith);
    is = ap Some pushed-tree;
  }

-- a form stays
pub form_kept : (old new : List Part) (id : Option ℕ) → Extends old new → IfSome id (λ k. k < length old) → form_in new id ≡ form_in old id
form_kept old new None h there = refl
form_kept old new (Some k) h there = ap Some (h.same k there)

pub there_kept : (old new : List Part) (id : Option ℕ) → Extends old new → IfSome id (λ k. k < length old) → IfSome id (λ k. k < length new)
there_kept old new None h there = there
there_kept old new (Some k) h there = let m = h.more in omega arith

-- what holds of every Ok
pub on_ok : {A E : Type 0} (P Q : A → Type 0) (r : Result A E) → ((x : A) → P x → Q x) → IfOk r P → IfOk r Q
on_ok P Q (Ok x) f h = f x h
on_ok P Q (Err e) f h = h
