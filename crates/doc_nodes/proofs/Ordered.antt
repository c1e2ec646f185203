-- The children of a node, read in order.
use Rattle.std.proofs.Common.{◌≡◌, ℕ, zero, suc, ◌+◌, ◌<◌, ◌≤◌, List, [], ◌∷◌, ◌++◌, length, map, take, get_or, add-one, sym, ap, ◌∙◌, subst, Some, refl, arith}
use Rattle.std.specs.Prelude.{slice_get}
use Rattle.std.proofs.Math.Seq.{take-suc}
use Rattle.std.proofs.lemmas.List.{length-map, get_or-map, take_all}
use Rattle.child_trees.specs.Lists.{Entry, get, IsAt, IsEntryOf}
use Rattle.doc_nodes.specs.declared.firsts.First.{First}
use Rattle.doc_nodes.specs.Firsts.{no_child, first_found}
use Rattle.doc_nodes.specs.Linked.{Orders, numbers, number_of}
use Rattle.doc_nodes.proofs.Placed.{IsItemAt, item-at}

at_place : {A : Type 0} (xs : List A) (k : ℕ) → k < length xs → (x : A) × IsItemAt xs k x
at_place [] k l = absurd (omega (arith, l))
at_place (x ∷ xs) zero l = (x, record { within = l; at = λ d. refl })
at_place (x ∷ xs) (suc k) l = let z = at_place xs k (omega (arith, l)) in (z.0, record { within = l; at = z.1.at })

-- within a list the other value is never read
pub at_default : {A : Type 0} (xs : List A) (k : ℕ) (d e : A) → k < length xs → get_or xs k d ≡ get_or xs k e
at_default [] k d e l = absurd (omega (arith, l))
at_default (x ∷ xs) zero d e l = refl
at_default (x ∷ xs) (suc k) d e l = at_default xs k d e (omega (arith, l))

got_at : {A : Type 0} (xs : List A) (k : ℕ) (x : A) → IsItemAt xs k x → slice_get xs k ≡ Some x
got_at [] k x i = let l = i.within in absurd (omega (arith, l))
got_at (y ∷ ys) zero x i = ap Some (i.at y)
got_at (y ∷ ys) (suc k) x i = let l = i.within in got_at ys k x (record { within = omega (arith, l); at = i.at })

-- the entry of an item that is come to
pub record IsMet (v : Orders) (xs : List (Entry First)) (k item : ℕ) : Type 0 where
  pub entry : Entry First
  pub at : IsItemAt xs k entry
  pub is : IsEntryOf v item entry

pub met : (v : Orders) (q k item : ℕ) (xs : List (Entry First)) (items : List ℕ) → get v q ≡ Some xs → items ≡ map (λ e. e.item) xs → k < length items → item ≡ get_or items k 0 → IsMet v xs k item
met v q k item xs items here are lt is =
    let size : k < length xs = (let a = ap length are in let b = length-map xs (λ (y : Entry First). y.item) in omega (arith, a, b, lt)) in
    let z = at_place xs k size in
    let same : z.0.item ≡ item = sym (is ∙ ap (λ ys. get_or ys k 0) are ∙ get_or-map (λ (y : Entry First). y.item) xs k z.0 0 size ∙ ap (λ (y : Entry First). y.item) (z.1.at z.0)) in
    record {
      entry = z.0;
      at = z.1;
      is = record { list = q; place = k; entries = xs; at = subst (λ j. IsAt v j q k xs) same (item-at v q k xs z.0 here z.1); is = got_at xs k z.0 z.1 };
    }

-- one child more was read
pub one_read : (xs : List (Entry First)) (k c : ℕ) (e : Entry First) (made : List ℕ) → IsItemAt xs k e → made ≡ take k (numbers xs) → c ≡ number_of e → made ++ c ∷ [] ≡ take (k + 1) (numbers xs)
one_read xs k c e made a so is =
    let l = a.within in let size = length-map xs number_of in
    (λ i. so i ++ is i ∷ [])
    ∙ ap (λ n. take k (numbers xs) ++ n ∷ []) (sym (get_or-map number_of xs k e 0 a.within ∙ ap number_of (a.at e)))
    ∙ sym (take-suc (numbers xs) k 0 (omega (arith, l, size)))
    ∙ ap (λ n. take n (numbers xs)) (sym (add-one k))

-- all were
pub all_read : (xs : List (Entry First)) (k : ℕ) (items made : List ℕ) → items ≡ map (λ e. e.item) xs → made ≡ take k (numbers xs) → length items ≤ k → made ≡ numbers xs
all_read xs k items made are so le =
    let a = ap length are in let b = length-map xs (λ (y : Entry First). y.item) in let size = length-map xs number_of in
    so ∙ take_all k (numbers xs) (omega (arith, a, b, size, le))

-- the child of an entry is found alone
pub found_alone : (f : First) (e : Entry First) → f ≡ first_found e.act no_child → f.child ≡ e.act.child
found_alone f e is = ap (λ (x : First). x.child) is
