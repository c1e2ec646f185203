-- Expressions over numbers of classes where further classes come in.
use Rattle.std.proofs.Common.{◌≡◌, ℕ, zero, suc, ◌<◌, ◌≤◌, true, List, [], ◌∷◌, ◌++◌, map, length, get_or, refl, ap, arith}
use Rattle.std.proofs.lemmas.Bool.{and_parts, and_from}
use Rattle.std.specs.List.{list_all}
use Rattle.std.specs.Bool.{IsTrue}
use borrow.Author.Tests.{ltb-true, lt-ltb}
use Rattle.xs_positions.specs.Tree.{Tree, one, empty, chain, nothing, either, repeat, sequence_of, choice_of}
use Rattle.xs_positions.specs.Nodes.{tree_at}
use Rattle.pattern_syntax.specs.Classes.{Class}
use Rattle.pattern_syntax.specs.Regex.{character, repeated, regex_at}
use Rattle.pattern_syntax.specs.Trees.{regex_of, knows}

get_or-front : {X : Type 0} (xs ys : List X) (i : ℕ) (d : X) → i < length xs → get_or (xs ++ ys) i d ≡ get_or xs i d
get_or-front [] ys i d l = absurd (omega arith)
get_or-front (x ∷ xs) ys zero d l = refl
get_or-front (x ∷ xs) ys (suc i) d l = get_or-front xs ys i d (omega arith)

pub knows_more : (n m : ℕ) (tree : Tree) → n ≤ m → IsTrue (knows n tree) → IsTrue (knows m tree)
knows_more n m (one number) l k = lt-ltb number m (let h = ltb-true number n k in omega arith)
knows_more n m empty l k = refl
knows_more n m (chain a b) l k = let h = and_parts (knows n a) (knows n b) k in and_from (knows m a) (knows m b) (knows_more n m a l h.0) (knows_more n m b l h.1)
knows_more n m nothing l k = refl
knows_more n m (either a b) l k = let h = and_parts (knows n a) (knows n b) k in and_from (knows m a) (knows m b) (knows_more n m a l h.0) (knows_more n m b l h.1)
knows_more n m (repeat a least most) l k = knows_more n m a l k

pub all_know_more : (n m : ℕ) (trees : List Tree) → n ≤ m → IsTrue (list_all (knows n) trees) → IsTrue (list_all (knows m) trees)
all_know_more n m [] l k = refl
all_know_more n m (tree ∷ trees) l k =
    let h = and_parts (knows n tree) (list_all (knows n) trees) k in
    and_from (knows m tree) (list_all (knows m) trees) (knows_more n m tree l h.0) (all_know_more n m trees l h.1)

-- a further class changes no expression
pub regex_of-more : (classes more : List Class) (tree : Tree) → IsTrue (knows (length classes) tree) → regex_of (classes ++ more) tree ≡ regex_of classes tree
regex_of-more classes more (one number) k = ap character (get_or-front classes more number [] (ltb-true number (length classes) k))
regex_of-more classes more empty k = refl
regex_of-more classes more (chain a b) k =
    let h = and_parts (knows (length classes) a) (knows (length classes) b) k in
    λ i. chain (regex_of-more classes more a h.0 i) (regex_of-more classes more b h.1 i)
regex_of-more classes more nothing k = refl
regex_of-more classes more (either a b) k =
    let h = and_parts (knows (length classes) a) (knows (length classes) b) k in
    λ i. either (regex_of-more classes more a h.0 i) (regex_of-more classes more b h.1 i)
regex_of-more classes more (repeat a least most) k = λ i. repeated (regex_of-more classes more a k i) least most

pub regexes-more : (classes more : List Class) (trees : List Tree) → IsTrue (list_all (knows (length classes)) trees) → map (regex_of (classes ++ more)) trees ≡ map (regex_of classes) trees
regexes-more classes more [] k = refl
regexes-more classes more (tree ∷ trees) k =
    let h = and_parts (knows (length classes) tree) (list_all (knows (length classes)) trees) k in
    λ i. regex_of-more classes more tree h.0 i ∷ regexes-more classes more trees h.1 i

-- the expression of a number
pub regex_of-tree_at : (classes : List Class) (trees : List Tree) (id : ℕ) → regex_of classes (tree_at trees id) ≡ regex_at (map (regex_of classes) trees) id
regex_of-tree_at classes [] id = refl
regex_of-tree_at classes (tree ∷ trees) zero = refl
regex_of-tree_at classes (tree ∷ trees) (suc id) = regex_of-tree_at classes trees id

pub regex_of-sequence_of : (classes : List Class) (trees : List Tree) (ids : List ℕ) →
    regex_of classes (sequence_of (map (tree_at trees) ids)) ≡ sequence_of (map (regex_at (map (regex_of classes) trees)) ids)
regex_of-sequence_of classes trees [] = refl
regex_of-sequence_of classes trees (id ∷ ids) = λ i. chain (regex_of-tree_at classes trees id i) (regex_of-sequence_of classes trees ids i)

pub regex_of-choice_of : (classes : List Class) (trees : List Tree) (ids : List ℕ) →
    regex_of classes (choice_of (map (tree_at trees) ids)) ≡ choice_of (map (regex_at (map (regex_of classes) trees)) ids)
regex_of-choice_of classes trees [] = refl
regex_of-choice_of classes trees (id ∷ ids) = λ i. either (regex_of-tree_at classes trees id i) (regex_of-choice_of classes trees ids i)

-- the numbers in the tree of a number
pub knows-tree_at : (n : ℕ) (trees : List Tree) (id : ℕ) → IsTrue (list_all (knows n) trees) → IsTrue (knows n (tree_at trees id))
knows-tree_at n [] id k = refl
knows-tree_at n (tree ∷ trees) zero k = (and_parts (knows n tree) (list_all (knows n) trees) k).0
knows-tree_at n (tree ∷ trees) (suc id) k = knows-tree_at n trees id (and_parts (knows n tree) (list_all (knows n) trees) k).1

pub knows-sequence_of : (n : ℕ) (trees : List Tree) (ids : List ℕ) → IsTrue (list_all (knows n) trees) → IsTrue (knows n (sequence_of (map (tree_at trees) ids)))
knows-sequence_of n trees [] k = refl
knows-sequence_of n trees (id ∷ ids) k = and_from (knows n (tree_at trees id)) (knows n (sequence_of (map (tree_at trees) ids))) (knows-tree_at n trees id k) (knows-sequence_of n trees ids k)

pub knows-choice_of : (n : ℕ) (trees : List Tree) (ids : List ℕ) → IsTrue (list_all (knows n) trees) → IsTrue (knows n (choice_of (map (tree_at trees) ids)))
knows-choice_of n trees [] k = refl
knows-choice_of n trees (id ∷ ids) k = and_from (knows n (tree_at trees id)) (knows n (choice_of (map (tree_at trees) ids))) (knows-tree_at n trees id k) (knows-choice_of n trees ids k)

-- one tree more
pub know_one_more : (n : ℕ) (trees : List Tree) (tree : Tree) → IsTrue (list_all (knows n) trees) → IsTrue (knows n tree) → IsTrue (list_all (knows n) (trees ++ tree ∷ []))
know_one_more n [] tree k h = and_from (knows n tree) true h refl
know_one_more n (first ∷ trees) tree k h =
    let p = and_parts (knows n first) (list_all (knows n) trees) k in
    and_from (knows n first) (list_all (knows n) (trees ++ tree ∷ [])) p.0 (know_one_more n trees tree p.1 h)
