-- The expressions of a `Terms` with one more.
use Rattle.std.proofs.Common.{◌≡◌, ℕ, get_or, length-append, List, [], ◌∷◌, ◌++◌, map, length, ap, refl, sym, ◌∙◌, ◌+◌, arith}
use Rattle.std.proofs.lemmas.List.{map-append, length-map}
use Rattle.std.proofs.lemmas.Bool.{lt-ltb}
use Rattle.std.specs.List.{list_all}
use Rattle.std.specs.Bool.{IsTrue}
use Rattle.std.specs.Prelude.{Result, Ok, Err, OnOk, OnErr}
use Rattle.xs_positions.specs.Tree.{Tree, one}
use Rattle.pattern_syntax.specs.Classes.{Class, class_of}
use Rattle.pattern_syntax.specs.declared.class.CharClass.{CharClass}
use Rattle.pattern_syntax.specs.Regex.{Regex, character}
use Rattle.pattern_syntax.specs.Trees.{regex_of, knows}
use Rattle.pattern_syntax.proofs.TreeLaws.{regexes-more, know_one_more}

-- a tree that stands for this expression came in
pub one_more : (classes : List Class) (old new : List Tree) (tree : Tree) (r : Regex) →
    new ≡ old ++ tree ∷ [] → regex_of classes tree ≡ r → map (regex_of classes) new ≡ map (regex_of classes) old ++ r ∷ []
one_more classes old new tree r e s =
    ap (map (regex_of classes)) e ∙ (map-append (regex_of classes) old (tree ∷ []) ∙ ap (λ x. map (regex_of classes) old ++ x ∷ []) s)

-- so it did where a class came in before
pub one_more_of_class : (classes : List Class) (class : Class) (old new : List Tree) (tree : Tree) (r : Regex) →
    IsTrue (list_all (knows (length classes)) old) → new ≡ old ++ tree ∷ [] → regex_of (classes ++ class ∷ []) tree ≡ r →
    map (regex_of (classes ++ class ∷ [])) new ≡ map (regex_of classes) old ++ r ∷ []
one_more_of_class classes class old new tree r k e s =
    one_more (classes ++ class ∷ []) old new tree r e s ∙ ap (λ rs. rs ++ r ∷ []) (regexes-more classes (class ∷ []) old k)

-- what holds of either outcome holds
pub either_way : {T E : Type 0} (r : Result T E) (P Q R : Type 0) → OnOk r P → OnErr r Q → (P → R) → (Q → R) → R
either_way (Ok x) P Q R p q f g = f p
either_way (Err x) P Q R p q f g = g q

pub on_ok : {T E : Type 0} (r : Result T E) (P Q : Type 0) → (P → Q) → OnOk r P → OnOk r Q
on_ok (Ok x) P Q f p = f p
on_ok (Err x) P Q f p = tt

pub on_err : {T E : Type 0} (r : Result T E) (P Q : Type 0) → (P → Q) → OnErr r P → OnErr r Q
on_err (Ok x) P Q f p = tt
on_err (Err x) P Q f p = f p

pub know_new : (n : ℕ) (old new : List Tree) (tree : Tree) → IsTrue (list_all (knows n) old) → IsTrue (knows n tree) → new ≡ old ++ tree ∷ [] → IsTrue (list_all (knows n) new)
know_new n old new tree k h e = rw e (know_one_more n old tree k h)

pub know_same : (n : ℕ) (old new : List Tree) → IsTrue (list_all (knows n) old) → new ≡ old → IsTrue (list_all (knows n) new)
know_same n old new k e = rw e k

get_or-last : {X : Type 0} (xs : List X) (x d : X) → get_or (xs ++ x ∷ []) (length xs) d ≡ x
get_or-last [] x d = refl
get_or-last (y ∷ xs) x d = get_or-last xs x d

classes_pushed : (items items' : List CharClass) (class : CharClass) → items' ≡ items ++ class ∷ [] → map class_of items' ≡ map class_of items ++ class_of class ∷ []
classes_pushed items items' class e = ap (map class_of) e ∙ map-append class_of items (class ∷ [])

known_of_classes : (items : List CharClass) (old : List Tree) → IsTrue (list_all (knows (length items)) old) → IsTrue (list_all (knows (length (map class_of items))) old)
known_of_classes items old k = rw (length-map items class_of) k

the_class : (items : List CharClass) (class : CharClass) (number : ℕ) → number ≡ length items → regex_of (map class_of items ++ class_of class ∷ []) (one number) ≡ character (class_of class)
the_class items class number e =
    ap (λ n. regex_of (map class_of items ++ class_of class ∷ []) (one n)) (e ∙ sym (length-map items class_of)) ∙
    ap character (get_or-last (map class_of items) (class_of class) [])

-- a class came in, and a tree for it
pub class_came : (items items' : List CharClass) (class : CharClass) (old new : List Tree) (number : ℕ) →
    items' ≡ items ++ class ∷ [] → number ≡ length items → IsTrue (list_all (knows (length items)) old) → new ≡ old ++ one number ∷ [] →
    map (regex_of (map class_of items')) new ≡ map (regex_of (map class_of items)) old ++ character (class_of class) ∷ []
class_came items items' class old new number e n k h =
    ap (λ cs. map (regex_of cs) new) (classes_pushed items items' class e) ∙
    one_more_of_class (map class_of items) (class_of class) old new (one number) (character (class_of class)) (known_of_classes items old k) h (the_class items class number n)

-- a class came in, and no tree
pub class_alone : (items items' : List CharClass) (class : CharClass) (old new : List Tree) →
    items' ≡ items ++ class ∷ [] → IsTrue (list_all (knows (length items)) old) → new ≡ old →
    map (regex_of (map class_of items')) new ≡ map (regex_of (map class_of items)) old
class_alone items items' class old new e k h =
    ap (λ cs. map (regex_of cs) new) (classes_pushed items items' class e) ∙
    (ap (map (regex_of (map class_of items ++ class_of class ∷ []))) h ∙
    regexes-more (map class_of items) (class_of class ∷ []) old (known_of_classes items old k))

pub longer : (items items' : List CharClass) (class : CharClass) → items' ≡ items ++ class ∷ [] → length items' ≡ length items + 1
longer items items' class e = rw e (length-append items (class ∷ []))

pub knows_last : (n number : ℕ) → n ≡ number + 1 → IsTrue (knows n (one number))
knows_last n number e = lt-ltb number n (omega arith)
