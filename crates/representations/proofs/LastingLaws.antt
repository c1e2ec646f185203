-- Values that last as a table grows, and names that stay in it.
use Rattle.std.proofs.Common.{◌≡◌, ℕ, ◌+◌, ◌<◌, List, [], ◌∷◌, ◌++◌, Option, None, Some, length, map, take, drop, get_or, sym, ap, subst, ◌∙◌, arith}
use Rattle.std.specs.Prelude.{IfSome}
use Rattle.std.specs.List.{flat_map}
use Rattle.std.proofs.lemmas.Grind.{flat_map-append}
use Rattle.std.proofs.lemmas.List.{append-nil, map-append, take_more, drop_more}
use Rattle.std.proofs.lemmas.List.Elements.{All-nil, All-cons, All-append, All-weaker}
use Rattle.xs_names.specs.Names.{NameTable, Grown}
use Rattle.xs_names.proofs.GrownLaws.{Grown-trans}
use Rattle.representations.specs.Named.{given_name, AreIn}
use Rattle.representations.specs.Lasting.{IsLasting}

-- names stay in a table that grows
pub in-Grown : (t u : NameTable) (names : List ℕ) → Grown t u → AreIn t names → AreIn u names
in-Grown t u names g = All-weaker (λ n. n < length t.names) (λ n. n < length u.names) (λ n h. omega (arith, g.more_names)) names

pub in-given : (t : NameTable) (name : Option ℕ) → IfSome name (λ n. n < length t.names) → AreIn t (given_name name)
in-given t None h = All-nil (λ n. n < length t.names)
in-given t (Some name) h = All-cons (λ n. n < length t.names) name [] h (All-nil (λ n. n < length t.names))

pub in-append : (t : NameTable) (xs ys : List ℕ) → AreIn t xs → AreIn t ys → AreIn t (xs ++ ys)
in-append t xs ys = All-append (λ n. n < length t.names) xs ys

-- a list of values with one more, made from items of a list
module _ {X A : Type 0} (f : NameTable → X → A) (t u : NameTable) (xs : List X) (i : ℕ) (x : X) (made : List A) (one : A) where
  pub lasting-more : i < length xs → x ≡ get_or xs i x → Grown t u → IsLasting t (λ l. map (f l) (take i xs)) made → IsLasting u (λ l. f l x) one
      → IsLasting u (λ l. map (f l) (take (i + 1) xs)) (made ++ one ∷ [])
  lasting-more b at g is last = λ later h.
      (λ j. is later (Grown-trans t u later g h) j ++ (last later h ∙ ap (f later) at) j ∷ [])
      ∙ sym (ap (map (f later)) (take_more xs i x b) ∙ map-append (f later) (take i xs) (get_or xs i x ∷ []))

pub in-more : {X : Type 0} (names_of : X → List ℕ) (t u : NameTable) (made : List X) (one : X) → Grown t u → AreIn t (flat_map names_of made) → AreIn u (names_of one)
    → AreIn u (flat_map names_of (made ++ one ∷ []))
in-more names_of t u made one g all last =
    subst (AreIn u) (sym (flat_map-append names_of made (one ∷ []) ∙ ap (λ (xs : List ℕ). flat_map names_of made ++ xs) (append-nil (names_of one))))
    (in-append u (flat_map names_of made) (names_of one) (in-Grown t u (flat_map names_of made) g all) last)

-- what comes of the rest of a list, where one item more has been taken
pub table-more : {X S : Type 0} (table : List X → S → S) (one : X → S → S) → ((x : X) (xs : List X) (s : S) → table (x ∷ xs) s ≡ table xs (one x s))
    → (xs : List X) (i : ℕ) (x : X) (s u w : S) → i < length xs → x ≡ get_or xs i x → u ≡ one x s → table (drop i xs) s ≡ w → table (drop (i + 1) xs) u ≡ w
table-more table one step xs i x s u w b at come is =
    ap (table (drop (i + 1) xs)) (come ∙ ap (λ y. one y s) at) ∙ sym (step (get_or xs i x) (drop (i + 1) xs) s) ∙ sym (ap (λ ys. table ys s) (drop_more xs i x b)) ∙ is
