-- Symbols of expressions that wait, where more wait.
use Rattle.std.proofs.Common.{◌≡◌, ℕ, zero, suc, ◌+◌, ◌<◌, List, [], ◌∷◌, ◌++◌, length, map, reverse, replicate, All, sym, refl, ap, ◌∙◌, arith, append_assoc, append-nil}
use Rattle.std.specs.List.{flat_map}
use Rattle.std.specs.Prelude.{Result, Ok, Err, OnOk}
use Rattle.std.proofs.lemmas.List.{reverse-append}
use Rattle.std.proofs.lemmas.List.Elements.{All-append, All-cons, All-nil, All-head, All-tail, All-same}
use Rattle.xs_positions.specs.Tree.{Tree, symbols, times}
use Rattle.xs_positions.specs.Walk.{tree_in, trees_in}
use Rattle.xs_positions.specs.Listing.{steps, waiting, steps_of, IsListed}
use Rattle.xs_positions.specs.declared.expr.Node.{Node}
use Rattle.xs_positions.specs.declared.walk.Task.TheVariants.{Visit}
use Rattle.xs_positions.proofs.Tasks.{all_steps}

pub on_ok : {T E : Type 0} (r : Result T E) (P Q : Type 0) → (P → Q) → OnOk r P → OnOk r Q
on_ok (Ok x) P Q f h = f h
on_ok (Err e) P Q f h = h

reverse-more : (xs : List ℕ) (m : ℕ) (ms : List ℕ) → xs ++ reverse (m ∷ ms) ≡ (xs ++ reverse ms) ++ m ∷ []
reverse-more xs m ms = ap (λ l. xs ++ l) (reverse-append (m ∷ []) ms) ∙ sym (append_assoc xs (reverse ms) (m ∷ []))

All-reverse : (P : ℕ → Type 0) (ms : List ℕ) → All P ms → All P (reverse ms)
All-reverse P [] h = h
All-reverse P (m ∷ ms) h =
    All-same P (reverse (m ∷ ms)) (reverse ms ++ m ∷ []) (reverse-append (m ∷ []) ms)
    (All-append P (reverse ms) (m ∷ []) (All-reverse P ms (All-tail P m ms h)) (All-cons P m [] (All-head P m ms h) (All-nil P)))

copies_push : {X : Type 0} (n : ℕ) (x : X) → replicate n x ++ x ∷ [] ≡ x ∷ replicate n x
copies_push zero x = refl
copies_push (suc n) x = ap (λ l. x ∷ l) (copies_push n x)

pub reverse_copies : {X : Type 0} (n : ℕ) (x : X) → reverse (replicate n x) ≡ replicate n x
reverse_copies zero x = refl
reverse_copies (suc n) x = reverse-append (x ∷ []) (replicate n x) ∙ (ap (λ l. l ++ x ∷ []) (reverse_copies n x) ∙ copies_push n x)

map_visits : (n x : ℕ) → map Visit (replicate n x) ≡ replicate n (Visit x)
map_visits zero x = refl
map_visits (suc n) x = ap (λ l. Visit x ∷ l) (map_visits n x)

pub visit_copies : (n k x : ℕ) → n ≡ k → replicate n (Visit x) ≡ reverse (map Visit (replicate k x))
visit_copies n k x e = ap (λ j. replicate j (Visit x)) e ∙ (sym (reverse_copies k (Visit x)) ∙ ap reverse (sym (map_visits k x)))

pub symbols-copies : (n : ℕ) (t : Tree) → flat_map symbols (replicate n t) ≡ times n (symbols t)
symbols-copies zero t = refl
symbols-copies (suc n) t = ap (λ l. symbols t ++ l) (symbols-copies n t)

module _ (ns : List Node) where
  pub waiting_push : (xs : List ℕ) (p : ℕ) → waiting ns (xs ++ p ∷ []) ≡ symbols (tree_in ns p) ++ waiting ns xs
  waiting_push [] p = sym (append-nil (symbols (tree_in ns p)))
  waiting_push (x ∷ xs) p = ap (λ l. l ++ symbols (tree_in ns x)) (waiting_push xs p) ∙ append_assoc (symbols (tree_in ns p)) (waiting ns xs) (symbols (tree_in ns x))

  pub steps_push : (xs : List ℕ) (p : ℕ) → steps_of ns (xs ++ p ∷ []) ≡ steps (tree_in ns p) + steps_of ns xs
  steps_push [] p = refl
  steps_push (x ∷ xs) p = let e = steps_push xs p in omega arith

  waiting_reversed : (xs ms : List ℕ) → waiting ns (xs ++ reverse ms) ≡ flat_map symbols (trees_in ns ms) ++ waiting ns xs
  waiting_reversed xs [] = ap (waiting ns) (append-nil xs)
  waiting_reversed xs (m ∷ ms) =
      ap (waiting ns) (reverse-more xs m ms) ∙ (waiting_push (xs ++ reverse ms) m ∙ (ap (λ l. symbols (tree_in ns m) ++ l) (waiting_reversed xs ms) ∙
      sym (append_assoc (symbols (tree_in ns m)) (flat_map symbols (trees_in ns ms)) (waiting ns xs))))

  steps_reversed : (xs ms : List ℕ) → steps_of ns (xs ++ reverse ms) ≡ all_steps (trees_in ns ms) + steps_of ns xs
  steps_reversed xs [] = ap (steps_of ns) (append-nil xs) ∙ omega arith
  steps_reversed xs (m ∷ ms) = let a = ap (steps_of ns) (reverse-more xs m ms) in let b = steps_push (xs ++ reverse ms) m in let c = steps_reversed xs ms in omega arith

  pub listed_none : (id : ℕ) (old todo : List ℕ) → symbols (tree_in ns id) ≡ [] → 0 < steps (tree_in ns id) → IsListed ns id old old todo todo
  listed_none id old todo none some = record {
    same = sym (ap (λ l. old ++ (l ++ waiting ns todo)) none);
    known = λ h. h;
    less = omega arith;
  }

  pub listed_symbol : (id s : ℕ) (old todo : List ℕ) → symbols (tree_in ns id) ≡ s ∷ [] → 0 < steps (tree_in ns id) → IsListed ns id old (old ++ s ∷ []) todo todo
  listed_symbol id s old todo is some = record {
    same = append_assoc old (s ∷ []) (waiting ns todo) ∙ sym (ap (λ l. old ++ (l ++ waiting ns todo)) is);
    known = λ h. h;
    less = omega arith;
  }

  pub listed_wait : (id : ℕ) (old todo ms : List ℕ) → symbols (tree_in ns id) ≡ flat_map symbols (trees_in ns ms) → all_steps (trees_in ns ms) < steps (tree_in ns id) →
      All (λ p. p < length ns) ms → IsListed ns id old old todo (todo ++ reverse ms)
  listed_wait id old todo ms is less known = record {
    same = ap (λ l. old ++ l) (waiting_reversed todo ms ∙ sym (ap (λ l. l ++ waiting ns todo) is));
    known = λ h. All-append (λ p. p < length ns) todo (reverse ms) h (All-reverse (λ p. p < length ns) ms known);
    less = (let e = steps_reversed todo ms in omega arith);
  }

  pub waiting_none : (listed todo all : List ℕ) → length todo ≡ 0 → listed ++ waiting ns todo ≡ all → listed ≡ all
  waiting_none listed [] all l e = sym (append-nil listed) ∙ e
  waiting_none listed (t ∷ todo) all l e = absurd (omega arith)
