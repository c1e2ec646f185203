-- The needed names, the least first.
use Rattle.std.proofs.Common.{◌≡◌, ℕ, ◌+◌, ◌-◌, ◌*◌, ◌^◌, ◌<◌, ◌≤◌, true, false, List, [], ◌∷◌, ◌++◌, Option, None, Some, Result, Ok, Err, length, inl, inr, refl, sym, ap, ◌∙◌, subst, arith, append_assoc, append-nil}
use Rattle.std.specs.Prelude.{IfSome, OnOk}
use Rattle.std.specs.Option.{IsSomeAnd}
use Rattle.std.proofs.lemmas.Bool.{cases_lt}
use Rattle.std.proofs.Math.Nat.{pow-suc}
use Rattle.std.proofs.lemmas.Nat.{pow_pos}
use Rattle.attr_uses.specs.declared.entry.Entry.{Entry}
use Rattle.attr_uses.specs.declared.entry.NeededUse.{NeededUse}
use Rattle.attr_uses.specs.declared.node.Node.{Node}
use Rattle.attr_uses.specs.declared.node.Node.TheVariants.{Empty, Leaf, Fork}
use Rattle.attr_uses.specs.Nodes.{node_left, node_right, node_at, node_sum, node_entry, find, IsMap, IsNoFork, AreNodes}
use Rattle.attr_uses.specs.Maps.{MapNodes, IsMapOf, is_needed, NoneNeeded, AreNeeded, ArePut}
use Rattle.attr_uses.proofs.CallLaws.{one-less, none-needed, halves, half-lower, half-upper}

-- entries that are alike for these names
pub needed-alike : (one other : ℕ → Option Entry) (from bound : ℕ) (xs : List NeededUse) → ((name : ℕ) → from ≤ name → name < bound → one name ≡ other name) → AreNeeded one from bound xs → AreNeeded other from bound xs
needed-alike one other from bound [] same are = λ name a b. ap is_needed (sym (same name a b)) ∙ are name a b
needed-alike one other from bound (x ∷ xs) same are =
    let is = are.0 in
    let up = is.behind in
    let low = is.within in (
      record {
        behind = up;
        within = low;
        needed = subst (λ (o : Option Entry). IsSomeAnd o (λ entry. (entry.needed ≡ true) × (entry.first ≡ x.at))) (same x.name up low) is.needed;
        none = λ name a b. ap is_needed (sym (same name a (omega (arith, b, low)))) ∙ is.none name a b;
      },
      needed-alike one other (x.name + 1) bound xs (λ name a b. same name (omega (arith, a, up)) b) are.1,
    )

-- those behind names of which none is needed
needed-later : (entries : ℕ → Option Entry) (from middle bound : ℕ) (xs : List NeededUse) → from ≤ middle → NoneNeeded entries from middle → AreNeeded entries middle bound xs → AreNeeded entries from bound xs
needed-later entries from middle bound [] up none are = λ name a b. elim (cases_lt name middle) [ inl l ↦ none name a l | inr g ↦ are name g b ]
needed-later entries from middle bound (x ∷ xs) up none are =
    let is = are.0 in (
      record {
        behind = omega (arith, up, is.behind);
        within = is.within;
        needed = is.needed;
        none = λ name a b. elim (cases_lt name middle) [ inl l ↦ none name a l | inr g ↦ is.none name g b ];
      },
      are.1,
    )

-- those of two parts, one behind the other
pub needed-both : (entries : ℕ → Option Entry) (from middle bound : ℕ) (xs ys : List NeededUse) → from ≤ middle → middle ≤ bound → AreNeeded entries from middle xs → AreNeeded entries middle bound ys →
    AreNeeded entries from bound (xs ++ ys)
needed-both entries from middle bound [] ys up low one two = needed-later entries from middle bound ys up one two
needed-both entries from middle bound (x ∷ xs) ys up low one two =
    let is = one.0 in
    let before = is.within in (
      record { behind = is.behind; within = omega (arith, before, low); needed = is.needed; none = is.none },
      needed-both entries (x.name + 1) middle bound xs ys (omega (arith, before)) low one.1 two,
    )

-- of a part without a needed name
pub none-put : (ns : List Node) (are : AreNodes ns) (levels at from : ℕ) (here : at < length ns) (shape : IsMap ns levels at) (old : List NeededUse) → (node_sum (node_at ns at)).needed ≡ false →
    ArePut (find ns levels at) levels from old old
none-put ns are levels at from here shape old e =
    ([], sym (append-nil old), λ name a b. none-needed ns are levels at 0 here shape e (name - from) (omega arith) (omega (arith, a, b)))

-- of one name
entry-needed : (node : Node) → IsNoFork node → (node_sum node).needed ≡ true → IfSome (node_entry node) (λ entry. entry.needed ≡ true)
entry-needed Empty is e = tt
entry-needed (Leaf entry) is e = e
entry-needed (Fork left right sum) is e = absurd is

pub leaf-needed : (ns : List Node) (levels at : ℕ) → levels ≡ 0 → IsMap ns levels at → (node_sum (node_at ns at)).needed ≡ true → IfSome (node_entry (node_at ns at)) (λ entry. entry.needed ≡ true)
leaf-needed ns levels at last shape e = entry-needed (node_at ns at) (subst (λ l. IsMap ns l at) last shape) e

pub nothing-put : (name : ℕ) (old : List NeededUse) → ArePut (λ key. None) 0 name old old
nothing-put name old = ([], sym (append-nil old), λ other a b. refl)

abbrev pub by_entry : ℕ → Entry → NeededUse
by_entry name entry = record { name = name; at = entry.first }

pub one-put : (entry : Entry) (name : ℕ) (old new : List NeededUse) → entry.needed ≡ true → new ≡ old ++ by_entry name entry ∷ [] → ArePut (λ key. Some entry) 0 name old new
one-put entry name old new is e = (
  by_entry name entry ∷ [],
  e,
  (record { behind = omega arith; within = omega arith; needed = (is, refl); none = λ other a b. absurd (omega (arith, a, b)) }, λ other a b. absurd (omega (arith, a, b))),
)

pub leaf-put : (ns : List Node) (levels at from : ℕ) (entry : Option Entry) (old new : List NeededUse) → levels ≡ 0 → entry ≡ node_entry (node_at ns at) → ArePut (λ key. entry) 0 from old new → ArePut (find ns levels at) levels from old new
leaf-put ns levels at from entry old new last is put =
    subst (λ l. ArePut (find ns l at) l from old new) (sym last) (subst (λ (o : Option Entry). ArePut (λ key. o) 0 from old new) is put)

-- a power of 2 is twice the next less
pub twice : (levels : ℕ) → 0 < levels → 2 ^ levels ≡ 2 ^ (levels - 1) * 2
twice levels pos = ap (λ k. 2 ^ k) (one-less levels pos) ∙ pow-suc 2 (levels - 1)

-- the numbers of both parts are there, and fit
module _ (levels from half : ℕ) (pos : 0 < levels) (is : half ≡ 2 ^ (levels - 1)) (within : from + 2 ^ levels ≤ 2 ^ 32) where
  wide : 2 ^ levels ≡ half * 2
  wide = twice levels pos ∙ ap (λ h. h * 2) (sym is)

  pub lower-within : from + 2 ^ (levels - 1) ≤ 2 ^ 32
  lower-within = omega (arith, within, wide, is)

  pub upper-within : from + half + 2 ^ (levels - 1) ≤ 2 ^ 32
  upper-within = omega (arith, within, wide, is)

  pub upper-start : from + half < 2 ^ 32
  upper-start = omega (arith, within, wide, is, pow_pos (levels - 1))

module _ (ns : List Node) (are : AreNodes ns) (levels at : ℕ) (here : at < length ns) (shape : IsMap ns levels at) (pos : 0 < levels) (left right : ℕ)
    (left_is : left ≡ node_left (node_at ns at)) (right_is : right ≡ node_right (node_at ns at)) where
  pub left-there : left < length ns
  left-there = subst (λ n. n < length ns) (sym left_is) (are.each at here).left

  pub right-there : right < length ns
  right-there = subst (λ n. n < length ns) (sym right_is) (are.each at here).right

  pub left-map : IsMap ns (levels - 1) left
  left-map = subst (IsMap ns (levels - 1)) (sym left_is) (halves ns levels at pos shape).1

  pub right-map : IsMap ns (levels - 1) right
  right-map = subst (IsMap ns (levels - 1)) (sym right_is) (halves ns levels at pos shape).2

-- of both parts of a fork
pub fork-put : (ns : List Node) (levels at from : ℕ) (old middle new : List NeededUse) → 0 < levels → IsMap ns levels at →
    ArePut (find ns (levels - 1) (node_left (node_at ns at))) (levels - 1) from old middle →
    ArePut (find ns (levels - 1) (node_right (node_at ns at))) (levels - 1) (from + 2 ^ (levels - 1)) middle new → ArePut (find ns levels at) levels from old new
fork-put ns levels at from old middle new pos shape lower upper =
    let half = 2 ^ (levels - 1) in
    let wide = twice levels pos in
    let whole = λ (name : ℕ). find ns levels at (name - from) in
    let left = needed-alike (λ name. find ns (levels - 1) (node_left (node_at ns at)) (name - from)) whole from (from + half) lower.0
    (λ name a b. sym (half-lower ns levels at pos shape (name - from) (omega (arith, a, b)))) lower.2 in
    let right = needed-alike (λ name. find ns (levels - 1) (node_right (node_at ns at)) (name - (from + half))) whole (from + half) (from + half + half) upper.0
    (λ name a b. (let less : name - (from + half) ≡ name - from - half = omega (arith, a) in
    ap (find ns (levels - 1) (node_right (node_at ns at))) less ∙ sym (half-upper ns levels at pos shape (name - from) (omega (arith, a))))) upper.2 in
    let all : AreNeeded whole from (from + half + half) (lower.0 ++ upper.0) = needed-both whole from (from + half) (from + half + half) lower.0 upper.0 (omega arith) (omega arith) left right in
    let end : from + half + half ≡ from + 2 ^ levels = omega (arith, wide) in (
      lower.0 ++ upper.0,
      upper.1 ∙ (ap (λ xs. xs ++ upper.0) lower.1 ∙ append_assoc old lower.0 upper.0),
      subst (λ bound. AreNeeded whole from bound (lower.0 ++ upper.0)) end all,
    )

-- the same, where the part was put or memory was wanting
pub fork-if : {E : Type 0} (r : Result Unit E) (ns : List Node) (levels at from left right start : ℕ) (old middle new : List NeededUse) → 0 < levels → IsMap ns levels at → left ≡ node_left (node_at ns at) →
    right ≡ node_right (node_at ns at) → start ≡ from + 2 ^ (levels - 1) → ArePut (find ns (levels - 1) left) (levels - 1) from old middle →
    OnOk r (ArePut (find ns (levels - 1) right) (levels - 1) start middle new) → OnOk r (ArePut (find ns levels at) levels from old new)
fork-if (Ok x) ns levels at from left right start old middle new pos shape l r' s lower upper =
    fork-put ns levels at from old middle new pos shape (subst (λ n. ArePut (find ns (levels - 1) n) (levels - 1) from old middle) l lower)
    (subst (λ f. ArePut (find ns (levels - 1) (node_right (node_at ns at))) (levels - 1) f middle new) s
    (subst (λ n. ArePut (find ns (levels - 1) n) (levels - 1) start middle new) r' upper))
fork-if (Err e) ns levels at from left right start old middle new pos shape l r' s lower upper = tt

-- those of a whole map
pub whole-needed : (maps : MapNodes) (top : ℕ) (has : ℕ → Option Entry) → IsMapOf maps top has → (old new : List NeededUse) → old ≡ [] → ArePut (find maps.nodes maps.depth top) maps.depth 0 old new →
    AreNeeded has 0 (2 ^ maps.depth) new
whole-needed maps top has is old new none put =
    let all : new ≡ put.0 = put.1 ∙ ap (λ (xs : List NeededUse). xs ++ put.0) none in
    subst (AreNeeded has 0 (2 ^ maps.depth)) (sym all)
    (needed-alike (λ name. find maps.nodes maps.depth top (name - 0)) has 0 (2 ^ maps.depth) put.0
    (λ name a b. (let same : name - 0 ≡ name = omega arith in ap (find maps.nodes maps.depth top) same ∙ is.finds name b))
    (subst (λ bound. AreNeeded (λ name. find maps.nodes maps.depth top (name - 0)) 0 bound put.0) (omega arith) put.2))
