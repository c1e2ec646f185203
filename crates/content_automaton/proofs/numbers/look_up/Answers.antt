use Rattle.std.proofs.Common.{◌≡◌, ◌≢◌, ℕ, ◌<◌, ◌==◌, Bool, List, [], ◌∷◌, ◌++◌, length, map, refl, ap, subst, ◌∙◌, arith}
use Rattle.std.specs.Prelude.{false, if◌then◌else◌}
use Rattle.std.specs.Cmp.Lexicographic.{pointwise}
use Rattle.std.specs.List.{AllZip, list_any}
use Rattle.std.proofs.lemmas.Slice.Zip.{AllZip-map}
use Rattle.content_automaton.specs.Built.{IsNumbered}
use Rattle.content_automaton.proofs.Numbering.{place_found, none_found, placed_new}
use Rattle.content_automaton.proofs.numbers.look_up.Goals as goal

same_items : (xs ys : List ℕ) → AllZip (λ x y. y ≡ x) xs ys → ys ≡ xs
same_items xs ys h = AllZip-map (λ x. x) xs ys h ∙ as_they_are xs
  where
    as_they_are : (xs : List ℕ) → map (λ x. x) xs ≡ xs
    as_they_are [] = refl
    as_they_are (x ∷ xs) = ap (λ ys. x ∷ ys) (as_they_are xs)

-- a new state has a copy of the set
placed_copy : {X : Type 0} (f : X → List ℕ) (xs : List X) (set : List ℕ) (b : Bool) (x : X) (xs' : List X) → b ≡ list_any (λ y. pointwise (λ a b. a == b) set (f y)) xs → b ≡ false →
    xs' ≡ (if list_any (λ y. pointwise (λ a b. a == b) (f x) (f y)) xs then xs else xs ++ x ∷ []) → f x ≡ set → set ≢ [] → 0 < length xs → length xs < 2048 →
    IsNumbered (map f xs) (map f xs') set (length xs)
placed_copy f xs set b x xs' e n keys same =
    placed_new f xs set b x xs' e n (subst (λ (s : List ℕ). xs' ≡ (if list_any (λ y. pointwise (λ a b. a == b) s (f y)) xs then xs else xs ++ x ∷ [])) same keys) same

pub returns-in-Some-clause-ok : goal.returns-in-Some-clause-ok
returns-in-Some-clause-ok c =
    place_found (λ state. state.items) c.args.states.now.keys c.args.set.now.items c.in-Some.number c.args.set.now c.in-Some.ensures.index c.requires.few c.requires.start
    c.requires.filled

pub returns-then-number-eq-MOST_STATES-clause-too_many : goal.returns-then-number-eq-MOST_STATES-clause-too_many
returns-then-number-eq-MOST_STATES-clause-too_many c =
    none_found (λ state. state.items) c.args.states.now.keys c.args.set.now.items false c.in_default.ensures.found refl
    c.requires.filled

pub returns-clause-ok : goal.returns-clause-ok
returns-clause-ok c =
    let n : c.len-number.result ≡ length c.args.states.now.keys = c.len-number.ensures.len in
    let d : c.len-number.result ≢ 2048 = c.if-number-eq-MOST_STATES.false in
    let f = c.requires.few in
    let same : c.in_ok-clone.field-0.items ≡ c.args.set.now.items = same_items c.args.set.now.items c.in_ok-clone.field-0.items c.in_ok-clone.ensures.cases.0 in
    rw n (placed_copy (λ state. state.items) c.args.states.now.keys c.args.set.now.items false c.in_ok-clone.field-0 c.insert.new.self.keys c.in_default.ensures.found refl
    c.in_ok-insert.ensures.keys same
    c.requires.filled c.requires.some (omega arith))
