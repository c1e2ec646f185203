-- Contents are set in the order of types, each as its content is defined.
use Rattle.std.proofs.Common.{◌≡◌, ℕ, suc, ◌+◌, ◌<◌, ◌≤◌, ◌⊎◌, inl, inr, List, [], ◌∷◌, ◌++◌, Bool, true, false, Option, Some, Result, Ok, Err, length, max, take, get_or, slice_get, refl, sym, ap, ◌∙◌, subst, arith}
use Rattle.std.specs.Prelude.{Contains, IfOk, OnOk}
use Rattle.std.proofs.Math.Seq.{take-suc}
use Rattle.std.proofs.lemmas.Option.{slice_get-get_or}
use Rattle.std.proofs.lemmas.List.{get_or_default, get_or-take, length-take-le, length_push, take_all}
use Rattle.xs_components.specs.Table.{with_part}
use Rattle.xs_components.specs.Tables.{Tables}
use Rattle.xs_components.specs.declared.common.Place.{Place}
use Rattle.xs_components.specs.declared.complex.ComplexType.{ComplexType}
use Rattle.xs_components.specs.declared.particle.Particle.{Particle}
use Rattle.xs_components.specs.declared.particle.Term.TheVariants.{Sequence}
use Rattle.type_derivation.specs.Cycles.{IsGrown}
use Rattle.type_derivation.specs.Filled.{with_particle, above, with_sequence, with_alone, IsContent, part_filled, with_content, number_filled, type_filled, all_filled, IsBefore, IsTypeOrder, IsFilled}
use Rattle.type_derivation.specs.Particles.{once, any_elements}
use Rattle.type_derivation.specs.inside.Filling.{IsDone}
use Rattle.type_derivation.proofs.TypeOrderLaws.{never-both}

pub on-ok : {X E : Type 0} {A B : Type 0} (r : Result X E) → (A → B) → OnOk r A → OnOk r B
on-ok (Ok x) to a = to a
on-ok (Err e) to a = a

pub if-ok : {X E : Type 0} (r : Result X E) (P Q : X → Type 0) → ((x : X) → P x → Q x) → IfOk r P → IfOk r Q
if-ok (Ok x) P Q to p = to x p
if-ok (Err e) P Q to p = p

pub sequence-is : (t new : Tables) (at : Place) (first second rank one other : ℕ) (part : Particle) → part ≡ once at (Sequence (first ∷ second ∷ [])) → one ≡ above t first → other ≡ above t second → rank ≡ max one other
    → new ≡ with_particle t part rank → new ≡ with_sequence t at first second
sequence-is t new at first second rank one other part of a b r e =
    e ∙ (ap (λ (p : Particle). with_particle t p rank) of ∙ ap (λ k. with_particle t (once at (Sequence (first ∷ second ∷ []))) k) (r ∙ (ap (λ k. max k other) a ∙ ap (λ k. max (above t first) k) b)))

pub alone-is : (t t1 new : Tables) (at : Place) (any rank : ℕ) (p q : Particle) → any ≡ length t.particles.parts → t1 ≡ record t { particles = with_part t.particles p } → p ≡ any_elements at → rank ≡ above t1 any
    → q ≡ once at (Sequence (any ∷ [])) → new ≡ with_particle t1 q rank → new ≡ with_alone t at (any_elements at)
alone-is t t1 new at any rank p q a e is r of second =
    second ∙ (ap (λ (u : Particle). with_particle t1 u rank) of ∙ (ap (λ k. with_particle t1 (once at (Sequence (any ∷ []))) k) r
    ∙ (ap (λ n. with_particle t1 (once at (Sequence (n ∷ []))) (above t1 n)) a
    ∙ ap (λ (u : Tables). with_particle u (once at (Sequence (length t.particles.parts ∷ []))) (above u (length t.particles.parts))) (e ∙ ap (λ (x : Particle). with_particle t x 0) is))))

pub behind-one : (t t1 : Tables) (p : Particle) (id : ℕ) → t1 ≡ record t { particles = with_part t.particles p } → id ≡ length t1.particles.parts → id ≡ length t.particles.parts + 1
behind-one t t1 p id e is = is ∙ (ap (λ (u : Tables). length u.particles.parts) e ∙ length_push t.particles.parts p)

-- the content of a type that stands there
pub type-is : (a b new : Tables) (n id : ℕ) (content : Option ℕ) → id ≡ n → (part : ComplexType) → slice_get a.complexes.parts n ≡ Some part
    → ((p : ComplexType) → slice_get a.complexes.parts id ≡ Some p → IsContent (part_filled a p) b content) → new ≡ with_content b id content → new ≡ type_filled a n
type-is a b new n id content same part at of is =
    let c = of part (ap (slice_get a.complexes.parts) same ∙ at) in
    is ∙ (ap (λ i. with_content b i content) same ∙ (ap (λ (t : Tables). with_content t n content) c.tables ∙ (ap (with_content (part_filled a part).tables n) c.content ∙ sym (ap (number_filled a n) at))))

-- one type more
all-next : (t : Tables) (xs : List ℕ) (n : ℕ) → all_filled t (xs ++ n ∷ []) ≡ type_filled (all_filled t xs) n
all-next t [] n = refl
all-next t (x ∷ xs) n = all-next (type_filled t x) xs n

pub filled-next : (first now new : Tables) (order : List ℕ) (i : ℕ) → i < length order → now ≡ all_filled first (take i order) → new ≡ type_filled now (get_or order i 0) → new ≡ all_filled first (take (i + 1) order)
filled-next first now new order i within so more =
    let n : i + 1 ≡ suc i = omega arith in
    more ∙ (ap (λ t. type_filled t (get_or order i 0)) so ∙ (sym (all-next first (take i order) (get_or order i 0)) ∙ (sym (ap (all_filled first) (take-suc order i 0 within)) ∙ sym (ap (λ m. all_filled first (take m order)) n))))

pub filled-all : (first new : Tables) (order : List ℕ) (i : ℕ) → length order ≤ i → IsTypeOrder (length first.complexes.parts) first.complexes.ranks order → IsGrown first new → new ≡ all_filled first (take i order) → IsFilled first new
filled-all first new order i long ordered grown e = record { order = order; ordered = ordered; filled = e ∙ ap (all_filled first) (take_all i order long); grown = grown }

-- no type stands before its place
not-before : (count : ℕ) (ranks order : List ℕ) (i : ℕ) → IsTypeOrder count ranks order → i < length order → Contains (take i order) (get_or order i 0) → ⊥
not-before count ranks order i is within c =
    let x = get_or order i 0 in
    let short : c.0 < i = omega (arith, c.1, length-take-le i order (omega (arith, within))) in
    let at : get_or order c.0 0 ≡ x = sym (get_or-take i order c.0 0 short) ∙ (get_or_default (take i order) c.0 0 x c.1 ∙ c.2) in
    let b : IsBefore ranks x x = subst (λ y. IsBefore ranks y x) at (is.rises c.0 i short within) in
    never-both ranks x x b b

-- so the next is not done yet
pub open-next : (count : ℕ) (ranks order : List ℕ) (done : List Bool) (i : ℕ) → IsTypeOrder count ranks order → i < length order → get_or order i 0 < length done
    → ((n : ℕ) → IsDone done n → Contains (take i order) n) → slice_get done (get_or order i 0) ≡ Some false
open-next count ranks order done i is within there only = on (get_or done (get_or order i 0) false) (slice_get-get_or done (get_or order i 0) false there)
  where
    on : (b : Bool) → slice_get done (get_or order i 0) ≡ Some b → slice_get done (get_or order i 0) ≡ Some false
    on true e = absurd (not-before count ranks order i is within (only (get_or order i 0) e))
    on false e = e

contains-next : (order : List ℕ) (i n : ℕ) → i < length order → (n ≡ get_or order i 0) ⊎ Contains (take i order) n → Contains (take (i + 1) order) n
contains-next order i n within (inl e) =
    let long : length (take (i + 1) order) ≡ i + 1 = length-take-le (i + 1) order (omega (arith, within)) in
    (i, omega (arith, long), get_or-take (i + 1) order i n (omega arith) ∙ (get_or_default order i n 0 within ∙ sym e))
contains-next order i n within (inr c) =
    let short : c.0 < i = omega (arith, c.1, length-take-le i order (omega (arith, within))) in
    let long : length (take (i + 1) order) ≡ i + 1 = length-take-le (i + 1) order (omega (arith, within)) in
    (c.0, omega (arith, long, short), get_or-take (i + 1) order c.0 n (omega (arith, short)) ∙ (sym (get_or-take i order c.0 n short) ∙ c.2))

pub only-next : (old new : List Bool) (order : List ℕ) (i : ℕ) → i < length order → ((n : ℕ) → IsDone old n → Contains (take i order) n) → ((n : ℕ) → IsDone new n → (n ≡ get_or order i 0) ⊎ IsDone old n)
    → (n : ℕ) → IsDone new n → Contains (take (i + 1) order) n
only-next old new order i within only more n d = contains-next order i n within (elim (more n d) [ inl e ↦ inl e | inr was ↦ inr (only n was) ])
