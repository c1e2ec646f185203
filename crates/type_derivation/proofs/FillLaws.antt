-- Contents of types are set one by one.
use Rattle.std.proofs.Common.{◌≡◌, ◌≢◌, ℕ, zero, suc, ◌+◌, ◌<◌, ◌≤◌, ◌⊎◌, inl, inr, List, [], ◌∷◌, Bool, true, false, Option, None, Some, length, length-set, replicate, set, take, get_or, slice_get, slice_index, refl, sym, ap, ◌∙◌, subst, arith}
use Rattle.std.specs.Prelude.{All, Contains, IfSome}
use Rattle.std.proofs.lemmas.Bool.{cases_eq, cases_lt, true≢false}
use Rattle.std.proofs.lemmas.Option.{none-some, same_Some, slice_get-get_or, slice_get_within, get_or_from_slice_get}
use Rattle.std.proofs.lemmas.List.{take_all, get_or_default, get_or-take, length-take-le, length-replicate, get_or-replicate}
use Rattle.std.proofs.lemmas.List.Elements.{All-get_or, All-contains, All-more, All-weaker}
use Rattle.xs_components.specs.Tables.{Tables}
use Rattle.xs_components.specs.declared.common.TypeId.{TypeId}
use Rattle.xs_components.specs.declared.common.TypeId.TheVariants.{AnyType, Builtin, Simple, Complex}
use Rattle.xs_components.specs.declared.complex.ComplexType.{ComplexType}
use Rattle.component_references.specs.Order.{IsOrder}
use Rattle.component_references.specs.Heights.{first_height, IsLower}
use Rattle.component_references.specs.Ranked.{IsRanked}
use Rattle.component_references.specs.References.{effective_of, IsPart, Each}
use Rattle.component_references.specs.inside.Parts.{AreTypesRanked}
use Rattle.component_references.proofs.RankLaws.{types-kept}
use Rattle.type_derivation.specs.Particles.{IsContentOf, IsContentAt, AreContentsSet}
use Rattle.type_derivation.specs.Cycles.{IsGrown}
use Rattle.type_derivation.specs.inside.Filling.{Adds, IsDone, IsBaseDone, IsFilling, Sets}
use Rattle.type_derivation.proofs.GrowLaws.{has-particles, longer, part-kept, contents-same, complexes-same, IsSameAt, content-kept, HasParticles}

get-set : {X : Type 0} (xs : List X) (n : ℕ) (x : X) → n < length xs → slice_get (set xs n x) n ≡ Some x
get-set [] n x h = absurd (omega arith)
get-set (a ∷ as') zero x h = refl
get-set (a ∷ as') (suc n) x h = get-set as' n x (omega arith)

get-other : {X : Type 0} (xs : List X) (n m : ℕ) (x : X) → m ≢ n → slice_get (set xs n x) m ≡ slice_get xs m
get-other [] n m x other = refl
get-other (a ∷ as') zero zero x other = absurd (other refl)
get-other (a ∷ as') zero (suc m) x other = refl
get-other (a ∷ as') (suc n) zero x other = refl
get-other (a ∷ as') (suc n) (suc m) x other = get-other as' n m x (λ e. other (ap suc e))

-- a content is written where there was none
pub sets-some : (t : Tables) (n p : ℕ) → slice_get t.contents n ≡ Some None → Sets t (record t { contents = set t.contents n (Some p) }) n (Some p)
sets-some t n p none = record {
  contents = set t.contents n (Some p);
  tables = refl;
  here = get-set t.contents n (Some p) (slice_get_within t.contents n None none);
  others = λ m other. get-other t.contents n m (Some p) other;
}

pub sets-none : (t : Tables) (n : ℕ) → slice_get t.contents n ≡ Some None → Sets t t n None
sets-none t n none = record { contents = t.contents; tables = refl; here = none; others = λ m other. refl }

pub done-here : (done : List Bool) (n : ℕ) → n < length done → IsDone (set done n true) n
done-here done n h = get-set done n true h

pub done-kept : (done : List Bool) (n m : ℕ) → n < length done → IsDone done m → IsDone (set done n true) m
done-kept done n m h is = elim (cases_eq m n) [ inl same ↦ subst (IsDone (set done n true)) (sym same) (done-here done n h) | inr other ↦ get-other done n m true other ∙ is ]

pub done-only : (done : List Bool) (n m : ℕ) → IsDone (set done n true) m → (m ≡ n) ⊎ IsDone done m
done-only done n m is = elim (cases_eq m n) [ inl same ↦ inl same | inr other ↦ inr (sym (get-other done n m true other) ∙ is) ]

pub none-done : (count n : ℕ) → IsDone (replicate count false) n → ⊥
none-done count n is =
    let h = slice_get_within (replicate count false) n true is in
    let e : true ≡ false = sym (get_or_from_slice_get (replicate count false) n true false is) ∙ get_or-replicate count n false false (omega (arith, h, length-replicate count false)) in
    true≢false e

base-done-kept : (done : List Bool) (n : ℕ) (base : TypeId) → n < length done → IsBaseDone done base → IsBaseDone (set done n true) base
base-done-kept done n AnyType h is = tt
base-done-kept done n (Builtin kind) h is = tt
base-done-kept done n (Simple id) h is = tt
base-done-kept done n (Complex id) h is = done-kept done n id h is

-- contents are nothing that ranks speak of
pub ranked-with : (t : Tables) (cs : List (Option ℕ)) → IsRanked t → IsRanked (record t { contents = cs })
ranked-with t cs ranked = record {
  simples = types.simples;
  complexes = types.complexes;
  elements = ranked.elements;
  groups = ranked.groups;
  attr_groups = ranked.attr_groups;
  particles = ranked.particles;
  to_groups = ranked.to_groups;
}
  where
    types : AreTypesRanked (record t { contents = cs })
    types = types-kept t (record t { contents = cs }) refl refl (record { simples = ranked.simples; complexes = ranked.complexes })

-- one type more has its content
module _ (a b : Tables) (done : List Bool) (n : ℕ) (part : ComplexType) (content : Option ℕ) (cs : List (Option ℕ)) (filling : IsFilling a done)
    (is : slice_get a.complexes.parts n ≡ Some part) (new : slice_get done n ≡ Some false) (base : IsBaseDone done part.base) (adds : Adds a b content)
    (of : IsContentOf b part.by_extension part.at part.base part.content content)
    (here : slice_get cs n ≡ Some content) (others : (m : ℕ) → m ≢ n → slice_get cs m ≡ slice_get b.contents m) where
  abbrev after : Tables
  after = record b { contents = cs }

  within : n < length done
  within = slice_get_within done n false new

  not-done : (m : ℕ) → IsDone done m → m ≢ n
  not-done m is_done e = true≢false (same_Some true false (sym is_done ∙ ap (slice_get done) e ∙ new))

  same-parts : (m : ℕ) → slice_get after.complexes.parts m ≡ slice_get a.complexes.parts m
  same-parts m = ap (λ t. slice_get t.parts m) (complexes-same a b adds.more)

  from-b : HasParticles b after
  from-b id p e = e

  from-a : HasParticles a after
  from-a = has-particles a b adds.more

  base-of-b : (x : TypeId) → IsBaseDone done x → IsSameAt b after from-b x
  base-of-b AnyType d = tt
  base-of-b (Builtin kind) d = tt
  base-of-b (Simple id) d = tt
  base-of-b (Complex id) d = others id (not-done id d)

  base-of-a : (x : TypeId) → IsBaseDone done x → IsSameAt a after from-a x
  base-of-a AnyType d = tt
  base-of-a (Builtin kind) d = tt
  base-of-a (Simple id) d = tt
  base-of-a (Complex id) d = others id (not-done id d) ∙ ap (λ l. slice_get l id) (contents-same a b adds.more)

  same-part : (p : ComplexType) → slice_get a.complexes.parts n ≡ Some p → part ≡ p
  same-part p e = same_Some part p (sym is ∙ e)

  right : (m : ℕ) (p : ComplexType) → slice_get a.complexes.parts m ≡ Some p → IsDone (set done n true) m → IsContentAt after m p
  right m p e d = elim (cases_eq m n) [
    | inl same ↦ (let at : slice_get a.complexes.parts n ≡ Some p = ap (slice_get a.complexes.parts) (sym same) ∙ e in
        let r : IsContentOf after part.by_extension part.at part.base part.content content = content-kept b after from-b part.by_extension part.at part.base part.content content (base-of-b part.base base) of in
        (content, ap (slice_get cs) same ∙ here, subst (λ (q : ComplexType). IsContentOf after q.by_extension q.at q.base q.content content) (same-part p at) r))
    | inr other ↦ (let was : IsDone done m = sym (get-other done n m true other) ∙ d in
        let old = filling.right m p e was in (
          old.0,
          others m other ∙ ap (λ l. slice_get l m) (contents-same a b adds.more) ∙ old.1,
          content-kept a after from-a p.by_extension p.at p.base p.content old.0 (base-of-a p.base (filling.based m p e was)) old.2,
        ))
  ]

  based : (m : ℕ) (p : ComplexType) → slice_get a.complexes.parts m ≡ Some p → IsDone (set done n true) m → IsBaseDone (set done n true) p.base
  based m p e d = elim (cases_eq m n) [
    | inl same ↦ (let at : slice_get a.complexes.parts n ≡ Some p = ap (slice_get a.complexes.parts) (sym same) ∙ e in
        subst (λ (q : ComplexType). IsBaseDone (set done n true) q.base) (same-part p at) (base-done-kept done n part.base within base))
    | inr other ↦ base-done-kept done n p.base within (filling.based m p e (sym (get-other done n m true other) ∙ d))
  ]

  none : (m : ℕ) → slice_get (set done n true) m ≡ Some false → slice_get cs m ≡ Some None
  none m d = elim (cases_eq m n) [
    | inl same ↦ absurd (true≢false (same_Some true false (sym (done-here done n within) ∙ ap (slice_get (set done n true)) (sym same) ∙ d)))
    | inr other ↦ others m other ∙ ap (λ l. slice_get l m) (contents-same a b adds.more) ∙ filling.none m (sym (get-other done n m true other) ∙ d)
  ]

  there : (m p : ℕ) → slice_get cs m ≡ Some (Some p) → p < length b.particles.parts
  there m p e = elim (cases_eq m n) [
    | inl same ↦ (let c : content ≡ Some p = same_Some content (Some p) (sym here ∙ ap (slice_get cs) (sym same) ∙ e) in subst (λ o. IfSome o (IsPart b.particles)) c adds.there)
    | inr other ↦ (let h = filling.there m p (ap (λ l. slice_get l m) (sym (contents-same a b adds.more)) ∙ sym (others m other) ∙ e) in let l = longer a b adds.more in omega (arith, h, l))
  ]

  pub filling-more : IsFilling after (set done n true)
  filling-more = record {
    len = simp length-set (filling.len ∙ ap (λ t. length t.parts) (sym (complexes-same a b adds.more)));
    ranked = ranked-with b cs adds.ranked;
    effectives = λ m p e. part-kept a b adds.more (effective_of p.content) (filling.effectives m p (sym (same-parts m) ∙ e));
    there = there;
    right = λ m p e. right m p (sym (same-parts m) ∙ e);
    based = λ m p e. based m p (sym (same-parts m) ∙ e);
    none = none;
  }

-- what has a lower rank than the next in an order stands before it
pub stands-before : (P : ℕ → Type 0) (count : ℕ) (ranks order : List ℕ) (i y : ℕ) → IsOrder count ranks order → i < length order → All P (take i order) → y < count → slice_index ranks y < slice_index ranks (get_or order i 0) → P y
stands-before P count ranks order i y o within known there lower =
    let c = o.each y there in
    let at : get_or order c.0 0 ≡ y = get_or_default order c.0 0 y c.1 ∙ c.2 in
    elim (cases_lt c.0 i) [
      | inl before ↦ (let short : c.0 < length (take i order) = rw (length-take-le i order (omega arith)) before in
          subst P (get_or-take i order c.0 0 before ∙ at) (All-get_or P (take i order) c.0 0 short known))
      | inr behind ↦ (let rises : slice_index ranks (get_or order i 0) ≤ slice_index ranks (get_or order c.0 0) = o.rises i c.0 0 behind c.1 in
          let same : slice_index ranks (get_or order c.0 0) ≡ slice_index ranks y = ap (slice_index ranks) at in
          absurd (omega arith))
    ]

-- the base of the next is done
pub next-base : (t : Tables) (done : List Bool) (order : List ℕ) (i n : ℕ) (part : ComplexType) → IsOrder (length t.complexes.parts) t.complexes.ranks order → i < length order → n ≡ get_or order i 0
    → All (IsDone done) (take i order) → IsRanked t → slice_get t.complexes.parts n ≡ Some part → IsBaseDone done part.base
next-base t done order i n part o within is known ranked e = on part.base (ranked.complexes n part e)
  where
    on : (x : TypeId) → IsLower t (first_height + slice_index t.complexes.ranks n) x → IsBaseDone done x
    on AnyType low = tt
    on (Builtin kind) low = tt
    on (Simple id) low = tt
    on (Complex id) low =
        let same : slice_index t.complexes.ranks n ≡ slice_index t.complexes.ranks (get_or order i 0) = ap (slice_index t.complexes.ranks) is in
        stands-before (IsDone done) (length t.complexes.parts) t.complexes.ranks order i id o within known low.there (omega (arith, low.lower, same))

-- where all are done the contents are set
pub all-set : (t : Tables) (done : List Bool) (order : List ℕ) → ((n : ℕ) → n < length t.complexes.parts → Contains order n) → All (IsDone done) order → IsFilling t done → AreContentsSet t
all-set t done order each known filling n part e = filling.right n part e (All-contains (IsDone done) order n known (each n (slice_get_within t.complexes.parts n part e)))

-- at first none is done
pub filling-none : (t : Tables) (count : ℕ) → count ≡ length t.complexes.parts → length t.contents ≡ count → IsRanked t → Each t.complexes (λ part. IfSome (effective_of part.content) (IsPart t.particles)) → All (λ content. content ≡ None) t.contents → IsFilling t (replicate count false)
filling-none t count all contents ranked effectives none = record {
  len = simp length-replicate all;
  ranked = ranked;
  effectives = effectives;
  there = λ n p e. absurd (none-some p (sym (none-at n (Some p) e)));
  right = λ n part e d. absurd (true≢false (sym (same_Some false true (sym (not n true d) ∙ d))));
  based = λ n part e d. absurd (true≢false (sym (same_Some false true (sym (not n true d) ∙ d))));
  none = λ n d. (let h = slice_get_within (replicate count false) n false d in let k : n < length t.contents = omega (arith, h, length-replicate count false) in slice_get-get_or t.contents n None k ∙ ap Some (none n None k));
}
  where
    none-at : (n : ℕ) (o : Option ℕ) → slice_get t.contents n ≡ Some o → o ≡ None
    none-at n o e = let k = slice_get_within t.contents n o e in sym (get_or_from_slice_get t.contents n o None e) ∙ none n None k

    not : (n : ℕ) (b : Bool) → slice_get (replicate count false) n ≡ Some b → slice_get (replicate count false) n ≡ Some false
    not n b e = let h = slice_get_within (replicate count false) n b e in
        slice_get-get_or (replicate count false) n false h ∙ ap Some (get_or-replicate count n false false (omega (arith, h, length-replicate count false)))

pub get-there : {X : Type 0} (xs : List X) (n : ℕ) → n < length xs → (x : X) × (slice_get xs n ≡ Some x)
get-there [] n h = absurd (omega arith)
get-there (x ∷ xs) zero h = (x, refl)
get-there (x ∷ xs) (suc n) h = get-there xs n (omega (arith, h))

-- the content of a type is written, whose base is done
pub set-filling : (a b new : Tables) (done : List Bool) (n id : ℕ) (content : Option ℕ) → IsFilling a done → n < length a.complexes.parts → id ≡ n → slice_get done n ≡ Some false
    → ((part : ComplexType) → slice_get a.complexes.parts n ≡ Some part → IsBaseDone done part.base) → Adds a b content
    → ((part : ComplexType) → slice_get a.complexes.parts id ≡ Some part → IsContentOf b part.by_extension part.at part.base part.content content) → Sets b new id content → IsFilling new (set done n true)
set-filling a b new done n id content filling h same none base adds of sets =
    let p = get-there a.complexes.parts n h in
    let at : slice_get a.complexes.parts id ≡ Some p.0 = ap (slice_get a.complexes.parts) same ∙ p.1 in
    let s : Sets b new n content = subst (λ i. Sets b new i content) same sets in
    subst (λ t. IsFilling t (set done n true)) (sym s.tables)
    (filling-more a b done n p.0 content s.contents filling p.1 none (base p.0 p.1) adds (of p.0 at) s.here s.others)

pub same-complexes : (old t : Tables) → IsGrown old t → t.complexes ≡ old.complexes
same-complexes old t grown = ap (λ (u : Tables). u.complexes) grown.tables

order-kept : (old t : Tables) (order : List ℕ) → IsGrown old t → IsOrder (length old.complexes.parts) old.complexes.ranks order → IsOrder (length t.complexes.parts) t.complexes.ranks order
order-kept old t order grown o = subst (λ c. IsOrder (length c.parts) c.ranks order) (sym (same-complexes old t grown)) o

-- the base of the next is done, where only contents and particles have come
pub next-done : (old t : Tables) (done : List Bool) (order : List ℕ) (i n : ℕ) (part : ComplexType) → IsOrder (length old.complexes.parts) old.complexes.ranks order → IsGrown old t → i < length order → n ≡ get_or order i 0
    → All (IsDone done) (take i order) → IsFilling t done → slice_get t.complexes.parts n ≡ Some part → IsBaseDone done part.base
next-done old t done order i n part o grown within is known filling e = next-base t done order i n part (order-kept old t order grown o) within is known filling.ranked e

pub known-more : (old new : List Bool) (order : List ℕ) (i : ℕ) → i < length order → ((n : ℕ) → IsDone old n → IsDone new n) → IsDone new (get_or order i 0) → All (IsDone old) (take i order) → All (IsDone new) (take (i + 1) order)
known-more old new order i within kept here known = All-more (IsDone new) order i 0 within (All-weaker (IsDone old) (IsDone new) kept (take i order) known) here

-- at the end all are set
pub all-done : (old t : Tables) (done : List Bool) (order : List ℕ) (i : ℕ) → IsOrder (length old.complexes.parts) old.complexes.ranks order → IsGrown old t → length order ≤ i → All (IsDone done) (take i order) → IsFilling t done → AreContentsSet t
all-done old t done order i o grown long known filling =
    all-set t done order (order-kept old t order grown o).each (subst (All (IsDone done)) (take_all i order long) known) filling
