-- Intersections and unions of wildcards, as sets of namespaces.
use Rattle.std.proofs.Common.{◌≡◌, ℕ, Bool, true, false, ◌&&◌, ◌||◌, not, ◌==◌, List, Option, None, Some, Result, Ok, Err, IfOk, refl, sym, ap, subst, ◌∙◌, IfNone}
use Rattle.std.specs.Prelude.{IfSome, if◌then◌else◌}
use Rattle.std.specs.Option.{option_map}
use Rattle.std.proofs.lemmas.Bool.{eqb-true, eqb-false}
use Rattle.std.proofs.lemmas.List.Folds.{list_any-append}
use Rattle.std.proofs.lemmas.Option.{none-some}
use Rattle.std.proofs.Math.Bool.{or_comm}
use Rattle.xs_components.specs.Sets.{has, admits, IsIntersection, IsUnion}
use Rattle.xs_components.specs.declared.namespace_constraint.NsConstraint.{NsConstraint}
use Rattle.xs_components.specs.declared.namespace_constraint.NsConstraint.TheVariants.{Any, Not, In}
use Rattle.xs_components.proofs.SetLaws.{no-intersection, no-union, all-united, but-absent-united, but-one-united, has-filter, has-kept}
use Rattle.xs_components.specs.declared.common.Wildcard.{Wildcard}
use Rattle.attr_uses.specs.Wildcards.{both_excluded, intersection, union_of_negation, with_all_but, union, admitting, joined_wildcard}
use Rattle.attr_uses.specs.Tables.{IsLike, IsWildcard, kept_wildcard, IsKeptWildcard}
use Rattle.attr_uses.specs.inside.Kept.{SameSet, IsFound, IsForm}

and_true : (b : Bool) → b ≡ (b && true)
and_true true = refl
and_true false = refl

or_true : (b : Bool) → true ≡ (b || true)
or_true true = refl
or_true false = refl

and-itself : (a : Bool) → a ≡ (a && a)
and-itself true = refl
and-itself false = refl

with-absent : (p q : Bool) → (not p && not q) ≡ ((not p && not q) && (not p && not p))
with-absent true q = refl
with-absent false true = refl
with-absent false false = refl

absent-with : (p q : Bool) → (not p && not q) ≡ ((not p && not p) && (not p && not q))
absent-with true q = refl
absent-with false true = refl
absent-with false false = refl

both-sets : (x y : ℕ) → IfSome (both_excluded x y) (IsIntersection (Not x) (Not y))
both-sets x y = of (x == y) refl (y == 0) refl (x == 0) refl
  where
    of : (a : Bool) → (x == y) ≡ a → (b : Bool) → (y == 0) ≡ b → (c : Bool) → (x == 0) ≡ c →
        IfSome (if a || b then Some (Not x) else if c then Some (Not y) else None) (IsIntersection (Not x) (Not y))
    of true e b f c g = λ ns. and-itself (admits (Not x) ns) ∙ ap (λ k. admits (Not x) ns && admits (Not k) ns) (eqb-true x y e)
    of false e true f c g = λ ns. with-absent (ns == 0) (ns == x) ∙ ap (λ k. admits (Not x) ns && admits (Not k) ns) (sym (eqb-true y 0 f))
    of false e false f true g = λ ns. absent-with (ns == 0) (ns == y) ∙ ap (λ k. admits (Not k) ns && admits (Not y) ns) (sym (eqb-true x 0 g))
    of false e false f false g = tt

both-none : (x y : ℕ) → IfNone (both_excluded x y) ((c : NsConstraint) → IsIntersection (Not x) (Not y) c → ⊥)
both-none x y = of (x == y) refl (y == 0) refl (x == 0) refl
  where
    of : (a : Bool) → (x == y) ≡ a → (b : Bool) → (y == 0) ≡ b → (c : Bool) → (x == 0) ≡ c →
        IfNone (if a || b then Some (Not x) else if c then Some (Not y) else None) ((c : NsConstraint) → IsIntersection (Not x) (Not y) c → ⊥)
    of true e b f c g = tt
    of false e true f c g = tt
    of false e false f true g = tt
    of false e false f false g = λ c. no-intersection x y c (eqb-false x y e) (eqb-false x 0 g) (eqb-false y 0 f)

intersection-sets : (x y : NsConstraint) → IfSome (intersection x y) (IsIntersection x y)
intersection-sets Any b = λ ns. refl
intersection-sets (Not x) Any = λ ns. and_true (admits (Not x) ns)
intersection-sets (Not x) (Not y) = both-sets x y
intersection-sets (Not x) (In listed) = λ ns. has-filter (admits (Not x)) listed ns
intersection-sets (In listed) b = λ ns. has-kept (admits b) listed ns

intersection-none : (x y : NsConstraint) → IfNone (intersection x y) ((c : NsConstraint) → IsIntersection x y c → ⊥)
intersection-none Any b = tt
intersection-none (Not x) Any = tt
intersection-none (Not x) (Not y) = both-none x y
intersection-none (Not x) (In listed) = tt
intersection-none (In listed) b = tt

-- all but one namespace, and a set
module _ (x : ℕ) (b : NsConstraint) where
  but-sets : IfSome (with_all_but x b) (λ c. (ns : ℕ) → admits c ns ≡ (admits (Not x) ns || admits b ns))
  but-sets = of (admits b x) refl (admits b 0) refl
    where
      of : (p : Bool) → admits b x ≡ p → (q : Bool) → admits b 0 ≡ q → IfSome (union_of_negation x p q) (λ c. (ns : ℕ) → admits c ns ≡ (admits (Not x) ns || admits b ns))
      of true e true f = all-united (admits b) x e f
      of true e false f = but-absent-united (admits b) x e f
      of false e true f = tt
      of false e false f = but-one-united (admits b) x e f

  but-none : IfNone (with_all_but x b) ((c : NsConstraint) → ((ns : ℕ) → admits c ns ≡ (admits (Not x) ns || admits b ns)) → ⊥)
  but-none = of (admits b x) refl (admits b 0) refl
    where
      of : (p : Bool) → admits b x ≡ p → (q : Bool) → admits b 0 ≡ q → IfNone (union_of_negation x p q) ((c : NsConstraint) → ((ns : ℕ) → admits c ns ≡ (admits (Not x) ns || admits b ns)) → ⊥)
      of true e true f = tt
      of true e false f = tt
      of false e true f = λ c is. no-union x (admits b) c f e is
      of false e false f = tt

if-some : {T : Type 0} (P Q : T → Type 0) (o : Option T) → ((x : T) → P x → Q x) → IfSome o P → IfSome o Q
if-some P Q None f h = tt
if-some P Q (Some x) f h = f x h

if-none : {T : Type 0} {A B : Type 0} (o : Option T) → (A → B) → IfNone o A → IfNone o B
if-none None f h = f h
if-none (Some x) f h = tt

union-sets : (x y : NsConstraint) → IfSome (union x y) (IsUnion x y)
union-sets Any b = λ ns. refl
union-sets (Not x) b = but-sets x b
union-sets (In listed) Any = λ ns. or_true (has listed ns)
union-sets (In listed) (Not x) =
    if-some (λ c. (ns : ℕ) → admits c ns ≡ (admits (Not x) ns || has listed ns)) (IsUnion (In listed) (Not x)) (with_all_but x (In listed))
    (λ c is ns. is ns ∙ or_comm (admits (Not x) ns) (has listed ns)) (but-sets x (In listed))
union-sets (In listed) (In more) = λ ns. list_any-append (λ x. x == ns) listed more

union-none : (x y : NsConstraint) → IfNone (union x y) ((c : NsConstraint) → IsUnion x y c → ⊥)
union-none Any b = tt
union-none (Not x) b = but-none x b
union-none (In listed) Any = tt
union-none (In listed) (Not x) =
    if-none (with_all_but x (In listed)) (λ none c is. none c (λ ns. is ns ∙ or_comm (has listed ns) (admits (Not x) ns))) (but-none x (In listed))
union-none (In listed) (In more) = tt

-- a constraint of two sets, and the definition's of two that are like them
module _ (op : Bool → Bool → Bool) (a b x y : NsConstraint) (one : SameSet a x) (other : SameSet b y) where
  both-like : (ns : ℕ) → op (admits a ns) (admits b ns) ≡ op (admits x ns) (admits y ns)
  both-like ns = ap (λ z. op z (admits b ns)) (one ns) ∙ ap (op (admits x ns)) (other ns)

  found-like : (found spec : Option NsConstraint) →
      IfSome found (λ c. (ns : ℕ) → admits c ns ≡ op (admits a ns) (admits b ns)) → IfNone found ((c : NsConstraint) → ((ns : ℕ) → admits c ns ≡ op (admits a ns) (admits b ns)) → ⊥) →
      IfSome spec (λ c. (ns : ℕ) → admits c ns ≡ op (admits x ns) (admits y ns)) → IfNone spec ((c : NsConstraint) → ((ns : ℕ) → admits c ns ≡ op (admits x ns) (admits y ns)) → ⊥) → IsFound found spec
  found-like None None s n s' n' = tt
  found-like None (Some d) s n s' n' = n d (λ ns. s' ns ∙ sym (both-like ns))
  found-like (Some c) None s n s' n' = n' c (λ ns. s ns ∙ both-like ns)
  found-like (Some c) (Some d) s n s' n' = λ ns. s ns ∙ (both-like ns ∙ sym (s' ns))

module _ (a b x y : NsConstraint) (one : SameSet a x) (other : SameSet b y) (found : Option NsConstraint) where
  pub found-intersection : IfSome found (IsIntersection a b) → IfNone found ((c : NsConstraint) → IsIntersection a b c → ⊥) → IsFound found (intersection x y)
  found-intersection s n = found-like (λ p q. p && q) a b x y one other found (intersection x y) s n (intersection-sets x y) (intersection-none x y)

  pub found-union : IfSome found (IsUnion a b) → IfNone found ((c : NsConstraint) → IsUnion a b c → ⊥) → IsFound found (union x y)
  found-union s n = found-like (λ p q. p || q) a b x y one other found (union x y) s n (union-sets x y) (union-none x y)

-- wildcards of the constraints, with the processContents of the first
pub like-none : (x : Wildcard) (spec : Option NsConstraint) → IsFound None spec → IsWildcard None (option_map (admitting x) spec)
like-none x None is = tt
like-none x (Some d) is = absurd is

pub like-some : (w x : Wildcard) (c : NsConstraint) (spec : Option NsConstraint) → IsLike w x → IsFound (Some c) spec → IsWildcard (Some record { namespaces = c; process = w.process }) (option_map (admitting x) spec)
like-some w x c None like is = absurd is
like-some w x c (Some d) like is = record { process = like.process; same = is }

-- two kept wildcards made one
module _ (kept : List Wildcard) (join : NsConstraint → NsConstraint → Option NsConstraint) where
  pub form-first : (other : Option ℕ) (x y : Option Wildcard) → IsWildcard None x → IsKeptWildcard kept other → IsWildcard (kept_wildcard kept other) y → IsForm kept (Some other) (joined_wildcard join x y)
  form-first other None y a k b = (k, b)
  form-first other (Some x) y a k b = absurd a

  pub form-second : (one : Option ℕ) (x y : Option Wildcard) → IsKeptWildcard kept one → IsWildcard (kept_wildcard kept one) x → IsWildcard None y → IsForm kept (Some one) (joined_wildcard join x y)
  form-second one None None k a b = (k, a)
  form-second one (Some x) None k a b = (k, a)
  form-second one None (Some y) k a b = absurd b
  form-second one (Some x) (Some y) k a b = absurd b

  pub form-none : (x y : Wildcard) → IsWildcard None (option_map (admitting x) (join x.namespaces y.namespaces)) → IsForm kept None (joined_wildcard join (Some x) (Some y))
  form-none x y is = of (join x.namespaces y.namespaces) is
    where
      of : (o : Option NsConstraint) → IsWildcard None (option_map (admitting x) o) → IsForm kept None (option_map (λ namespaces. Some (admitting x namespaces)) o)
      of None is = tt
      of (Some c) is = absurd is

  pub form-both : (x y w : Wildcard) (n : Option ℕ) → IsWildcard (Some w) (option_map (admitting x) (join x.namespaces y.namespaces)) → IsKeptWildcard kept n → kept_wildcard kept n ≡ Some w → IsForm kept (Some n) (joined_wildcard join (Some x) (Some y))
  form-both x y w n is k e = of (join x.namespaces y.namespaces) is
    where
      of : (o : Option NsConstraint) → IsWildcard (Some w) (option_map (admitting x) o) → IsForm kept (Some n) (option_map (λ namespaces. Some (admitting x namespaces)) o)
      of None is = absurd is
      of (Some c) is = (k, subst (λ o. IsWildcard o (Some (admitting x c))) (sym e) is)

-- a wildcard that is kept is like some wildcard
pub some-like : (o : Option Wildcard) (w : Wildcard) (x : Option Wildcard) → o ≡ Some w → IsWildcard o x → (v : Wildcard) × (x ≡ Some v) × IsLike w v
some-like None w x e is = absurd (none-some w e)
some-like (Some a) w None e is = absurd is
some-like (Some a) w (Some v) e is = (v, refl, subst (λ o. IsWildcard o (Some v)) e is)

-- an answer of both
module _ {E : Type 0} (a b x y : NsConstraint) (one : SameSet a x) (other : SameSet b y) where
  pub answer-intersection : (r : Result (Option NsConstraint) E) → IfOk r (λ found. IfSome found (IsIntersection a b)) → IfOk r (λ found. IfNone found ((c : NsConstraint) → IsIntersection a b c → ⊥)) → IfOk r (λ found. IsFound found (intersection x y))
  answer-intersection (Ok found) s n = found-intersection a b x y one other found s n
  answer-intersection (Err e) s n = tt

  pub answer-union : (r : Result (Option NsConstraint) E) → IfOk r (λ found. IfSome found (IsUnion a b)) → IfOk r (λ found. IfNone found ((c : NsConstraint) → IsUnion a b c → ⊥)) → IfOk r (λ found. IsFound found (union x y))
  answer-union (Ok found) s n = found-union a b x y one other found s n
  answer-union (Err e) s n = tt
