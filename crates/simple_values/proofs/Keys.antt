-- Keys are equal exactly where the values are the same.
use Rattle.std.proofs.Common.{◌≡◌, ℕ, Bool, true, false, cond, not, ◌&&◌, ◌==◌, List, [], ◌∷◌, bytes_eq, refl, sym, ap, subst, ◌∙◌}
use Rattle.std.specs.Cmp.Lexicographic.{pointwise}
use Rattle.std.specs.Bool.{Decides}
use Rattle.std.specs.Ordering.{int_eq}
use mathlib.Core.Bool.{beq}
use Rattle.std.proofs.lemmas.Bool.{false≢true, eqb-true, eq-eqb}
use Rattle.std.proofs.lemmas.Bool.Decides.{Decides-int_eq}
use Rattle.std.proofs.lemmas.Slice.Eq.{bytes_eq-Decides, slice_eq-Decides}
use Rattle.time_value.specs.declared.literal.MomentKind.{MomentKind}
use Rattle.time_value.specs.declared.literal.MomentKind.TheVariants as kinds
use Rattle.time_value.specs.contracts.literal.MomentKind.{the_type}
use Rattle.time_value.specs.Moment as moments
use Rattle.time_value.specs.Moment.{MomentValue}
use Rattle.time_value.specs.Span as spans
use Rattle.time_value.specs.Span.{SpanValue}
use Rattle.dec_value.specs.Decimal.{Decimal}
use denote.Enum.Bare.{sameb}
use Rattle.simple_values.specs.declared.atom.Atom.{Atom}
use Rattle.simple_values.specs.declared.atom.Atom.TheVariants.{Untyped, Text, Uri, Name, Boolean, Number, Hex, Base64, Instant, Duration}
use Rattle.simple_values.specs.declared.atom.ExpandedName.{ExpandedName}
use Rattle.simple_values.specs.declared.atoms.TypedAtom.{TypedAtom}
use Rattle.simple_values.specs.declared.value.Value.{Value}
use Rattle.simple_values.specs.declared.value.Value.TheVariants as values
use Rattle.simple_values.specs.declared.key.Key.{Key}
use Rattle.simple_values.specs.declared.key.Key.TheVariants as keys
use Rattle.simple_values.specs.contracts.atom.AtomPartialEq.TheImpl as atom_impl
use Rattle.simple_values.specs.contracts.key.KeyPartialEq.TheImpl as key_impl
use Rattle.simple_values.specs.Same.{same_atom, same_item, same_kind, same_truth, same, atoms_of, key_value}

-- ---- what `==` finds

truth_eq : (a b : Bool) → beq a b ≡ same_truth a b
truth_eq true true = refl
truth_eq true false = refl
truth_eq false true = refl
truth_eq false false = refl

zone_eq : (a b : Bool) → beq a b ≡ cond a b (not b)
zone_eq true true = refl
zone_eq true false = refl
zone_eq false true = refl
zone_eq false false = refl

kind_eq : (j k : MomentKind) → sameb the_type j k ≡ same_kind j k
kind_eq kinds.DateTime kinds.DateTime = refl
kind_eq kinds.Date kinds.Date = refl
kind_eq kinds.Time kinds.Time = refl
kind_eq kinds.YearMonth kinds.YearMonth = refl
kind_eq kinds.Year kinds.Year = refl
kind_eq kinds.MonthDay kinds.MonthDay = refl
kind_eq kinds.Day kinds.Day = refl
kind_eq kinds.Month kinds.Month = refl
kind_eq j k = refl

atom_eq : (a b : Atom) → atom_impl.eq-value.it a b ≡ same_atom a b
atom_eq (Untyped a) (Untyped b) = refl
atom_eq (Text a) (Text b) = refl
atom_eq (Uri a) (Uri b) = refl
atom_eq (Name a) (Name b) = refl
atom_eq (Boolean a) (Boolean b) = truth_eq a b
atom_eq (Number a) (Number b) = refl
atom_eq (Hex a) (Hex b) = refl
atom_eq (Base64 a) (Base64 b) = refl
atom_eq (Instant j a) (Instant k b) = rw (kind_eq j k, zone_eq a.zoned b.zoned) refl
atom_eq (Duration a) (Duration b) = refl
atom_eq a b = refl

items_eq : (a b : List TypedAtom) → pointwise atom_impl.eq-value.it (atoms_of a) (atoms_of b) ≡ pointwise same_item a b
items_eq [] [] = refl
items_eq [] (y ∷ b) = refl
items_eq (x ∷ a) [] = refl
items_eq (x ∷ a) (y ∷ b) = rw (atom_eq x.atom y.atom, items_eq a b) refl

key_eq : (a b : Value) → key_impl.eq-value.it (key_value a) (key_value b) ≡ same a b
key_eq (values.Atom s a) (values.Atom t b) = atom_eq a b
key_eq (values.List a) (values.List b) = items_eq a b
key_eq (values.Atom s a) (values.List b) = refl
key_eq (values.List a) (values.Atom t b) = refl

pub key_eq_at : (key : Key) (a b : Value) → key ≡ key_value a → key_impl.eq-value.it key (key_value b) ≡ same a b
key_eq_at key a b e = subst (λ k. key_impl.eq-value.it k (key_value b) ≡ same a b) (sym e) (key_eq a b)

-- ---- the same values have one key

both : (a b : Bool) → (a && b) ≡ true → (a ≡ true) × (b ≡ true)
both true true e = (refl, refl)
both true false e = cc
both false b e = cc

all_both : (a b : Bool) → a ≡ true → b ≡ true → (a && b) ≡ true
all_both a b p q = rw (p, q) refl

truth_is : (a b : Bool) → same_truth a b ≡ true → a ≡ b
truth_is true true e = refl
truth_is true false e = cc
truth_is false true e = cc
truth_is false false e = refl

kind_is : (j k : MomentKind) → same_kind j k ≡ true → j ≡ k
kind_is kinds.DateTime kinds.DateTime e = refl
kind_is kinds.Date kinds.Date e = refl
kind_is kinds.Time kinds.Time e = refl
kind_is kinds.YearMonth kinds.YearMonth e = refl
kind_is kinds.Year kinds.Year e = refl
kind_is kinds.MonthDay kinds.MonthDay e = refl
kind_is kinds.Day kinds.Day e = refl
kind_is kinds.Month kinds.Month e = refl
kind_is j k e = absurd (false≢true e)

name_is : (a b : ExpandedName) → ((a.namespace == b.namespace) && bytes_eq a.local b.local) ≡ true → a ≡ b
name_is a b e =
    let h = both (a.namespace == b.namespace) (bytes_eq a.local b.local) e in
    let p : a.namespace ≡ b.namespace = eqb-true _ _ h.0 in
    let q : a.local ≡ b.local = (bytes_eq-Decides a.local b.local).0 h.1 in
    λ i. record { namespace = p i; local = q i }

number_is : (a b : Decimal) → (int_eq a.unscaled b.unscaled && (a.scale == b.scale)) ≡ true → a ≡ b
number_is a b e =
    let h = both (int_eq a.unscaled b.unscaled) (a.scale == b.scale) e in
    let p : a.unscaled ≡ b.unscaled = (Decides-int_eq a.unscaled b.unscaled).0 h.0 in
    let q : a.scale ≡ b.scale = eqb-true _ _ h.1 in
    λ i. record { unscaled = p i; scale = q i }

moment_is : (a b : MomentValue) → moments.is_same a b ≡ true → a ≡ b
moment_is a b e =
    let h = both (cond a.zoned b.zoned (not b.zoned)) (int_eq a.nanoseconds b.nanoseconds) e in
    let p : a.zoned ≡ b.zoned = truth_is a.zoned b.zoned h.0 in
    let q : a.nanoseconds ≡ b.nanoseconds = (Decides-int_eq a.nanoseconds b.nanoseconds).0 h.1 in
    λ i. record { zoned = p i; nanoseconds = q i }

span_is : (a b : SpanValue) → spans.is_same a b ≡ true → a ≡ b
span_is a b e =
    let h = both (int_eq a.months b.months) (int_eq a.nanoseconds b.nanoseconds) e in
    let p : a.months ≡ b.months = (Decides-int_eq a.months b.months).0 h.0 in
    let q : a.nanoseconds ≡ b.nanoseconds = (Decides-int_eq a.nanoseconds b.nanoseconds).0 h.1 in
    λ i. record { months = p i; nanoseconds = q i }

text_is : (a b : List ℕ) → bytes_eq a b ≡ true → a ≡ b
text_is a b = (bytes_eq-Decides a b).0

atom_is : (a b : Atom) → same_atom a b ≡ true → a ≡ b
atom_is (Untyped a) (Untyped b) e = ap Untyped (text_is a b e)
atom_is (Text a) (Text b) e = ap Text (text_is a b e)
atom_is (Uri a) (Uri b) e = ap Uri (text_is a b e)
atom_is (Name a) (Name b) e = ap Name (name_is a b e)
atom_is (Boolean a) (Boolean b) e = ap Boolean (truth_is a b e)
atom_is (Number a) (Number b) e = ap Number (number_is a b e)
atom_is (Hex a) (Hex b) e = ap Hex (text_is a b e)
atom_is (Base64 a) (Base64 b) e = ap Base64 (text_is a b e)
atom_is (Instant j a) (Instant k b) e =
    let h = both (same_kind j k) (moments.is_same a b) e in
    let p : j ≡ k = kind_is j k h.0 in
    let q : a ≡ b = moment_is a b h.1 in
    λ i. Instant (p i) (q i)
atom_is (Duration a) (Duration b) e = ap Duration (span_is a b e)
atom_is a b e = absurd (false≢true e)

items_are : (a b : List TypedAtom) → pointwise same_item a b ≡ true → atoms_of a ≡ atoms_of b
items_are [] [] e = refl
items_are [] (y ∷ b) e = absurd (false≢true e)
items_are (x ∷ a) [] e = absurd (false≢true e)
items_are (x ∷ a) (y ∷ b) e =
    let h = both (same_item x y) (pointwise same_item a b) e in
    let p : x.atom ≡ y.atom = atom_is x.atom y.atom h.0 in
    let q : atoms_of a ≡ atoms_of b = items_are a b h.1 in
    λ i. p i ∷ q i

pub key_is : (a b : Value) → same a b ≡ true → key_value a ≡ key_value b
key_is (values.Atom s a) (values.Atom t b) e = ap keys.Atom (atom_is a b e)
key_is (values.List a) (values.List b) e = ap keys.List (items_are a b e)
key_is (values.Atom s a) (values.List b) e = absurd (false≢true e)
key_is (values.List a) (values.Atom t b) e = absurd (false≢true e)

-- ---- values of one key are the same

same_text : (a : List ℕ) → bytes_eq a a ≡ true
same_text a = (bytes_eq-Decides a a).1 refl

truth_itself : (a : Bool) → same_truth a a ≡ true
truth_itself true = refl
truth_itself false = refl

kind_itself : (j : MomentKind) → same_kind j j ≡ true
kind_itself kinds.DateTime = refl
kind_itself kinds.Date = refl
kind_itself kinds.Time = refl
kind_itself kinds.YearMonth = refl
kind_itself kinds.Year = refl
kind_itself kinds.MonthDay = refl
kind_itself kinds.Day = refl
kind_itself kinds.Month = refl

atom_itself : (a : Atom) → same_atom a a ≡ true
atom_itself (Untyped a) = same_text a
atom_itself (Text a) = same_text a
atom_itself (Uri a) = same_text a
atom_itself (Name a) = all_both _ _ (eq-eqb _ _ refl) (same_text a.local)
atom_itself (Boolean a) = truth_itself a
atom_itself (Number a) = all_both _ _ ((Decides-int_eq a.unscaled a.unscaled).1 refl) (eq-eqb _ _ refl)
atom_itself (Hex a) = same_text a
atom_itself (Base64 a) = same_text a
atom_itself (Instant j a) = all_both _ _ (kind_itself j) (all_both _ _ (truth_itself a.zoned) ((Decides-int_eq a.nanoseconds a.nanoseconds).1 refl))
atom_itself (Duration a) = all_both _ _ ((Decides-int_eq a.months a.months).1 refl) ((Decides-int_eq a.nanoseconds a.nanoseconds).1 refl)

atom_back : (a b : Atom) → a ≡ b → same_atom a b ≡ true
atom_back a b e = subst (λ x. same_atom a x ≡ true) e (atom_itself a)

items_back : (a b : List TypedAtom) → atoms_of a ≡ atoms_of b → pointwise same_item a b ≡ true
items_back [] [] e = refl
items_back [] (y ∷ b) e = cc
items_back (x ∷ a) [] e = cc
items_back (x ∷ a) (y ∷ b) e =
    let p : x.atom ≡ y.atom = cc in
    let q : atoms_of a ≡ atoms_of b = cc in
    all_both _ _ (atom_back x.atom y.atom p) (items_back a b q)

pub key_back : (a b : Value) → key_value a ≡ key_value b → same a b ≡ true
key_back (values.Atom s a) (values.Atom t b) e = let p : a ≡ b = cc in atom_back a b p
key_back (values.List a) (values.List b) e = let p : atoms_of a ≡ atoms_of b = cc in items_back a b p
key_back (values.Atom s a) (values.List b) e = cc
key_back (values.List a) (values.Atom t b) e = cc

-- ---- `==` on keys decides that they are one

atom_decides : (a b : Atom) → Decides (atom_impl.eq-value.it a b) (a ≡ b)
atom_decides a b = (λ e. atom_is a b (sym (atom_eq a b) ∙ e), λ e. atom_eq a b ∙ atom_back a b e)

pub key_decides : (key other : Key) → Decides (key_impl.eq-value.it key other) (key ≡ other)
key_decides (keys.Atom a) (keys.Atom b) = let d = atom_decides a b in (λ e. ap keys.Atom (d.0 e), λ e. let p : a ≡ b = cc in d.1 p)
key_decides (keys.List a) (keys.List b) =
    let d = slice_eq-Decides atom_decides a b (pointwise atom_impl.eq-value.it a b) refl in
    (λ e. ap keys.List (d.0 e), λ e. let p : a ≡ b = cc in d.1 p)
key_decides (keys.Atom a) (keys.List b) = (λ e. absurd (false≢true e), λ e. cc)
key_decides (keys.List a) (keys.Atom b) = (λ e. absurd (false≢true e), λ e. cc)
