-- Versions that are noted under their names, one by one.
use Rattle.std.proofs.Common.{◌≡◌, ℕ, ◌+◌, ◌<◌, List, [], ◌∷◌, ◌++◌, length, map, take, get_or, Bool, true, false, if◌then◌else◌, Option, None, Some, refl, sym, ap, ◌∙◌, bytes_eq}
use Rattle.std.specs.Option.{option_map, option_or}
use Rattle.std.specs.List.{find}
use Rattle.std.specs.Map.{update}
use Rattle.std.proofs.lemmas.List.{take_more, map-append}
use Rattle.std.proofs.lemmas.List.Folds.{find-append}
use Rattle.std.proofs.lemmas.Slice.Eq.{bytes_eq-Decides}

pub or-none : {X : Type 0} (o : Option X) → option_or o None ≡ o
or-none None = refl
or-none (Some x) = refl

pub or-assoc : {X : Type 0} (a b c : Option X) → option_or (option_or a b) c ≡ option_or a (option_or b c)
or-assoc None b c = refl
or-assoc (Some x) b c = refl

bytes-same : (xs ys : List ℕ) → bytes_eq xs ys ≡ true → xs ≡ ys
bytes-same xs ys e = (bytes_eq-Decides xs ys).0 e

-- a name that has no version as yet
pub noted-first : {X : Type 0} (old : List ℕ → Option X) (key : List ℕ) (v : X) → None ≡ old key → (q : List ℕ) → update bytes_eq old key (Some v) q ≡ option_or (old q) (if bytes_eq key q then Some v else None)
noted-first {X} old key v none q = by (bytes_eq key q) refl
  where
    by : (r : Bool) → bytes_eq key q ≡ r → update bytes_eq old key (Some v) q ≡ option_or (old q) (if bytes_eq key q then Some v else None)
    by true e =
        let empty : old q ≡ None = ap old (sym (bytes-same key q e)) ∙ sym none in
        rw (e, empty) refl
    by false e = rw e (sym (or-none (old q)))

-- the first of some that passes a test, with one more
pub first-more : {D X : Type 0} (p : X → Bool) (entry : D → X) (xs : List D) (i : ℕ) (x : D) (now new : Option X) → i < length xs → x ≡ get_or xs i x
    → new ≡ option_or now (if p (entry x) then Some (entry x) else None) → now ≡ find p (map entry (take i xs)) → new ≡ find p (map entry (take (i + 1) xs))
first-more {D} {X} p entry xs i x now new h is step so_far =
    let more : map entry (take (i + 1) xs) ≡ map entry (take i xs) ++ entry x ∷ [] =
    ap (map entry) (take_more xs i x h) ∙ map-append entry (take i xs) (get_or xs i x ∷ []) ∙ ap (λ (y : D). map entry (take i xs) ++ entry y ∷ []) (sym is) in
    step ∙ ap (λ o. option_or o (if p (entry x) then Some (entry x) else None)) so_far
    ∙ ap (option_or (find p (map entry (take i xs)))) (one (entry x))
    ∙ sym (find-append p (map entry (take i xs)) (entry x ∷ []))
    ∙ ap (find p) (sym more)
  where
    one : (y : X) → (if p y then Some y else None) ≡ find p (y ∷ [])
    one y = refl

-- what is written, by its view
pub written-view : {X Y : Type 0} (view : X → Y) (old : List ℕ → Option X) (key : List ℕ) (v : X) (q : List ℕ)
    → option_map view (update bytes_eq old key (Some v) q) ≡ update bytes_eq (λ name. option_map view (old name)) key (Some (view v)) q
written-view {X} {Y} view old key v q = by (bytes_eq key q) refl
  where
    by : (r : Bool) → bytes_eq key q ≡ r → option_map view (update bytes_eq old key (Some v) q) ≡ update bytes_eq (λ name. option_map view (old name)) key (Some (view v)) q
    by true e = rw e refl
    by false e = rw e refl
