-- What was taken, where a write follows others.
use Rattle.std.proofs.Common.{◌≡◌, ℕ, suc, ◌+◌, ◌≤◌, List, ◌∷◌, ◌++◌, length, take, drop, nat_le, Bool, true, false, Option, refl, sym, ap, subst, arith, ◌∙◌}
use Rattle.std.specs.Io.KnownBytes.{Appends}
use Rattle.std.proofs.KnownBytes.{Appends-trans}
use Rattle.std.proofs.lemmas.Bool.Decides.{nat_tests}
use Rattle.std.proofs.lemmas.List.{take_all, take-append-le}
use Rattle.std.specs.List.{flat_map}
use Rattle.std.proofs.lemmas.Grind.{flat_map-append}
use Rattle.std.proofs.lemmas.List.{take-append-drop}
use lib.Seq.{take-append-add}
use Rattle.xsv_io.specs.Writing.{AppendsFront}

-- a front of a text is a front of the text with more behind it
front_cut : (a b : Option (List ℕ)) (text rest : List ℕ) (n : ℕ) → Appends a b (take n text) → (t : Bool) → nat_le n (length text) ≡ t → AppendsFront a b (text ++ rest)
front_cut a b text rest n h true e =
    let small : n ≤ length text = grind (arith, nat_tests) in
    (n, subst (Appends a b) (sym (take-append-le n text rest small)) h)
front_cut a b text rest n h false e =
    let large : length text ≤ n = grind (arith, nat_tests) in
    (length text, subst (Appends a b) (take_all n text large ∙ sym (take_all (length text) text (omega arith)) ∙ sym (take-append-le (length text) text rest (omega arith))) h)

pub front_before : (a b : Option (List ℕ)) (text rest : List ℕ) → AppendsFront a b text → AppendsFront a b (text ++ rest)
front_before a b text rest front = front_cut a b text rest front.0 front.1 (nat_le front.0 (length text)) refl

-- a front of a text that follows another is a front of both
pub front_behind : (a b c : Option (List ℕ)) (text rest : List ℕ) → Appends a b text → AppendsFront b c rest → AppendsFront a c (text ++ rest)
front_behind a b c text rest h front =
    (length text + front.0, subst (Appends a c) (sym (take-append-add text rest front.0)) (Appends-trans a b c text (take front.0 rest) h front.1))

-- what comes of the items before i, then a front of what comes of item i, is a front of what comes of all
module _ {X : Type 0} (f : X → List ℕ) (a b c : Option (List ℕ)) (xs : List X) where
  pub front_at : (i : ℕ) (x : X) → drop i xs ≡ x ∷ drop (suc i) xs → Appends a b (flat_map f (take i xs)) → AppendsFront b c (f x) → AppendsFront a c (flat_map f xs)
  front_at i x e before front =
      let whole : flat_map f (take i xs) ++ (f x ++ flat_map f (drop (suc i) xs)) ≡ flat_map f xs =
      ap (λ rest. flat_map f (take i xs) ++ flat_map f rest) (sym e) ∙ sym (flat_map-append f (take i xs) (drop i xs)) ∙ ap (flat_map f) (take-append-drop i xs) in
      subst (AppendsFront a c) whole (front_behind a b c (flat_map f (take i xs)) (f x ++ flat_map f (drop (suc i) xs)) before (front_before b c (f x) (flat_map f (drop (suc i) xs)) front))
