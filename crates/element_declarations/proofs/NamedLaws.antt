-- The elements that content models name, one particle after another.
use Rattle.std.proofs.Common.{◌≡◌, ℕ, ◌+◌, ◌<◌, List, [], ◌∷◌, ◌++◌, Bool, true, false, length, take, get_or, refl, sym, ap, ◌∙◌, subst}
use Rattle.std.specs.Prelude.{◌||◌, slice_index_or}
use Rattle.std.specs.List.{list_any}
use Rattle.std.proofs.lemmas.List.{take_more}
use Rattle.std.proofs.lemmas.List.Folds.{list_any-append}
use Rattle.xs_components.specs.declared.particle.Particle.{Particle}
use Rattle.element_declarations.specs.Groups.{is_element}

or-false : (b : Bool) → (b || false) ≡ b
or-false true = refl
or-false false = refl

-- an element is the term of one of some particles
abbrev pub is_among : List Particle → ℕ → Bool
is_among parts n = list_any (λ part. is_element part.term n) parts

among-push : (parts : List Particle) (part : Particle) (n : ℕ) → is_among (parts ++ part ∷ []) n ≡ (is_among parts n || is_element part.term n)
among-push parts part n = list_any-append (λ (p : Particle). is_element p.term n) parts (part ∷ []) ∙ ap (λ (b : Bool). is_among parts n || b) (or-false (is_element part.term n))

-- the marks with one particle more
pub marks-more : (parts read : List Particle) (i : ℕ) (part : Particle) (old new : List Bool) → read ≡ parts → i < length read → part ≡ get_or read i part → length new ≡ length old →
    ((n : ℕ) → n < length old → slice_index_or old n false ≡ is_among (take i parts) n) →
    ((n : ℕ) → n < length old → slice_index_or new n false ≡ (slice_index_or old n false || is_element part.term n)) →
    (n : ℕ) → n < length new → slice_index_or new n false ≡ is_among (take (i + 1) parts) n
marks-more parts read i part old new same l is alike before marked n lower =
    let within : n < length old = subst (λ k. n < k) alike lower in
    let inside : i < length parts = subst (λ (xs : List Particle). i < length xs) same l in
    let own : part ≡ get_or parts i part = subst (λ (xs : List Particle). part ≡ get_or xs i part) same is in
    marked n within ∙ (ap (λ (b : Bool). b || is_element part.term n) (before n within) ∙
    (sym (among-push (take i parts) part n) ∙ ap (λ (xs : List Particle). is_among xs n) (ap (λ (x : Particle). take i parts ++ x ∷ []) own ∙ sym (take_more parts i part inside))))
