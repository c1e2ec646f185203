-- What is noted of properties, one declaration after another, gives their classes.
use Rattle.std.proofs.Common.{◌≡◌, ◌≢◌, ℕ, zero, suc, ◌+◌, ◌≤◌, ◌<◌, ◌⊎◌, inl, inr, Bool, true, false, List, [], ◌∷◌, ◌++◌, Option, None, Some, length, slice_get, refl, sym, ap, ◌∙◌, subst, arith}
use Rattle.std.proofs.lemmas.Bool.{cases_eq, true≢false}
use Rattle.xs_components.specs.Tables.{Tables}
use Rattle.element_declarations.specs.Classes.{AreAlike, IsClassOf, AreClassesOf}
use Rattle.element_declarations.specs.declared.properties.Properties.{Properties}
use Rattle.element_declarations.specs.contracts.properties.PropertiesPartialEq.TheImpl as properties
use Rattle.element_declarations.specs.inside.Firsts.{Notes, AreNoted, AreClassed, HasNone}
use Rattle.element_declarations.specs.inside.Keys.{HasKey, IsKeyOf}
use Rattle.element_declarations.proofs.Deciding.{properties_decide}
use Rattle.element_declarations.proofs.KeyLaws.{one-key, alike-by, key-shared}

none-some : {X : Type 0} (x : X) → None ≡ Some x → ⊥
none-some x e = cc

same-some : (a b : ℕ) → Some a ≡ Some b → a ≡ b
same-some a b e = cc

-- a number was noted
pub notes-known : (old : Properties → Option ℕ) (own : Properties) (number noted : ℕ) → old own ≡ Some noted → Notes old old own number noted
notes-known old own number noted e = record {
  known = λ m f. (same-some noted m (sym e ∙ f), λ key. refl);
  added = λ f. absurd (none-some noted (sym f ∙ e));
  others = λ key differs. refl;
}

-- this one is noted
pub notes-new : (old new : Properties → Option ℕ) (own : Properties) (number : ℕ) → old own ≡ None → new own ≡ Some number →
    ((key : Properties) → properties.eq-value.it own key ≡ false → new key ≡ old key) → Notes old new own number number
notes-new old new own number e itself kept = record {
  known = λ m f. absurd (none-some m (sym e ∙ f));
  added = λ f. (refl, itself);
  others = λ key differs. kept key (apart key differs (properties.eq-value.it own key) refl);
}
  where
    apart : (key : Properties) → key ≢ own → (b : Bool) → properties.eq-value.it own key ≡ b → properties.eq-value.it own key ≡ false
    apart key differs true f = absurd (differs (sym ((properties_decide own key).0 f)))
    apart key differs false f = f

module _ (t : Tables) where
  pub noted-none : (noted : Properties → Option ℕ) → HasNone noted → AreNoted t 0 noted
  noted-none noted none = record {
    there = λ key n e. absurd (none-some n (sym (none key) ∙ e));
    first = λ key n m e l h. none-some n (sym (none key) ∙ e);
    every = λ key m l h. absurd (omega (arith, l));
  }

  module _ (n : ℕ) (old : Properties → Option ℕ) (are : AreNoted t n old) where
    -- a declaration without properties is alone in its class
    pub class-alone : IsKeyOf t n None → IsClassOf t n n
    class-alone none = record {
      up_to = omega arith;
      is = inl refl;
      first = λ m l s. let k = key-shared t m n s in none k.key k.other;
    }

    pub noted-alone : IsKeyOf t n None → AreNoted t (n + 1) old
    noted-alone none = record {
      there = λ key m e. let h = are.there key m e in (omega (arith, h.0), h.1);
      first = are.first;
      every = λ key m l h. elim (cases_eq m n) [
        | inl e ↦ absurd (none key (subst (λ k. HasKey t k key) e h))
        | inr differs ↦ are.every key m (omega (arith, l, differs)) h
      ];
    }

    module _ (own : Properties) (has : HasKey t n own) where
      -- none before has its properties, and so they are noted
      no-earlier : old own ≡ None → (m : ℕ) → m < n → AreAlike t m n → ⊥
      no-earlier e m l s =
          let k = key-shared t m n s in
          are.every own m l (subst (HasKey t m) (one-key t n k.key own k.other has) k.one) e

      pub class-first : old own ≡ None → IsClassOf t n n
      class-first e = record { up_to = omega arith; is = inl refl; first = no-earlier e }

      -- the first that has its properties was noted
      pub class-noted : (first : ℕ) → old own ≡ Some first → IsClassOf t n first
      class-noted first e =
          let h = are.there own first e in
          record {
            up_to = omega (arith, h.0);
            is = inr (alike-by t first n own h.1 has);
            first = λ m l s. let k = key-shared t m n s in are.first own first m e l (subst (HasKey t m) (one-key t n k.key own k.other has) k.one);
          }

      module _ (new : Properties → Option ℕ) (first : ℕ) (notes : Notes old new own n first) where
        by-old : (o : Option ℕ) → old own ≡ o → IsClassOf t n first
        by-old None e = subst (IsClassOf t n) (sym (notes.added e).0) (class-first e)
        by-old (Some noted) e = subst (IsClassOf t n) (sym (notes.known noted e).0) (class-noted noted e)

        pub class-is : IsClassOf t n first
        class-is = by-old (old own) refl

        -- the same is noted as before
        still-noted : (noted : ℕ) → old own ≡ Some noted → AreNoted t (n + 1) new
        still-noted noted e =
            let kept = (notes.known noted e).1 in
            record {
              there = λ key m f. let h = are.there key m (sym (kept key) ∙ f) in (omega (arith, h.0), h.1);
              first = λ key k m f. are.first key k m (sym (kept key) ∙ f);
              every = λ key m l h none. elim (cases_eq m n) [
                | inl same ↦ none-some noted (sym (subst (λ (k : Properties). new k ≡ None) (one-key t n key own (subst (λ k. HasKey t k key) same h) has) none) ∙ (kept own ∙ e))
                | inr differs ↦ are.every key m (omega (arith, l, differs)) h (sym (kept key) ∙ none)
              ];
            }

        -- it is noted for its properties
        more-noted : old own ≡ None → AreNoted t (n + 1) new
        more-noted e = record { there = there; first = first_is; every = every }
          where
            itself : new own ≡ Some n
            itself = (notes.added e).1

            by-key : (key : Properties) → (key ≡ own) ⊎ (key ≢ own)
            by-key key = told (properties.eq-value.it key own) refl
              where
                told : (b : Bool) → properties.eq-value.it key own ≡ b → (key ≡ own) ⊎ (key ≢ own)
                told true f = inl ((properties_decide key own).0 f)
                told false f = inr (λ same. true≢false (sym ((properties_decide key own).1 same) ∙ f))

            there : (key : Properties) (m : ℕ) → new key ≡ Some m → (m < n + 1) × HasKey t m key
            there key m f = elim (by-key key) [
              | inl same ↦
                  let one : n ≡ m = same-some n m (sym itself ∙ (sym (ap new same) ∙ f)) in
                  (omega (arith, one), subst (HasKey t m) (sym same) (subst (λ k. HasKey t k own) one has))
              | inr differs ↦ let h = are.there key m (sym (notes.others key differs) ∙ f) in (omega (arith, h.0), h.1)
            ]

            first_is : (key : Properties) (k m : ℕ) → new key ≡ Some k → m < k → HasKey t m key → ⊥
            first_is key k m f l h = elim (by-key key) [
              | inl same ↦
                  let one : n ≡ k = same-some n k (sym itself ∙ (sym (ap new same) ∙ f)) in
                  are.every own m (omega (arith, l, one)) (subst (HasKey t m) same h) e
              | inr differs ↦ are.first key k m (sym (notes.others key differs) ∙ f) l h
            ]

            every : (key : Properties) (m : ℕ) → m < n + 1 → HasKey t m key → new key ≢ None
            every key m l h none = elim (by-key key) [
              | inl same ↦ none-some n (sym none ∙ (ap new same ∙ itself))
              | inr differs ↦
                  elim (cases_eq m n) [
                    | inl one ↦ differs (one-key t n key own (subst (λ k. HasKey t k key) one h) has)
                    | inr apart ↦ are.every key m (omega (arith, l, apart)) h (sym (notes.others key differs) ∙ none)
                  ]
            ]

        by-noted : (o : Option ℕ) → old own ≡ o → AreNoted t (n + 1) new
        by-noted None e = more-noted e
        by-noted (Some noted) e = still-noted noted e

        pub noted-more : AreNoted t (n + 1) new
        noted-more = by-noted (old own) refl

-- ---- the classes one after another

none-at : (xs : List ℕ) → length xs ≡ 0 → (n c : ℕ) → slice_get xs n ≡ Some c → ⊥
none-at [] e n c at = none-some c at
none-at (x ∷ xs) e n c at = absurd (omega (arith, e))

-- what stands in a list with one more stands in it, or is that one
one-behind : (xs : List ℕ) (x n c : ℕ) → slice_get (xs ++ x ∷ []) n ≡ Some c → (slice_get xs n ≡ Some c) ⊎ ((n ≡ length xs) × (x ≡ c))
one-behind [] x zero c at = inr (refl, same-some x c at)
one-behind [] x (suc n) c at = absurd (none-some c at)
one-behind (y ∷ ys) x zero c at = inl at
one-behind (y ∷ ys) x (suc n) c at = elim (one-behind ys x n c at) [ inl here ↦ inl here | inr last ↦ inr (ap suc last.0, last.1) ]

length-behind : (xs : List ℕ) (x : ℕ) → length (xs ++ x ∷ []) ≡ length xs + 1
length-behind [] x = refl
length-behind (y ∷ ys) x = let more = length-behind ys x in omega (arith, more)

module _ (t : Tables) where
  pub classed-none : (classes : List ℕ) → length classes ≡ 0 → (noted : Properties → Option ℕ) → HasNone noted → AreClassed t 0 classes noted
  classed-none classes empty noted none = record {
    few = omega arith;
    each = empty;
    are = λ n c at. absurd (none-at classes empty n c at);
    noted_for = noted-none t noted none;
  }

  pub classed-more : (number id class_number : ℕ) (classes next : List ℕ) (old new : Properties → Option ℕ) → id ≡ number → number < length t.elements.parts → AreClassed t number classes old →
      IsClassOf t id class_number → AreNoted t (id + 1) new → next ≡ classes ++ class_number ∷ [] → AreClassed t (number + 1) next new
  classed-more number id class_number classes next old new same there before is noted e =
      subst (λ (xs : List ℕ). AreClassed t (number + 1) xs new) (sym e) (record {
        few = omega (arith, there);
        each = (let l = length-behind classes class_number in let b = before.each in omega (arith, l, b));
        are = λ n c at. elim (one-behind classes class_number n c at) [
          | inl earlier ↦ before.are n c earlier
          | inr last ↦
              subst (λ (m : ℕ). IsClassOf t m c) (same ∙ (sym before.each ∙ sym last.0)) (subst (IsClassOf t id) last.1 is)
        ];
        noted_for = subst (λ (n : ℕ). AreNoted t (n + 1) new) same noted;
      })

  pub classed-all : (number : ℕ) (classes : List ℕ) (noted : Properties → Option ℕ) → length t.elements.parts ≤ number → AreClassed t number classes noted → AreClassesOf t classes
  classed-all number classes noted past classed = record {
    each = (let f = classed.few in let e = classed.each in omega (arith, f, e, past));
    are = classed.are;
  }
