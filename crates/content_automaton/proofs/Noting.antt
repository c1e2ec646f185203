-- What is noted of symbols, with one more term.
use Rattle.std.proofs.Common.{◌≡◌, ℕ, ◌+◌, ◌<◌, ◌≤◌, ◌↔◌, ◌⊎◌, ◌==◌, Bool, true, false, List, [], ◌∷◌, ◌++◌, length, map, get_or, set, take, refl, sym, ap, subst, ◌∙◌, inl, inr, arith, eqb-true, eq-eqb, append_assoc, append-nil, take_all}
use Rattle.std.specs.Prelude.{Contains}
use Rattle.std.proofs.lemmas.Bool.{cases_eq, true≢false}
use Rattle.std.proofs.lemmas.List.{get_or-set_same, get_or-set_other, length-set, take_more, map-append}
use Rattle.std.proofs.lemmas.List.Elements.{Contains-append_left, Contains-append_cases, Contains-push, Contains-push_cases}
use Rattle.content_automaton.specs.declared.rows.Entry.{Entry}
use Rattle.content_automaton.specs.declared.attribution.Attribution.{Attribution}
use Rattle.content_automaton.specs.declared.attribution.Attribution.TheVariants.{Nothing, OneClass, Ambivalent}
use Rattle.content_automaton.specs.Attribution.{Noted, noted, IsNoted, AreNoted, AreUpTo, with_term}
use Rattle.content_automaton.proofs.Items.{contains_map}

abbrev note : ℕ → ℕ → ℕ → Noted
note k n c = record { term = k; symbol = n; class = c }

-- the same notes of one symbol say the same of it
kept : (olds news : List Noted) (n : ℕ) → ((k c : ℕ) → Contains olds (note k n c) ↔ Contains news (note k n c)) → (a : Attribution) → IsNoted olds n a → IsNoted news n a
kept olds news n alike Nothing h = λ k c x. h k c ((alike k c).1 x)
kept olds news n alike (OneClass first class) h = (((h.0.0.0, (alike first h.0.0.0).0 h.0.0.1), λ k c x. h.0.1 k c ((alike k c).1 x)), λ k c x. h.1 k c ((alike k c).1 x))
kept olds news n alike (Ambivalent first) h = (
  ((h.0.0.0, (alike first h.0.0.0).0 h.0.0.1), λ k c x. h.0.1 k c ((alike k c).1 x)),
  (let m = h.1 in (m.0, m.1, m.2, m.3, (alike m.0 m.2).0 m.4, (alike m.1 m.3).0 m.5, m.6)),
)

module _ (olds news : List Noted) (n term class : ℕ) (up : AreUpTo olds term)
    (from : (k c : ℕ) → Contains news (note k n c) → Contains olds (note k n c) ⊎ ((k ≡ term) × (c ≡ class)))
    (old : (k c : ℕ) → Contains olds (note k n c) → Contains news (note k n c)) (new : Contains news (note term n class)) where
  abbrev IsFirst : ℕ → List Noted → Type 0
  IsFirst first notes = ((c : ℕ) × Contains notes (note first n c)) × ((k c : ℕ) → Contains notes (note k n c) → first ≤ k)

  first_kept : (first : ℕ) → IsFirst first olds → IsFirst first news
  first_kept first h = (
    (h.0.0, old first h.0.0 h.0.1),
    λ k c x. elim (from k c x) [
      | inl a ↦ h.1 k c a
      | inr q ↦ (let l : first ≤ term = up (note first n h.0.0) h.0.1 in let e = q.0 in omega arith)
    ],
  )

  pub with_more : (a : Attribution) → IsNoted olds n a → IsNoted news n (with_term a term class)
  with_more Nothing h = (
    ((class, new), λ k c x. elim (from k c x) [ inl a ↦ absurd (h k c a) | inr q ↦ (let e = q.0 in omega arith) ]),
    λ k c x. elim (from k c x) [ inl a ↦ absurd (h k c a) | inr q ↦ q.1 ],
  )
  with_more (OneClass first one) h = by (one == class) refl
    where
      by : (b : Bool) → (one == class) ≡ b → IsNoted news n (with_term (OneClass first one) term class)
      by true e = rw e (
        first_kept first h.0,
        λ k c x. elim (from k c x) [ inl a ↦ h.1 k c a | inr q ↦ q.1 ∙ sym (eqb-true one class e) ],
      )
      by false e = rw e (
        first_kept first h.0,
        (
          first,
          term,
          h.0.0.0,
          class,
          old first h.0.0.0 h.0.0.1,
          new,
          λ q. true≢false (sym (eq-eqb one class (sym (h.1 first h.0.0.0 h.0.0.1) ∙ q)) ∙ e),
        ),
      )
  with_more (Ambivalent first) h = (
    first_kept first h.0,
    (let m = h.1 in (m.0, m.1, m.2, m.3, old m.0 m.2 m.4, old m.1 m.3 m.5, m.6)),
  )

module _ (notes : List Noted) (term : ℕ) (e : Entry) (list : List Attribution) (up : AreUpTo notes term) (are : AreNoted notes list) (l : e.symbol < length list) where
  pub entry_more : (a : Attribution) → a ≡ get_or list e.symbol a → AreNoted (notes ++ noted term e ∷ []) (set list e.symbol (with_term a term e.class))
  entry_more a is n d m = elim (cases_eq n e.symbol) [
    | inl q ↦ (
        let r : get_or (set list e.symbol (with_term a term e.class)) n d ≡ with_term a term e.class =
        ap (λ k. get_or (set list e.symbol (with_term a term e.class)) k d) q ∙ get_or-set_same list e.symbol (with_term a term e.class) d l in
        subst (IsNoted (notes ++ noted term e ∷ []) n) (sym r)
        (with_more notes (notes ++ noted term e ∷ []) n term e.class up
        (λ k c x. elim (Contains-push_cases notes (noted term e) (note k n c) x) [
          | inl z ↦ inl z
          | inr z ↦ inr (ap (λ (y : Noted). y.term) (sym z), ap (λ (y : Noted). y.class) (sym z))
        ])
        (λ k c x. Contains-append_left notes (noted term e ∷ []) (note k n c) x)
        (subst (Contains (notes ++ noted term e ∷ [])) (λ i. record { term = term; symbol = sym q i; class = e.class }) (Contains-push notes (noted term e)))
        a (subst (IsNoted notes n) (ap (λ k. get_or list k a) q ∙ sym is) (are n a (rw q l)))))
    | inr q ↦ (
        let r : get_or (set list e.symbol (with_term a term e.class)) n d ≡ get_or list n d = get_or-set_other list e.symbol n (with_term a term e.class) d q in
        subst (IsNoted (notes ++ noted term e ∷ []) n) (sym r)
        (kept notes (notes ++ noted term e ∷ []) n
        (λ k c. (
          (λ x. Contains-append_left notes (noted term e ∷ []) (note k n c) x),
          (λ x. elim (Contains-push_cases notes (noted term e) (note k n c) x) [
            | inl z ↦ z
            | inr z ↦ absurd (q (ap (λ (y : Noted). y.symbol) (sym z)))
          ]),
        ))
        (get_or list n d) (are n d (let z = length-set list e.symbol (with_term a term e.class) in omega arith))))
  ]

-- the notes of the first entries of a row
abbrev pub AreNotedUpTo : List Attribution → List Attribution → ℕ → List Entry → ℕ → Type 0
AreNotedUpTo olds news term row i =
    (notes : List Noted) → AreUpTo notes term → AreNoted notes olds → AreNoted (notes ++ map (noted term) (take i row)) news

pub none_noted : (olds : List Attribution) (term : ℕ) (row : List Entry) → AreNotedUpTo olds olds term row 0
none_noted olds term row notes up are = rw append-nil are

pub entries_more : (olds list : List Attribution) (term : ℕ) (row : List Entry) (i : ℕ) (d : Entry) (a : Attribution) → AreNotedUpTo olds list term row i → i < length row →
    (get_or row i d).symbol < length list → a ≡ get_or list (get_or row i d).symbol a → AreNotedUpTo olds (set list (get_or row i d).symbol (with_term a term (get_or row i d).class)) term row (i + 1)
entries_more olds list term row i d a before l b at_a notes up are =
    let e : Entry = get_or row i d in
    let front : List Noted = notes ++ map (noted term) (take i row) in
    let more : notes ++ map (noted term) (take (i + 1) row) ≡ front ++ noted term e ∷ [] =
    ap (λ z. notes ++ map (noted term) z) (take_more row i d l) ∙ (ap (λ z. notes ++ z) (map-append (noted term) (take i row) (get_or row i d ∷ [])) ∙
    sym (append_assoc notes (map (noted term) (take i row)) (noted term (get_or row i d) ∷ []))) in
    subst (λ (z : List Noted). AreNoted z (set list e.symbol (with_term a term e.class))) (sym more)
    (entry_more front term e list
    (λ x c. elim (Contains-append_cases notes (map (noted term) (take i row)) x c) [
      | inl z ↦ up x z
      | inr z ↦ (let m = contains_map (noted term) (take i row) x z in let q : term ≡ x.term = ap (λ (y : Noted). y.term) m.2 in omega arith)
    ])
    (before notes up are) b a at_a)

pub all_noted : (olds list : List Attribution) (term : ℕ) (row : List Entry) (i : ℕ) → AreNotedUpTo olds list term row i → length row ≤ i →
    (notes : List Noted) → AreUpTo notes term → AreNoted notes olds → AreNoted (notes ++ map (noted term) row) list
all_noted olds list term row i h l notes up are = subst (λ (z : List Entry). AreNoted (notes ++ map (noted term) z) list) (take_all i row l) (h notes up are)
