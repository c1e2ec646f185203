-- Going along originals.
use Rattle.std.proofs.Common.{◌≡◌, ℕ, ◌-◌, ◌<◌, ◌⊎◌, inl, inr, List, length, length-set, set, get_or, Bool, true, false, true≢false, Option, None, Some, refl, sym, ap, ◌∙◌, subst, arith}
use Rattle.std.proofs.lemmas.Bool.{cases_eq}
use Rattle.std.proofs.lemmas.Option.{none-some, same_Some, slice_get-get_or, get_or_from_slice_get}
use Rattle.std.proofs.lemmas.List.{get_or-set_same, get_or-set_other}
use Rattle.std.proofs.lemmas.List.Sums.{sum_by-set}
use Rattle.schema_set.specs.declared.documents.Available.{Available}
use Rattle.schema_set.specs.Order.{IsNumber}
use Rattle.redefine_originals.specs.declared.versions.Redefinable.{Redefinable}
use Rattle.redefine_originals.specs.Versions.{declared_as, Version, version_at, IsOriginal}
use Rattle.redefine_originals.proofs.VersionLaws.{original-is, original-one}
use Rattle.redefine_faults.specs.Redefinitions.{GoesTo, GoesBack, once, on, is_same_version}
use Rattle.redefine_faults.specs.inside.Chains.{IsNext, ComesBack, marked, one_if_not, unmarked, IsPassed, IsChain}

module _ (available : List Available) where
  -- a version has one original
  pub goes-one : (v a b : Version) → GoesTo available v a → GoesTo available v b → a ≡ b
  goes-one v a b g h =
      let location : g.location ≡ h.location = same_Some g.location h.location (sym g.within ∙ h.within) in
      let declared : (g.of, g.name) ≡ (h.of, h.name) = same_Some (g.of, g.name) (h.of, h.name) (sym g.declares ∙ h.declares) in
      let other : IsOriginal available g.location g.of g.name (Some b) =
      subst (λ (p : Redefinable × List ℕ). IsOriginal available g.location p.0 p.1 (Some b)) (sym declared) (subst (λ l. IsOriginal available l h.of h.name (Some b)) (sym location) h.is) in
      same_Some a b (original-one available g.of g.name g.location (Some a) (Some b) g.is other)

  -- all of a chain have the kind and the name of its start, and are the versions of their documents
  pub record IsReached (of : Redefinable) (name : List ℕ) (w : Version) : Type 0 where
    pub number : IsNumber available w.document
    pub version : version_at available of name w.document ≡ Some w
    pub declares : declared_as w.shape.form ≡ Some (of, name)

  gone : (of : Redefinable) (name : List ℕ) (v w : Version) → declared_as v.shape.form ≡ Some (of, name) → GoesTo available v w → IsReached of name w
  gone of name v w e g =
      let declared : (g.of, g.name) ≡ (of, name) = same_Some (g.of, g.name) (of, name) (sym g.declares ∙ e) in
      let is = original-is available of name g.location w (subst (λ (p : Redefinable × List ℕ). IsOriginal available g.location p.0 p.1 (Some w)) declared g.is) in
      record { number = is.number; version = is.version; declares = is.declares }

  reached : (of : Redefinable) (name : List ℕ) (start w : Version) → declared_as start.shape.form ≡ Some (of, name) → GoesBack available start w → IsReached of name w
  reached of name start _ e (once w g) = gone of name start w e g
  reached of name start _ e (on v w b g) = gone of name v w (reached of name start v e b).declares g

  started : (start w : Version) → GoesBack available start w → (of : Redefinable) × (name : List ℕ) × (declared_as start.shape.form ≡ Some (of, name))
  started start _ (once w g) = (g.of, g.name, g.declares)
  started start _ (on v w b g) = started start v b

  back-number : (start w : Version) → GoesBack available start w → IsNumber available w.document
  back-number start w b = let s = started start w b in (reached s.0 s.1 start w s.2 b).number

  -- those of one document are one
  back-one : (start v w : Version) → GoesBack available start v → GoesBack available start w → v.document ≡ w.document → v ≡ w
  back-one start v w a b same =
      let s = started start v a in
      let one = reached s.0 s.1 start v s.2 a in
      let other = reached s.0 s.1 start w s.2 b in
      same_Some v w (sym one.version ∙ ap (version_at available s.0 s.1) same ∙ other.version)

  -- what is found by the location of a version, its kind and its name is where it goes
  pub next-found : (v : Version) (location : List ℕ) (of : Redefinable) (name : List ℕ) (found : Option Version) → v.location ≡ Some location → Some (of, name) ≡ declared_as v.shape.form
      → IsOriginal available location of name found → IsNext available v found
  next-found v location of name None e d is = λ w g.
      (let l : g.location ≡ location = same_Some g.location location (sym g.within ∙ e) in
      let p : (g.of, g.name) ≡ (of, name) = same_Some (g.of, g.name) (of, name) (sym g.declares ∙ sym d) in
      let one : IsOriginal available location of name (Some w) =
      subst (λ (q : Redefinable × List ℕ). IsOriginal available location q.0 q.1 (Some w)) p (subst (λ k. IsOriginal available k g.of g.name (Some w)) l g.is) in
      none-some w (original-one available of name location None (Some w) is one))
  next-found v location of name (Some w) e d is =
      (record { location = location; of = of; name = name; within = e; declares = sym d; is = is }, (original-is available of name location w is).number)

  module _ (start : Version) where
    pub chain-begun : (marks : List Bool) → ((d : ℕ) → marked marks d ≡ false) → length marks ≡ length available → IsChain available start marks start
    chain-begun marks none len = record {
      len = len;
      there = inl refl;
      apart = λ w b m. absurd (true≢false (sym m ∙ none w.document));
      next = λ v w passed g. elim passed [ inl same ↦ inr same | inr back ↦ absurd (true≢false (sym back.1 ∙ none v.document)) ];
    }

    module _ (marks : List Bool) (last : Version) (c : IsChain available start marks last) where
      pub last-back : (v : Version) → GoesTo available last v → GoesBack available start v
      last-back v g = elim c.there [ inl same ↦ once v (subst (λ u. GoesTo available u v) same g) | inr back ↦ on last v back.0 g ]

      -- where it ends all of the chain was passed
      passed-all : ((w : Version) → GoesTo available last w → marked marks w.document ≡ true) → (w : Version) → GoesBack available start w → marked marks w.document ≡ true
      passed-all ends _ (once w g) = elim (c.next start w (inl refl) g) [ inl m ↦ m | inr same ↦ ends w (subst (λ u. GoesTo available u w) same g) ]
      passed-all ends _ (on v w b g) = elim (c.next v w (inr (b, passed-all ends v b)) g) [ inl m ↦ m | inr same ↦ ends w (subst (λ u. GoesTo available u w) same g) ]

      ended : ((w : Version) → GoesTo available last w → marked marks w.document ≡ true) → ComesBack available start → ⊥
      ended ends b = true≢false (sym b.2 ∙ c.apart b.0 b.1 (passed-all ends b.0 b.1))

      pub chain-ended : IsNext available last None → ComesBack available start → ⊥
      chain-ended none = ended (λ w g. absurd (none w g))

      module _ (v : Version) (g : GoesTo available last v) where
        pub chain-closed : marked marks v.document ≡ true → ComesBack available start → ⊥
        chain-closed m = ended (λ w h. subst (λ (u : Version). marked marks u.document ≡ true) (goes-one last v w g h) m)

        pub chain-back : is_same_version v start ≡ true → ComesBack available start
        chain-back same = (v, last-back v g, same)

        v-number : IsNumber available v.document
        v-number = back-number start v (last-back v g)

        within : v.document - 1 < length marks
        within = let n = v-number in let l = c.len in omega (arith, n.0, n.1, l)

        -- the mark of its document, as it is read
        pub chain-read : (r b : Bool) → r ≡ get_or marks (v.document - 1) r → r ≡ b → marked marks v.document ≡ b
        chain-read r b e is = get_or_from_slice_get marks (v.document - 1) (get_or marks (v.document - 1) r) false (slice_get-get_or marks (v.document - 1) r within) ∙ sym e ∙ is

        marked-own : marked (set marks (v.document - 1) true) v.document ≡ true
        marked-own = get_or-set_same marks (v.document - 1) true false within

        marked-kept : (w : Version) → marked marks w.document ≡ true → marked (set marks (v.document - 1) true) w.document ≡ true
        marked-kept w m = elim (cases_eq (w.document - 1) (v.document - 1)) [
          | inl same ↦ subst (λ k. get_or (set marks (v.document - 1) true) k false ≡ true) (sym same) marked-own
          | inr other ↦ get_or-set_other marks (v.document - 1) (w.document - 1) true false other ∙ m
        ]

        marked-cases : (w : Version) → GoesBack available start w → marked (set marks (v.document - 1) true) w.document ≡ true → (w ≡ v) ⊎ (marked marks w.document ≡ true)
        marked-cases w b m = elim (cases_eq (w.document - 1) (v.document - 1)) [
          | inl same ↦ (
              let n = back-number start w b in let k = v-number in
              inl (back-one start w v b (last-back v g) (omega (arith, same, n.0, k.0)))
              )
          | inr other ↦ inr (sym (get_or-set_other marks (v.document - 1) (w.document - 1) true false other) ∙ m)
        ]

        pub chain-more : is_same_version v start ≡ false → IsChain available start (set marks (v.document - 1) true) v
        chain-more fresh = record {
          len = length-set marks (v.document - 1) true ∙ c.len;
          there = inr (last-back v g, marked-own);
          apart = λ w b m. elim (marked-cases w b m) [ inl same ↦ subst (λ u. is_same_version u start ≡ false) (sym same) fresh | inr before ↦ c.apart w b before ];
          next = λ u w passed h. elim passed [
            | inl same ↦ older u w (inl same) h
            | inr back ↦ elim (marked-cases u back.0 back.1) [ inl same ↦ inr same | inr before ↦ older u w (inr (back.0, before)) h ]
          ];
        }
          where
            older : (u w : Version) → IsPassed available start marks u → GoesTo available u w → (marked (set marks (v.document - 1) true) w.document ≡ true) ⊎ (u ≡ v)
            older u w passed h = elim (c.next u w passed h) [
              | inl m ↦ inl (marked-kept w m)
              | inr same ↦ inl (subst (λ (x : Version). marked (set marks (v.document - 1) true) x.document ≡ true) (goes-one last v w g (subst (λ x. GoesTo available x w) same h)) marked-own)
            ]

        pub chain-less : marked marks v.document ≡ false → unmarked (set marks (v.document - 1) true) < unmarked marks
        chain-less free =
            let law = sum_by-set one_if_not marks (v.document - 1) true false within in
            let one : one_if_not (marked marks v.document) ≡ 1 = rw free refl in
            omega (arith, law, one)
