-- How far a change of one count reaches.
use Rattle.std.proofs.Common.{◌≡◌, ◌≢◌, ◌⊎◌, ℕ, ◌+◌, ◌≤◌, refl, sym, ap, ◌∙◌, subst, Bool, true, false, inl, inr, arith, Option, Some, None, if◌then◌else◌}
use Rattle.std.specs.Bool.{Decides}
use Rattle.identity_constraints.specs.Counting.{weight, is_seen, Links, Has, IsLinked, bearers, seen, Change, told, rises, falls, IsPending, IsSettled, IsTouched}
use Rattle.identity_constraints.proofs.Bearers.{bearers-alike, bearers-one, spot, told-here, told-off}

module _ {Y : Type 0} (eq : Y → Y → Bool) (decides : (x y : Y) → Decides (eq x y) (x ≡ y)) (t : Links) where
  -- what is told of a change at (n, x) to the element above
  module _ (i : IsLinked t) (own said own1 said1 : ℕ → Y → ℕ) (n : ℕ) (x : Y)
      (others : (m : ℕ) (y : Y) → (n ≡ m → x ≡ y → ⊥) → seen own1 said1 y m ≡ seen own said y m) where
    not_there : (m : ℕ) (y : Y) → (Has n (t.children m) → x ≡ y → ⊥) → bearers (seen own1 said1 y) (t.children m) ≡ bearers (seen own said y) (t.children m)
    not_there m y off = bearers-alike (seen own said y) (seen own1 said1 y) (t.children m)
        (λ c h. others c y (λ e z. off (subst (λ d. Has d (t.children m)) (sym e) h) z))

    above : (o : Option ℕ) → t.parent n ≡ o → (m : ℕ) (y : Y)
        → bearers (seen own1 said1 y) (t.children m) + told eq o x (seen own said x n) m y ≡ bearers (seen own said y) (t.children m) + told eq o x (seen own1 said1 x n) m y
    above None root m y =
        let e = not_there m y (λ h z. let no : None ≡ Some m = sym root ∙ i.down m n h in cc) in omega arith
    above (Some q) up m y =
        elim (spot eq decides q x m y) [
          | inl same ↦
              subst (λ p. bearers (seen own1 said1 y) (t.children p) + told eq (Some q) x (seen own said x n) p y ≡ bearers (seen own said y) (t.children p) + told eq (Some q) x (seen own1 said1 x n) p y) same.0
              (subst (λ w. bearers (seen own1 said1 w) (t.children q) + told eq (Some q) x (seen own said x n) q w ≡ bearers (seen own said w) (t.children q) + told eq (Some q) x (seen own1 said1 x n) q w) same.1
              (let one = bearers-one (seen own said x) (seen own1 said1 x) n (t.children q) (i.apart q) (i.up q n up) (λ c off. others c x (λ e z. off (sym e))) in
              let a = told-here eq decides q x (seen own said x n) in let b = told-here eq decides q x (seen own1 said1 x n) in omega (arith, one, a, b)))
          | inr apart ↦
              let e = not_there m y (λ h z. apart (let same : Some q ≡ Some m = sym up ∙ i.down m n h in cc) z) in
              let a = told-off eq decides q x (seen own said x n) m y apart in let b = told-off eq decides q x (seen own1 said1 x n) m y apart in omega (arith, e, a, b)
        ]

  -- the counts of one spot have changed, by what waited there
  pub record Changes (own said own1 said1 : ℕ → Y → ℕ) (n : ℕ) (x : Y) (waits : Option (Change Y)) : Type 0 where
    pub own_others : (m : ℕ) (y : Y) → (n ≡ m → x ≡ y → ⊥) → own1 m y ≡ own m y
    pub said_others : (m : ℕ) (y : Y) → (n ≡ m → x ≡ y → ⊥) → said1 m y ≡ said m y
    pub here : said1 n x + falls eq waits n x ≡ said n x + rises eq waits n x
    pub quiet : (m : ℕ) (y : Y) → (n ≡ m → x ≡ y → ⊥) → (rises eq waits m y ≡ 0) × (falls eq waits m y ≡ 0)

  pub touched : IsLinked t → (own said own1 said1 : ℕ → Y → ℕ) (n : ℕ) (x : Y) (waits : Option (Change Y)) →
      Changes own said own1 said1 n x waits → IsPending eq t own said waits → IsTouched eq t own1 said1 n x (seen own said x n)
  touched i own said own1 said1 n x waits ch p = λ m y.
      let old = p m y in
      let up = above i own said own1 said1 n x (λ c w off. ap (λ a. is_seen a (said1 c w)) (ch.own_others c w off) ∙ ap (is_seen (own c w)) (ch.said_others c w off)) (t.parent n) refl m y in
      let move : said1 m y + falls eq waits m y ≡ said m y + rises eq waits m y =
      elim (spot eq decides n x m y) [
        | inl same ↦ subst (λ a. said1 a y + falls eq waits a y ≡ said a y + rises eq waits a y) same.0 (subst (λ b. said1 n b + falls eq waits n b ≡ said n b + rises eq waits n b) same.1 ch.here)
        | inr off ↦ let q = ch.quiet m y off in let one = q.0 in let two = q.1 in let e = ch.said_others m y off in omega (arith, one, two, e)
      ] in
      omega (arith, old, up, move)

  -- ---- what a touched element tells the one above

  module _ (own said : ℕ → Y → ℕ) (n : ℕ) (x : Y) (was : Bool) (h : IsTouched eq t own said n x was) where
    -- nothing, where it is seen there as it was
    pub told_same : seen own said x n ≡ was → IsSettled eq t own said
    told_same e = λ m y. let a = h m y in let b = ap (λ w. told eq (t.parent n) x w m y) e in omega (arith, a, b)

    -- nothing, where there is none
    pub told_root : t.parent n ≡ None → IsSettled eq t own said
    told_root root = λ m y.
        let a = h m y in
        let b : told eq (t.parent n) x (seen own said x n) m y ≡ 0 = ap (λ o. told eq o x (seen own said x n) m y) root in
        let c : told eq (t.parent n) x was m y ≡ 0 = ap (λ o. told eq o x was m y) root in omega (arith, a, b, c)

    other_is : (a b : Bool) → a ≢ b → b ≡ (if a then false else true)
    other_is true true o = absurd (o refl)
    other_is true false o = refl
    other_is false true o = refl
    other_is false false o = absurd (o refl)

    -- one bearer more or one less
    pub told_up : (p : ℕ) → t.parent n ≡ Some p → seen own said x n ≢ was → IsPending eq t own said (Some (record { at = p; what = x; grows = seen own said x n }))
    told_up p up off = λ m y.
        let a = h m y in
        let b : told eq (t.parent n) x (seen own said x n) m y ≡ told eq (Some p) x (seen own said x n) m y = ap (λ o. told eq o x (seen own said x n) m y) up in
        let c : told eq (t.parent n) x was m y ≡ told eq (Some p) x (if seen own said x n then false else true) m y =
        ap (λ o. told eq o x was m y) up ∙ ap (λ w. told eq (Some p) x w m y) (other_is (seen own said x n) was off) in omega (arith, a, b, c)

  -- ---- what changes

  -- one bearer more at the spot that waits
  pub one_bearer_more : (own said said1 : ℕ → Y → ℕ) (p : ℕ) (x : Y) → said1 p x ≡ said p x + 1 → ((m : ℕ) (y : Y) → (p ≡ m → x ≡ y → ⊥) → said1 m y ≡ said m y) →
      Changes own said own said1 p x (Some (record { at = p; what = x; grows = true }))
  one_bearer_more own said said1 p x more others = record {
    own_others = λ m y off. refl;
    said_others = others;
    here = let a = told-here eq decides p x true in let b = told-here eq decides p x false in omega (arith, more, a, b);
    quiet = λ m y off. (told-off eq decides p x true m y off, told-off eq decides p x false m y off);
  }

  -- one bearer less
  pub one_bearer_less : (own said said1 : ℕ → Y → ℕ) (p : ℕ) (x : Y) → said p x ≡ said1 p x + 1 → ((m : ℕ) (y : Y) → (p ≡ m → x ≡ y → ⊥) → said1 m y ≡ said m y) →
      Changes own said own said1 p x (Some (record { at = p; what = x; grows = false }))
  one_bearer_less own said said1 p x less others = record {
    own_others = λ m y off. refl;
    said_others = others;
    here = let a = told-here eq decides p x true in let b = told-here eq decides p x false in omega (arith, less, a, b);
    quiet = λ m y off. (told-off eq decides p x false m y off, told-off eq decides p x true m y off);
  }

  -- other own ones
  pub another_own : (own said own1 : ℕ → Y → ℕ) (n : ℕ) (x : Y) → ((m : ℕ) (y : Y) → (n ≡ m → x ≡ y → ⊥) → own1 m y ≡ own m y) → Changes own said own1 said n x None
  another_own own said own1 n x others = record { own_others = others; said_others = λ m y off. refl; here = refl; quiet = λ m y off. (refl, refl) }

  -- a bearer that is counted and is to go is counted
  pub can_fall : (own said : ℕ → Y → ℕ) (p : ℕ) (x : Y) → IsPending eq t own said (Some (record { at = p; what = x; grows = false })) → 1 ≤ said p x
  can_fall own said p x pending =
      let a = pending p x in
      let b : told eq (Some p) x false p x ≡ 0 = told-here eq decides p x false in
      let c : told eq (Some p) x true p x ≡ 1 = told-here eq decides p x true in
      omega (arith, a, b, c)

  -- nothing waits
  pub settled : (own said : ℕ → Y → ℕ) → IsPending eq t own said None → IsSettled eq t own said
  settled own said p = λ m y. let a = p m y in omega (arith, a)

  pub pending : (own said : ℕ → Y → ℕ) → IsSettled eq t own said → IsPending eq t own said None
  pending own said s = λ m y. let a = s m y in omega (arith, a)
