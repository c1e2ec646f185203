-- The next name for which two maps may differ, by halves.
use Rattle.std.proofs.Common.{◌≡◌, ℕ, zero, suc, ◌+◌, ◌-◌, ◌*◌, ◌^◌, ◌<◌, ◌≤◌, List, Option, None, Some, length, refl, sym, subst, ap, ◌∙◌, inl, inr, arith}
use Rattle.std.specs.Option.{option_map}
use Rattle.std.proofs.lemmas.Bool.{cases_lt}
use Rattle.std.proofs.Math.Nat.{pow-suc}
use Rattle.attr_uses.specs.declared.entry.Entry.{Entry}
use Rattle.attr_uses.specs.declared.node.Node.{Node}
use Rattle.attr_uses.specs.Nodes.{node_left, node_right, node_at, find, IsMap, AreNodes}
use Rattle.attr_uses.specs.Maps.{AreAlike, IsUnlikeNext, IsNextUnlike}
use Rattle.attr_uses.proofs.CallLaws.{one-less, half-lower, half-upper}

-- two wholes, their lower and their upper halves
module _ (d : ℕ) (whole lower upper also also_lower also_upper : ℕ → Option Entry)
    (in_lower : (key : ℕ) → key < 2 ^ d → whole key ≡ lower key) (in_upper : (key : ℕ) → 2 ^ d ≤ key → whole key ≡ upper (key - 2 ^ d))
    (also_in_lower : (key : ℕ) → key < 2 ^ d → also key ≡ also_lower key) (also_in_upper : (key : ℕ) → 2 ^ d ≤ key → also key ≡ also_upper (key - 2 ^ d)) (from : ℕ) where
  wide : 2 ^ suc d ≡ 2 ^ d * 2
  wide = pow-suc 2 d

  alike-before : AreAlike lower also_lower from (2 ^ d) → (bound : ℕ) → AreAlike upper also_upper (from - 2 ^ d) bound → AreAlike whole also from (2 ^ d + bound)
  alike-before low bound high name a b = elim (cases_lt name (2 ^ d)) [
    | inl l ↦ in_lower name l ∙ (low name a l ∙ sym (also_in_lower name l))
    | inr g ↦ in_upper name g ∙ (high (name - 2 ^ d) (omega (arith, a)) (omega (arith, b)) ∙ sym (also_in_upper name g))
  ]

  pub unlike-upper : AreAlike lower also_lower from (2 ^ d) → (next : Option ℕ) → IsNextUnlike d upper also_upper (from - 2 ^ d) next → IsNextUnlike (suc d) whole also from (option_map (λ m. 2 ^ d + m) next)
  unlike-upper low None high = λ name a b. alike-before low (2 ^ d) high name a (omega (arith, b, wide))
  unlike-upper low (Some m) high = record {
    behind = omega (arith, high.behind);
    within = omega (arith, high.within, wide);
    alike = alike-before low m high.alike;
  }

  pub unlike-lower : (name : ℕ) → IsUnlikeNext d lower also_lower from name → IsUnlikeNext (suc d) whole also from name
  unlike-lower name is = record {
    behind = is.behind;
    within = omega (arith, is.within, wide);
    alike = λ other a b. in_lower other (omega (arith, b, is.within)) ∙ (is.alike other a b ∙ sym (also_in_lower other (omega (arith, b, is.within))));
  }

-- of one name
pub unlike-first : (one other : ℕ → Option Entry) → IsUnlikeNext 0 one other 0 0
unlike-first one other = record { behind = omega arith; within = omega arith; alike = λ name a b. absurd (omega (arith, b)) }

pub unlike-past : (one other : ℕ → Option Entry) (from : ℕ) → 0 < from → AreAlike one other from (2 ^ 0)
unlike-past one other from h = λ name a b. absurd (omega (arith, h, a, b))

-- below two nodes
module _ (ns : List Node) (levels one other from : ℕ) (pos : 0 < levels) (one_shape : IsMap ns levels one) (other_shape : IsMap ns levels other) where
  abbrev lower : ℕ → ℕ → Option Entry
  lower at = find ns (levels - 1) (node_left (node_at ns at))

  abbrev upper : ℕ → ℕ → Option Entry
  upper at = find ns (levels - 1) (node_right (node_at ns at))

  back : (next : Option ℕ) → IsNextUnlike (suc (levels - 1)) (find ns levels one) (find ns levels other) from next → IsNextUnlike levels (find ns levels one) (find ns levels other) from next
  back next h = subst (λ k. IsNextUnlike k (find ns levels one) (find ns levels other) from next) (sym (one-less levels pos)) h

  pub unlike-in-upper : AreAlike (lower one) (lower other) from (2 ^ (levels - 1)) → (start : ℕ) → start ≡ from - 2 ^ (levels - 1) → (next result : Option ℕ) → IsNextUnlike (levels - 1) (upper one) (upper other) start next →
      result ≡ option_map (λ m. 2 ^ (levels - 1) + m) next → IsNextUnlike levels (find ns levels one) (find ns levels other) from result
  unlike-in-upper low start is next result h e =
      subst (IsNextUnlike levels (find ns levels one) (find ns levels other) from) (sym e)
      (back (option_map (λ m. 2 ^ (levels - 1) + m) next)
      (unlike-upper (levels - 1) (find ns levels one) (lower one) (upper one) (find ns levels other) (lower other) (upper other)
      (half-lower ns levels one pos one_shape) (half-upper ns levels one pos one_shape) (half-lower ns levels other pos other_shape) (half-upper ns levels other pos other_shape) from low next
      (subst (λ s. IsNextUnlike (levels - 1) (upper one) (upper other) s next) is h)))

  pub unlike-in-lower : (name : ℕ) → IsUnlikeNext (levels - 1) (lower one) (lower other) from name → IsNextUnlike levels (find ns levels one) (find ns levels other) from (Some name)
  unlike-in-lower name h =
      back (Some name) (unlike-lower (levels - 1) (find ns levels one) (lower one) (upper one) (find ns levels other) (lower other) (upper other)
      (half-lower ns levels one pos one_shape) (half-upper ns levels one pos one_shape) (half-lower ns levels other pos other_shape) (half-upper ns levels other pos other_shape) from name h)

-- the entries that two maps stand for
pub unlike-of : (depth : ℕ) (f g has also : ℕ → Option Entry) → ((name : ℕ) → name < 2 ^ depth → f name ≡ has name) → ((name : ℕ) → name < 2 ^ depth → g name ≡ also name) → (from : ℕ) (next : Option ℕ) →
    IsNextUnlike depth f g from next → IsNextUnlike depth has also from next
unlike-of depth f g has also e u from None alike = λ name a b. sym (e name b) ∙ (alike name a b ∙ u name b)
unlike-of depth f g has also e u from (Some next) is = record {
  behind = is.behind;
  within = is.within;
  alike = λ name a b. let l = is.within in sym (e name (omega (arith, b, l))) ∙ (is.alike name a b ∙ u name (omega (arith, b, l)));
}

-- the same below the same nodes
pub unlike-below : (ns : List Node) (levels one two other another : ℕ) → one ≡ two → other ≡ another → (from : ℕ) (next : Option ℕ) → IsNextUnlike levels (find ns levels one) (find ns levels other) from next →
    IsNextUnlike levels (find ns levels two) (find ns levels another) from next
unlike-below ns levels one two other another e f from next is =
    subst (λ x. IsNextUnlike levels (find ns levels two) (find ns levels x) from next) f (subst (λ x. IsNextUnlike levels (find ns levels x) (find ns levels other) from next) e is)
