-- Ways upwards, and which nodes are below others.
use Rattle.std.proofs.Common.{◌≡◌, ◌≢◌, ℕ, zero, suc, ◌+◌, ◌<◌, ◌≤◌, List, [], ◌∷◌, Option, None, Some, refl, sym, ap, ◌∙◌, subst, inl, inr, arith}
use Rattle.std.specs.Prelude.{slice_get}
use Rattle.std.specs.Option.{option_and_then}
use Rattle.std.proofs.lemmas.Option.{same_Some, none-some}
use Rattle.doc_nodes.specs.Nodes.{Node, Nodes, node, IsNode, Has, IsSound, depth_by}
use Rattle.doc_changes.specs.Held.{parent_at}
use Rattle.doc_changes.proofs.Reading.{depth_below}
use Rattle.kept_forgetting.specs.Below.{upwards, IsBelow, IsWithin}

module _ (ns : Nodes) where
  abbrev pub depth : ℕ → ℕ
  depth n = depth_by (node ns n)

  pub self-within : (n : ℕ) → IsWithin ns n n
  self-within n = (0, refl)

  pub below-within : (n m : ℕ) → IsBelow ns n m → IsWithin ns n m
  below-within n m b = (suc b.0, b.1)

  -- one level more
  up-more : (levels m c n : ℕ) → upwards ns levels m ≡ Some c → parent_at ns c ≡ Some n → upwards ns (suc levels) m ≡ Some n
  up-more zero m c n e up = ap (option_and_then (upwards ns zero)) (subst (λ x. parent_at ns x ≡ Some n) (sym (same_Some m c e)) up)
  up-more (suc levels) m c n e up = by (parent_at ns m) refl e (λ p f. up-more levels p c n f up)
    where
      by : (o : Option ℕ) → parent_at ns m ≡ o → option_and_then (upwards ns levels) o ≡ Some c → ((p : ℕ) → upwards ns levels p ≡ Some c → upwards ns (suc levels) p ≡ Some n) →
          upwards ns (suc (suc levels)) m ≡ Some n
      by None q f more = absurd (none-some c f)
      by (Some p) q f more = ap (option_and_then (upwards ns (suc levels))) q ∙ more p f

  -- what is within a child is below its parent
  pub child-below : (c n m : ℕ) → parent_at ns c ≡ Some n → IsWithin ns c m → IsBelow ns n m
  child-below c n m up w = (w.0, up-more w.0 m c n w.1 up)

  module _ (sound : IsSound ns) where
    up-depth : (levels m n : ℕ) → upwards ns levels m ≡ Some n → depth m ≡ depth n + levels
    up-depth zero m n e = let same : depth m ≡ depth n = ap depth (same_Some m n e) in omega (arith, same)
    up-depth (suc levels) m n e = by (parent_at ns m) refl e (λ p f. up-depth levels p n f)
      where
        by : (o : Option ℕ) → parent_at ns m ≡ o → option_and_then (upwards ns levels) o ≡ Some n → ((p : ℕ) → upwards ns levels p ≡ Some n → depth p ≡ depth n + levels) →
            depth m ≡ depth n + suc levels
        by None q f more = absurd (none-some n f)
        by (Some p) q f more = omega (arith, depth_below ns p m sound q, more p f)

    -- it is at a greater depth
    pub below-deeper : (n m : ℕ) → IsBelow ns n m → depth n < depth m
    below-deeper n m b = omega (arith, up-depth (suc b.0) m n b.1)

    pub not-below : (n m : ℕ) → depth m ≤ depth n → IsBelow ns n m → ⊥
    not-below n m less b = let more = below-deeper n m b in omega (arith, more, less)

    same-level : (i j m c d : ℕ) → i ≡ j → upwards ns i m ≡ Some c → upwards ns j m ≡ Some d → c ≡ d
    same-level i j m c d e p q = same_Some c d (sym p ∙ ap (λ k. upwards ns k m) e ∙ q)

    -- nothing is within two children of one node
    pub siblings-apart : (n c d m : ℕ) → parent_at ns c ≡ Some n → parent_at ns d ≡ Some n → c ≢ d → IsWithin ns c m → IsWithin ns d m → ⊥
    siblings-apart n c d m p q other v w =
        let a = depth_below ns n c sound p in
        let b = depth_below ns n d sound q in
        let x = up-depth v.0 m c v.1 in
        let y = up-depth w.0 m d w.1 in
        other (same-level v.0 w.0 m c d (omega (arith, a, b, x, y)) v.1 w.1)

    -- nor is a node within its child
    pub parent-outside : (n c m : ℕ) → parent_at ns c ≡ Some n → depth m ≤ depth n → IsWithin ns c m → ⊥
    parent-outside n c m up less w = not-below n m less (child-below c n m up w)

-- ---- children of one node

pub parent-of : (ns : Nodes) → IsSound ns → (n c : ℕ) (it : Node) → IsNode ns n it → Has c it.children → parent_at ns c ≡ Some n
parent-of ns sound n c it is has =
    let child = sound.down n c it is has in
    ap (option_and_then (λ (x : Node). x.parent)) child.is ∙ child.parent

pub has-get : (xs : List ℕ) (i c : ℕ) → slice_get xs i ≡ Some c → Has c xs
has-get [] i c e = absurd (none-some c e)
has-get (x ∷ xs) zero c e = inl (same_Some x c e)
has-get (x ∷ xs) (suc i) c e = inr (has-get xs i c e)
