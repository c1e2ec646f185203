-- What the calls ask for and give, on plain variables.
use Rattle.std.proofs.Common.{◌≡◌, ℕ, suc, ◌-◌, ◌*◌, ◌^◌, ◌<◌, ◌≤◌, Bool, false, List, Option, Result, Ok, Err, length, refl, sym, ap, ◌∙◌, subst, arith}
use Rattle.std.specs.Prelude.{IfOk, IsTrue}
use Rattle.std.proofs.Math.Nat.{pow-suc}
use Rattle.attr_uses.specs.declared.entry.Entry.{Entry}
use Rattle.attr_uses.specs.declared.join.Join.{Join}
use Rattle.attr_uses.specs.declared.node.Node.{Node}
use Rattle.attr_uses.specs.Nodes.{node_left, node_right, node_at, node_sum, find, IsMap, IsNoLeaf, AreNodes, Grows}
use Rattle.attr_uses.specs.Maps.{MapNodes, IsMapOf, KeepsMaps, TwoAre, entry_is, NoneNeeded}
use Rattle.attr_uses.specs.Steps.{Grown, Puts, Combines}
use Rattle.attr_uses.proofs.GrowLaws.{below, above, node-kept}
use Rattle.attr_uses.proofs.MapLaws.{combines-fork}
use Rattle.attr_uses.proofs.NodeLaws.{puts-lower, puts-upper}
use Rattle.attr_uses.proofs.StepLaws.{keeps}
use Rattle.attr_uses.proofs.SumLaws.{sum-none}
use Rattle.attr_uses.proofs.TwoLaws.{two-found, two-there}

pub one-less : (levels : ℕ) → 0 < levels → levels ≡ suc (levels - 1)
one-less levels h = omega (arith, h)

-- the parts of a fork
module _ (ns : List Node) (levels at : ℕ) (pos : 0 < levels) (is : IsMap ns levels at) where
  pub halves : IsNoLeaf (node_at ns at) × IsMap ns (levels - 1) (node_left (node_at ns at)) × IsMap ns (levels - 1) (node_right (node_at ns at))
  halves = subst (λ k. IsMap ns k at) (one-less levels pos) is

  pub half-lower : (key : ℕ) → key < 2 ^ (levels - 1) → find ns levels at key ≡ find ns (levels - 1) (node_left (node_at ns at)) key
  half-lower key h = ap (λ k. find ns k at key) (one-less levels pos) ∙ rw (below key (2 ^ (levels - 1)) h) refl

  pub half-upper : (key : ℕ) → 2 ^ (levels - 1) ≤ key → find ns levels at key ≡ find ns (levels - 1) (node_right (node_at ns at)) (key - 2 ^ (levels - 1))
  half-upper key h = ap (λ k. find ns k at key) (one-less levels pos) ∙ rw (above key (2 ^ (levels - 1)) h) refl

module _ (old mid new : List Node) (levels at name : ℕ) (entry : Entry) (left right : ℕ) (pos : 0 < levels) (are : AreNodes old) (g : Grown old mid) (k : Grown mid new)
    (here : at < length old) (shape : IsMap old levels at) where
  shape' : IsMap old (suc (levels - 1)) at
  shape' = subst (λ n. IsMap old n at) (one-less levels pos) shape

  pub put-in-lower : {E : Type 0} → name < 2 ^ (levels - 1) → Puts old mid (levels - 1) (node_left (node_at old at)) name entry left → right ≡ node_right (node_at old at) →
      (r : Result ℕ E) → IfOk r (λ n. n < length new) → IfOk r (λ n. IsNoLeaf (node_at new n)) → IfOk r (λ n. node_left (node_at new n) ≡ left) → IfOk r (λ n. node_right (node_at new n) ≡ right) →
      IfOk r (λ n. Puts old new levels at name entry n)
  put-in-lower small put same (Ok n) l is a b =
      subst (λ d. Puts old new d at name entry n) (sym (one-less levels pos)) (puts-lower old mid new (levels - 1) at name entry n left right are g.are g.more k.more here shape' l is a b small put same)
  put-in-lower small put same (Err e) l is a b = tt

  pub put-in-upper : {E : Type 0} → 2 ^ (levels - 1) ≤ name → Puts old mid (levels - 1) (node_right (node_at old at)) (name - 2 ^ (levels - 1)) entry right → left ≡ node_left (node_at old at) →
      (r : Result ℕ E) → IfOk r (λ n. n < length new) → IfOk r (λ n. IsNoLeaf (node_at new n)) → IfOk r (λ n. node_left (node_at new n) ≡ left) → IfOk r (λ n. node_right (node_at new n) ≡ right) →
      IfOk r (λ n. Puts old new levels at name entry n)
  put-in-upper big put same (Ok n) l is a b =
      subst (λ d. Puts old new d at name entry n) (sym (one-less levels pos)) (puts-upper old mid new (levels - 1) at name entry n left right are g.are g.more k.more here shape' l is a b big put same)
  put-in-upper big put same (Err e) l is a b = tt

module _ (how : Join) (old mid more new : List Node) (levels first second left right : ℕ) (pos : 0 < levels) (are : AreNodes old) (g : Grown old mid) (h : Grown mid more) (k : Grown more new)
    (one : first < length old) (two : second < length old) where
  pub combine-in-fork : {E : Type 0} → Combines how old mid (levels - 1) (node_left (node_at old first)) (node_left (node_at old second)) left →
      Combines how mid more (levels - 1) (node_right (node_at old first)) (node_right (node_at old second)) right →
      (r : Result ℕ E) → IfOk r (λ n. n < length new) → IfOk r (λ n. IsNoLeaf (node_at new n)) → IfOk r (λ n. node_left (node_at new n) ≡ left) → IfOk r (λ n. node_right (node_at new n) ≡ right) →
      IfOk r (λ n. Combines how old new levels first second n)
  combine-in-fork lower upper (Ok n) l is a b =
      subst (λ d. Combines how old new d first second n) (sym (one-less levels pos)) (combines-fork how old mid more new (levels - 1) first second left right n are g.are h.are g.more h.more k.more one two lower upper l is a b)
  combine-in-fork lower upper (Err e) l is a b = tt

-- a node that stays where others are added
pub no-leaf-kept : (old new : List Node) (n : ℕ) → Grows old new → n < length old → IsNoLeaf (node_at old n) → IsNoLeaf (node_at new n)
no-leaf-kept old new n g l is = subst IsNoLeaf (sym (node-kept old new n g l)) is

-- a turn of looking up
module _ (ns : List Node) (levels at rest : ℕ) (target : Option Entry) (are : AreNodes ns) (here : at < length ns) (pos : 0 < levels) (is : find ns levels at rest ≡ target) where
  split : find ns (suc (levels - 1)) at rest ≡ target
  split = ap (λ k. find ns k at rest) (sym (one-less levels pos)) ∙ is

  pub found-lower : rest < 2 ^ (levels - 1) → find ns (levels - 1) (node_left (node_at ns at)) rest ≡ target
  found-lower h = sym (rw (below rest (2 ^ (levels - 1)) h) refl) ∙ split

  pub found-upper : 2 ^ (levels - 1) ≤ rest → find ns (levels - 1) (node_right (node_at ns at)) (rest - 2 ^ (levels - 1)) ≡ target
  found-upper h = sym (rw (above rest (2 ^ (levels - 1)) h) refl) ∙ split

-- two entries of types of ids
module _ (maps : MapNodes) (are : AreNodes maps.nodes) (top : ℕ) (has : ℕ → Option Entry) (is : IsMapOf maps top has) where
  moved : (f g : ℕ → Option Entry) → ((name : ℕ) → name < 2 ^ maps.depth → f name ≡ g name) → TwoAre maps.depth (λ e. e.id) f → TwoAre maps.depth (λ e. e.id) g
  moved f g same w = (w.0, w.1, w.2, w.3, sym (ap (entry_is (λ e. e.id)) (same w.0 (omega (arith, w.2, w.3)))) ∙ w.4, sym (ap (entry_is (λ e. e.id)) (same w.1 w.3)) ∙ w.5)

  pub two-told : (b : Bool) → b ≡ (node_sum (node_at maps.nodes top)).two_ids → (IsTrue b → TwoAre maps.depth (λ e. e.id) has) × (TwoAre maps.depth (λ e. e.id) has → IsTrue b)
  two-told b e = (
    λ t. moved (find maps.nodes maps.depth top) has is.finds (two-found maps.nodes are maps.depth top is.there is.shape (sym e ∙ t)),
    λ w. e ∙ two-there maps.nodes are maps.depth top is.there is.shape (moved has (find maps.nodes maps.depth top) (λ name h. sym (is.finds name h)) w),
  )

-- what no entry below a node needs
module _ (ns : List Node) (are : AreNodes ns) (levels at from : ℕ) (here : at < length ns) (shape : IsMap ns levels at) where
  pub none-needed : (node_sum (node_at ns at)).needed ≡ false → NoneNeeded (find ns levels at) from (2 ^ levels)
  none-needed e = λ name a b. sum-none ns are (λ e. e.needed) (λ s. s.needed) refl (λ e. refl) (λ a b. refl) levels at here shape e name b

pub small-upper : (levels name : ℕ) → 0 < levels → name < 2 ^ levels → 2 ^ (levels - 1) ≤ name → name - 2 ^ (levels - 1) < 2 ^ (levels - 1)
small-upper levels name pos h a =
    let wide : 2 ^ levels ≡ 2 ^ (levels - 1) * 2 = ap (λ k. 2 ^ k) (one-less levels pos) ∙ pow-suc 2 (levels - 1) in
    omega (arith, h, a, wide)

pub kept-view : (depth : ℕ) (old new : List Node) → AreNodes old → Grown old new → (maps : MapNodes) → record { depth = depth; nodes = old } ≡ maps → KeepsMaps maps record { depth = depth; nodes = new }
kept-view depth old new are grown maps is =
    subst (λ (m : MapNodes). KeepsMaps m record { depth = depth; nodes = new }) is (keeps record { depth = depth; nodes = old } record { depth = depth; nodes = new } are refl grown)
