-- Maps with an entry more, and two maps made one.
use Rattle.std.proofs.Common.{◌≡◌, ℕ, zero, suc, ◌-◌, ◌^◌, ◌<◌, ◌≤◌, nat_lt, Bool, true, false, List, Option, None, Some, length, refl, sym, ap, ◌∙◌, subst, inl, inr, ◌⊎◌, ◌||◌, arith}
use Rattle.std.specs.Prelude.{if◌then◌else◌}
use Rattle.std.proofs.lemmas.Bool.{cases_lt}
use Rattle.std.proofs.lemmas.Bool.Decides.{nat_tests}
use Rattle.attr_uses.specs.declared.entry.Entry.{Entry}
use Rattle.attr_uses.specs.declared.entry.UseAt.{UseAt}
use Rattle.attr_uses.specs.declared.entry.UseHolder.{UseHolder}
use Rattle.attr_uses.specs.declared.entry.UseHolder.TheVariants.{Complex as OfType, AttrGroup as OfGroup}
use Rattle.attr_uses.specs.declared.join.Join.{Join}
use Rattle.attr_uses.specs.declared.join.Join.TheVariants.{Union, Override, Without}
use Rattle.attr_uses.specs.declared.node.Node.{Node}
use Rattle.attr_uses.specs.declared.node.Node.TheVariants.{Empty}
use Rattle.attr_uses.specs.Entries.{same_holder, same_use, both_entries, kept, joined}
use Rattle.attr_uses.specs.Nodes.{node_left, node_right, node_entry, node_at, find, IsMap, IsNoFork, IsNoLeaf, AreNodes, Grows}
use Rattle.attr_uses.specs.Maps.{MapNodes, IsMapOf, KeepsMaps}
use Rattle.attr_uses.specs.Steps.{Combines}
use Rattle.attr_uses.proofs.GrowLaws.{below, above, grows-longer, find-kept, shape-kept}

abbrev no_entry : Option Entry
no_entry = None

-- the part of nothing
pub find-nothing : (ns : List Node) → node_at ns 0 ≡ Empty → (d key : ℕ) → find ns d 0 key ≡ None
find-nothing ns e zero key = ap node_entry e
find-nothing ns e (suc d) key =
    let l : find ns d (node_left (node_at ns 0)) key ≡ None = ap (λ x. find ns d (node_left x) key) e ∙ find-nothing ns e d key in
    let r : find ns d (node_right (node_at ns 0)) (key - 2 ^ d) ≡ None = ap (λ x. find ns d (node_right x) (key - 2 ^ d)) e ∙ find-nothing ns e d (key - 2 ^ d) in
    rw (l, r) (either (nat_lt key (2 ^ d)))
  where
    either : (b : Bool) → (if b then no_entry else no_entry) ≡ no_entry
    either true = refl
    either false = refl

pub shape-nothing : (ns : List Node) → node_at ns 0 ≡ Empty → (d : ℕ) → IsMap ns d 0
shape-nothing ns e zero = subst IsNoFork (sym e) tt
shape-nothing ns e (suc d) =
    (subst IsNoLeaf (sym e) tt, subst (λ x. IsMap ns d (node_left x)) (sym e) (shape-nothing ns e d), subst (λ x. IsMap ns d (node_right x)) (sym e) (shape-nothing ns e d))

-- what stands below a fork
module _ (ns : List Node) (d n left right : ℕ) (l : node_left (node_at ns n) ≡ left) (r : node_right (node_at ns n) ≡ right) where
  pub find-lower : (key : ℕ) → key < 2 ^ d → find ns (suc d) n key ≡ find ns d left key
  find-lower key h = rw (below key (2 ^ d) h, l) refl

  pub find-upper : (key : ℕ) → 2 ^ d ≤ key → find ns (suc d) n key ≡ find ns d right (key - 2 ^ d)
  find-upper key h = rw (above key (2 ^ d) h, r) refl

  pub shape-fork : IsNoLeaf (node_at ns n) → IsMap ns d left → IsMap ns d right → IsMap ns (suc d) n
  shape-fork kind a b = (kind, subst (IsMap ns d) (sym l) a, subst (IsMap ns d) (sym r) b)

same_holder-itself : (a : UseHolder) → same_holder a a ≡ true
same_holder-itself (OfType a) = grind (arith, nat_tests)
same_holder-itself (OfGroup a) = grind (arith, nat_tests)

pub same_use-itself : (a : UseAt) → same_use a a ≡ true
same_use-itself a = rw (same_holder-itself a.holder) (grind (arith, nat_tests))

both-itself : (e : Entry) → both_entries e e ≡ e
both-itself e = rw (same_use-itself e.first) (ap (λ (b : Bool). record e { double = b }) (twice e.double))
  where
    twice : (b : Bool) → (b || b || false) ≡ b
    twice true = refl
    twice false = refl

-- a part with nothing, and a part with itself
pub finds-kept : (how : Join) (ns : List Node) → node_at ns 0 ≡ Empty → (d first key : ℕ) (b : Option Entry) → ((b ≡ None) ⊎ (b ≡ find ns d first key)) → find ns d (kept how first) key ≡ joined how (find ns d first key) b
finds-kept Union ns e d first key b is = union (find ns d first key) b is
  where
    union : (a b : Option Entry) → ((b ≡ None) ⊎ (b ≡ a)) → a ≡ joined Union a b
    union a b (inl is) = rw is (with-none a)
      where
        with-none : (a : Option Entry) → a ≡ joined Union a None
        with-none None = refl
        with-none (Some x) = refl
    union a b (inr is) = rw is (with-itself a)
      where
        with-itself : (a : Option Entry) → a ≡ joined Union a a
        with-itself None = refl
        with-itself (Some x) = ap Some (sym (both-itself x))
finds-kept Override ns e d first key b is = override (find ns d first key) b is
  where
    override : (a b : Option Entry) → ((b ≡ None) ⊎ (b ≡ a)) → a ≡ joined Override a b
    override None b (inl is) = sym is
    override None b (inr is) = sym is
    override (Some x) None is = refl
    override (Some x) (Some y) is = refl
finds-kept Without ns e d first key b is = find-nothing ns e d key ∙ without (find ns d first key) b is
  where
    without : (a b : Option Entry) → ((b ≡ None) ⊎ (b ≡ a)) → None ≡ joined Without a b
    without None b (inl is) = sym is
    without None b (inr is) = sym is
    without (Some x) None is = refl
    without (Some x) (Some y) is = refl

-- the new part of two made one, of the same levels
module _ (how : Join) (old mid more new : List Node) (d first second left right made : ℕ) (are : AreNodes old) (are_mid : AreNodes mid) (are_more : AreNodes more)
    (g : Grows old mid) (h : Grows mid more) (k : Grows more new)
    (one : first < length old) (two : second < length old)
    (lower : Combines how old mid d (node_left (node_at old first)) (node_left (node_at old second)) left)
    (upper : Combines how mid more d (node_right (node_at old first)) (node_right (node_at old second)) right)
    (there : made < length new) (kind : IsNoLeaf (node_at new made)) (l : node_left (node_at new made) ≡ left) (r : node_right (node_at new made) ≡ right) where
  pub combines-fork : Combines how old new (suc d) first second made
  combines-fork = record {
    there = there;
    shape = shape-fork new d made left right l r kind
        (shape-kept more new are_more k d left (grows-longer mid more left h lower.there) (shape-kept mid more are_mid h d left lower.there lower.shape))
        (shape-kept more new are_more k d right upper.there upper.shape);
    finds = λ key. elim (cases_lt key (2 ^ d)) [
      | inl a ↦ (let x = find-lower new d made left right l r key a in
          let y = find-kept more new are_more k d left (grows-longer mid more left h lower.there) key ∙ find-kept mid more are_mid h d left lower.there key in
          x ∙ (y ∙ (lower.finds key ∙ sym (rw (below key (2 ^ d) a) refl))))
      | inr a ↦ (let x = find-upper new d made left right l r key a in
          let y = find-kept more new are_more k d right upper.there (key - 2 ^ d) in
          let p = find-kept old mid are g d (node_right (node_at old first)) (are.each first one).right (key - 2 ^ d) in
          let q = find-kept old mid are g d (node_right (node_at old second)) (are.each second two).right (key - 2 ^ d) in
          x ∙ (y ∙ (upper.finds (key - 2 ^ d) ∙ (rw (p, q) (sym (rw (above key (2 ^ d) a) refl))))))
    ];
  }

pub nothing-is : (maps : MapNodes) → AreNodes maps.nodes → IsMapOf maps 0 (λ name. None)
nothing-is maps are = record {
  there = are.some;
  shape = shape-nothing maps.nodes are.first maps.depth;
  finds = λ name h. find-nothing maps.nodes are.first maps.depth name;
}

-- every map is kept where nodes are added
pub maps-kept : (old new : MapNodes) → AreNodes old.nodes → new.depth ≡ old.depth → Grows old.nodes new.nodes → KeepsMaps old new
maps-kept old new are e g = record {
  depth = e;
  maps = λ top entries is. record {
    there = grows-longer old.nodes new.nodes top g is.there;
    shape = rw e (shape-kept old.nodes new.nodes are g old.depth top is.there is.shape);
    finds = λ name h. ap (λ d. find new.nodes d top name) e ∙ (find-kept old.nodes new.nodes are g old.depth top is.there name ∙ is.finds name (subst (λ d. name < 2 ^ d) e h));
  };
}
