-- Steps below a node, as the code takes them.
use Rattle.std.proofs.Common.{◌≡◌, ℕ, ◌+◌, ◌^◌, ◌<◌, nat_eq, List, [], ◌∷◌, ◌++◌, Option, None, Some, length, refl, sym, ap, ◌∙◌, subst, inl, inr, ◌⊎◌, arith}
use Rattle.std.specs.Prelude.{if◌then◌else◌}
use Rattle.attr_uses.specs.declared.entry.Entry.{Entry}
use Rattle.attr_uses.specs.declared.join.Join.{Join}
use Rattle.attr_uses.specs.declared.join.Join.TheVariants.{Union}
use Rattle.attr_uses.specs.declared.join.Join.TheVariants as join
use Rattle.attr_uses.specs.declared.node.Node.{Node}
use Rattle.attr_uses.specs.Entries.{kept, joined}
use Rattle.attr_uses.specs.Nodes.{node_entry, node_at, find, IsMap, IsNoFork, IsNodeIn, AreNodes}
use Rattle.attr_uses.specs.Maps.{MapNodes, IsMapOf, KeepsMaps}
use Rattle.attr_uses.specs.Steps.{Grown, Puts, Combines}
use Rattle.attr_uses.proofs.GrowLaws.{grows-itself, grows-on}
use Rattle.attr_uses.proofs.MapLaws.{find-nothing, shape-nothing, finds-kept, maps-kept}
use Rattle.attr_uses.proofs.NodeLaws.{pushed}

pub unchanged : (ns : List Node) → AreNodes ns → Grown ns ns
unchanged ns are = record { more = grows-itself ns; are = are }

pub one_more : (ns : List Node) (node : Node) → AreNodes ns → IsNodeIn ns node → length ns + 1 < 2 ^ 32 → Grown ns (ns ++ node ∷ [])
one_more ns node are is few = record { more = (node ∷ [], refl); are = pushed ns node are is few }

pub grown_on : (a b c : List Node) → Grown a b → Grown b c → Grown a c
grown_on a b c g h = record { more = grows-on a b c g.more h.more; are = h.are }

-- the first part has nothing
pub combines_nothing : (how : Join) (ns : List Node) (d second : ℕ) → AreNodes ns → second < length ns → IsMap ns d second → Combines how ns ns d 0 second second
combines_nothing how ns d second are l is = record {
  there = l;
  shape = is;
  finds = λ key. rw (find-nothing ns are.first d key) refl;
}

-- the second part has nothing, or is the first
pub combines_kept : (how : Join) (ns : List Node) (d first second : ℕ) → AreNodes ns → first < length ns → IsMap ns d first → (second ≡ 0) ⊎ (first ≡ second) → Combines how ns ns d first second (kept how first)
combines_kept how ns d first second are l is same = record {
  there = at how;
  shape = shape how;
  finds = λ key. finds-kept how ns are.first d first key (find ns d second key) (which key same);
}
  where
    at : (h : Join) → kept h first < length ns
    at join.Union = l
    at join.Override = l
    at join.Without = are.some

    shape : (h : Join) → IsMap ns d (kept h first)
    shape join.Union = is
    shape join.Override = is
    shape join.Without = shape-nothing ns are.first d

    which : (key : ℕ) → (second ≡ 0) ⊎ (first ≡ second) → (find ns d second key ≡ None) ⊎ (find ns d second key ≡ find ns d first key)
    which key (inl z) = inl (ap (λ n. find ns d n key) z ∙ find-nothing ns are.first d key)
    which key (inr e) = inr (ap (λ n. find ns d n key) (sym e))

-- at the last level
pub combines_leaf : (how : Join) (old new : List Node) (first second made : ℕ) → made < length new → IsNoFork (node_at new made) → node_entry (node_at new made) ≡ joined how (node_entry (node_at old first)) (node_entry (node_at old second)) → Combines how old new 0 first second made
combines_leaf how old new first second made l is e = record { there = l; shape = is; finds = λ key. e }

pub puts_leaf : (old new : List Node) (at name : ℕ) (entry : Entry) (made : ℕ) → made < length new → IsNoFork (node_at new made) → name < 2 ^ 0 → node_entry (node_at new made) ≡ joined Union (node_entry (node_at old at)) (Some entry) → Puts old new 0 at name entry made
puts_leaf old new at name entry made l is small e = record {
  there = l;
  shape = is;
  finds = λ key h. (let k : key ≡ 0 = omega (arith, h) in let n : name ≡ 0 = omega (arith, small) in rw (k, n) e);
}

-- the public calls
module _ (old new : MapNodes) (are : AreNodes old.nodes) (deep : new.depth ≡ old.depth) (grown : Grown old.nodes new.nodes) where
  pub keeps : KeepsMaps old new
  keeps = maps-kept old new are deep grown.more

  pub put_map : (top name : ℕ) (entry : Entry) (made : ℕ) (was : ℕ → Option Entry) → IsMapOf old top was → Puts old.nodes new.nodes old.depth top name entry made →
      IsMapOf new made (λ key. if nat_eq key name then joined Union (was key) (Some entry) else was key)
  put_map top name entry made was is put = record {
    there = put.there;
    shape = rw deep put.shape;
    finds = λ key h. (let h' : key < 2 ^ old.depth = subst (λ d. key < 2 ^ d) deep h in
        ap (λ d. find new.nodes d made key) deep ∙ (put.finds key h' ∙ rw (is.finds key h') refl));
  }

  pub combined_map : (how : Join) (first second made : ℕ) (one two : ℕ → Option Entry) → IsMapOf old first one → IsMapOf old second two → Combines how old.nodes new.nodes old.depth first second made →
      IsMapOf new made (λ name. joined how (one name) (two name))
  combined_map how first second made one two a b c = record {
    there = c.there;
    shape = rw deep c.shape;
    finds = λ name h. (let h' : name < 2 ^ old.depth = subst (λ d. name < 2 ^ d) deep h in
        ap (λ d. find new.nodes d made name) deep ∙ (c.finds name ∙ rw (a.finds name h', b.finds name h') refl));
  }
