-- The state after the map of a node.
use Rattle.std.proofs.Common.{◌≡◌, ℕ, Bool, List, length, sym, ap, ◌∙◌}
use Rattle.leaf_trees.specs.declared.node.Node.{Node}
use Rattle.leaf_trees.specs.Tree.{Tree}
use Rattle.child_trees.specs.Cells.{CellMaps, map_at, AreMaps}
use Rattle.child_trees.specs.Laws.{SummaryLaws}
use Rattle.child_trees.specs.Lists.{acts_along}
use Rattle.child_trees.specs.Sums.{entries, HasCells, HasSums}
use Rattle.child_trees.proofs.Along.{acts_root, AreActs, AreActs-entries}

-- it is the state after all leaves below
pub node_acts : {Shape Map State : Type 0} {is_state : Shape → State → Type 0} {is_map : Shape → Map → Type 0} {unit : Shape → Map} {join : Map → Map → Map} {acts : Map → State → State} {is_dead : Shape → State → Bool} (laws : SummaryLaws is_state is_map unit join acts is_dead) (v : CellMaps Shape Map) (ns : List Node) (i : ℕ) (t : Tree) → HasSums unit join v ns i t → AreMaps is_map v → (s : State) → is_state v.shape s → (x : State) → x ≡ acts (map_at unit v i) s → x ≡ acts_along acts s (entries (map_at unit v) t)
node_acts {is_state = is_state} {is_map = is_map} {unit = unit} {join = join} {acts = acts} {is_dead = is_dead} laws v ns i t h maps s k x e =
    e ∙ ap (λ j. acts (map_at unit v j) s) (sym h.cells.has.top_is)
    ∙ acts_root is_state is_map unit join acts is_dead laws v.shape (map_at unit v) t h.sums (λ j l. maps j (unit v.shape) (h.cells.within j l)) s k

-- each entry below has a map of the summary's
pub node_maps : {Shape Map State : Type 0} {is_state : Shape → State → Type 0} {is_map : Shape → Map → Type 0} {unit : Shape → Map} {join : Map → Map → Map} {acts : Map → State → State} {is_dead : Shape → State → Bool} (laws : SummaryLaws is_state is_map unit join acts is_dead) (v : CellMaps Shape Map) (ns : List Node) (i : ℕ) (t : Tree) → HasCells (length v.maps) ns i t → AreMaps is_map v → AreActs is_state is_map unit join acts is_dead laws v.shape (map_at unit v) (entries (map_at unit v) t)
node_maps {is_state = is_state} {is_map = is_map} {unit = unit} {join = join} {acts = acts} {is_dead = is_dead} laws v ns i t h maps =
    AreActs-entries is_state is_map unit join acts is_dead laws v.shape (map_at unit v) t (λ j l. maps j (unit v.shape) (h.within j l))
