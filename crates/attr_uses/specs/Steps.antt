-- What one step below a node makes.
use Rattle.std.specs.Prelude.{◌≡◌, ℕ, ◌^◌, ◌<◌, nat_eq, List, Some, length, if◌then◌else◌}
use Rattle.attr_uses.specs.declared.entry.Entry.{Entry}
use Rattle.attr_uses.specs.declared.join.Join.{Join}
use Rattle.attr_uses.specs.declared.join.Join.TheVariants.{Union}
use Rattle.attr_uses.specs.declared.node.Node.{Node}
use Rattle.attr_uses.specs.Entries.{joined}
use Rattle.attr_uses.specs.Nodes.{find, IsMap, AreNodes, Grows}

-- more nodes behind the old ones, and still nodes
pub record Grown (old new : List Node) : Type 0 where
  pub more : Grows old new
  pub are : AreNodes new

-- below the new node stands what stood below the old one, and one entry
pub record Puts (old new : List Node) (levels at name : ℕ) (entry : Entry) (made : ℕ) : Type 0 where
  pub there : made < length new
  pub shape : IsMap new levels made
  pub finds : (key : ℕ) → key < 2 ^ levels → find new levels made key ≡ (if nat_eq key name then joined Union (find old levels at key) (Some entry) else find old levels at key)

-- below the new node stands what stood below two, made one
pub record Combines (how : Join) (old new : List Node) (levels first second made : ℕ) : Type 0 where
  pub there : made < length new
  pub shape : IsMap new levels made
  pub finds : (key : ℕ) → find new levels made key ≡ joined how (find old levels first key) (find old levels second key)
