-- The numbers that planted nodes get.
use Rattle.std.proofs.Common.{◌≡◌, ℕ, ◌+◌, ◌≤◌, ◌<◌, List, Bool, true, false, ◌==◌, ◌||◌, nat_lt, ap, refl, inl, inr, arith}
use Rattle.std.proofs.lemmas.Bool.{or_left, or_right}
use Rattle.std.proofs.lemmas.Bool.Decides.{nat_tests}
use Rattle.tree_rows.specs.Forest.{Forest, none, text, element, count, deepest_of}
use Rattle.tree_rows.specs.Rows.{node as node_of}
use Rattle.tree_rows.specs.Whole.{times}
use Rattle.tree_rows.specs.declared.name.Expanded.{Expanded}
use Rattle.tree_rows.specs.declared.row.Attribute.{Attribute}
use Rattle.tree_rows.specs.declared.row.Binding.{Binding}
use Rattle.tree_rows.specs.declared.row.Content.{Content}
use Rattle.tree_rows.specs.declared.row.Content.TheVariants as rows
use Rattle.tree_building.proofs.Numbers.{IsOnce, times_in}
use Rattle.tree_edits.specs.Edits.{has, append, renumbered}
use Rattle.tree_edits.proofs.BlockNaming.{HaveNames}
use Rattle.tree_edits.proofs.Keeping.{count-renumbered, numbered_renumbered}
use Rattle.doc_changes.proofs.Standing.{has_times}
use Rattle.doc_changes.specs.inside.Growing.{numbered_by, behind}

pub behind_none : (s : ℕ) → behind s 0 ≡ s
behind_none free = omega arith

pub behind_more : (s : ℕ) (a b : ℕ) → behind (behind s a) b ≡ behind s (a + b)
behind_more free a b = omega arith

pub numbered_none : (s : ℕ) → numbered_by s none ≡ none
numbered_none free = refl

pub numbered_text : (s : ℕ) (n : ℕ) (chars : List ℕ) → numbered_by s (text n chars none) ≡ text s chars none
numbered_text free n chars = refl

pub numbered_element : (s : ℕ) (n : ℕ) (name : Expanded) (bindings : List Binding) (attributes : List Attribute) (children : Forest)
    → numbered_by s (element n name bindings attributes children none) ≡ element s name bindings attributes (numbered_by (behind s 1) children) none
numbered_element free n name bindings attributes children = refl

-- a node, and then its next siblings
pub numbered_node : (s : ℕ) (n : ℕ) (c : Content) (b : List Binding) (a : List Attribute) (children next : Forest)
    → numbered_by s (node_of n c b a children next)
    ≡ append (numbered_by s (node_of n c b a children none)) (numbered_by (behind s (count (node_of n c b a children none))) next)
numbered_node free n (rows.Element name) b a children next =
    ap (λ k. element free name b a (renumbered (free + 1) children) (renumbered k next)) (omega arith)
numbered_node free n (rows.Chars chars) b a children next = ap (λ k. text free chars (renumbered k next)) (omega arith)

-- numbers change no shape
deepest_renumbered : (free depth : ℕ) (f : Forest) → deepest_of depth (renumbered free f) ≡ deepest_of depth f
deepest_renumbered free depth none = refl
deepest_renumbered free depth (text n chars next) = deepest_renumbered (free + 1) depth next
deepest_renumbered free depth (element n name bindings attributes children next) =
    let below = deepest_renumbered (free + 1) (depth + 1) children in
    let later = deepest_renumbered (free + 1 + count children) depth next in
    omega (arith, below, later)

pub deepest_numbered : (s : ℕ) (depth : ℕ) (f : Forest) → deepest_of depth (numbered_by s f) ≡ deepest_of depth f
deepest_numbered free depth f = deepest_renumbered free depth f

pub count_numbered : (s : ℕ) (f : Forest) → count (numbered_by s f) ≡ count f
count_numbered free f = count-renumbered free f

names_renumbered : (free : ℕ) (f : Forest) → HaveNames f → HaveNames (renumbered free f)
names_renumbered free none h = tt
names_renumbered free (text n chars next) h = names_renumbered (free + 1) next h
names_renumbered free (element n name bindings attributes children next) h =
    (h.0, names_renumbered (free + 1) children h.1, names_renumbered (free + 1 + count children) next h.2)

pub names_numbered : (s : ℕ) (f : Forest) → HaveNames f → HaveNames (numbered_by s f)
names_numbered free f h = names_renumbered free f h

-- which numbers are given
within_if : (m low high t : ℕ) → IsOnce m low high t → 1 ≤ t → (low ≤ m) × (m < high)
within_if m low high t (inl zero_is) some = absurd (omega (arith, zero_is, some))
within_if m low high t (inr o) some = (o.1, o.2)

pub number_within : (free m : ℕ) (f : Forest) → has m (renumbered free f) ≡ true → (free ≤ m) × (m < free + count f)
number_within free m f h =
    within_if m free (free + count f) (times m (renumbered free f))
    (times_in m free (free + count f) (renumbered free f) (numbered_renumbered free f) (ap (λ k. free + k) (count-renumbered free f))) (has_times m (renumbered free f) h)

step_given : (free m : ℕ) (later : Bool) → free ≤ m → (free + 1 ≤ m → later ≡ true) → (b : Bool) → (free == m) ≡ b → (free == m || later) ≡ true
step_given free m later low h true e = or_left (free == m) later e
step_given free m later low h false e = or_right (free == m) later (h (grind (arith, nat_tests, e, low)))

split_given : (m mid : ℕ) (below beside : Bool) → (m < mid → below ≡ true) → (mid ≤ m → beside ≡ true) → (c : Bool) → nat_lt m mid ≡ c → (below || beside) ≡ true
split_given m mid below beside h k true e = or_left below beside (h (grind (arith, nat_tests, e)))
split_given m mid below beside h k false e = or_right below beside (k (grind (arith, nat_tests, e)))

pub number_given : (free m : ℕ) (f : Forest) → free ≤ m → m < free + count f → has m (renumbered free f) ≡ true
number_given free m none low high = absurd (omega (arith, low, high))
number_given free m (text n chars next) low high =
    step_given free m (has m (renumbered (free + 1) next)) low (λ l. number_given (free + 1) m next l (omega (arith, high))) (free == m) refl
number_given free m (element n name bindings attributes children next) low high =
    step_given free m (has m (renumbered (free + 1) children) || has m (renumbered (free + 1 + count children) next)) low
    (λ l. split_given m (free + 1 + count children) (has m (renumbered (free + 1) children)) (has m (renumbered (free + 1 + count children) next))
    (λ a. number_given (free + 1) m children l a) (λ a. number_given (free + 1 + count children) m next a (omega (arith, high))) (nat_lt m (free + 1 + count children)) refl)
    (free == m) refl
