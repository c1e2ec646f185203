-- What the tasks of a walk lead to, and how much they are.
use Rattle.std.proofs.Common.{◌≡◌, ℕ, zero, suc, ◌+◌, ◌*◌, ◌<◌, ◌≤◌, ◌^◌, ◌==◌, ◌||◌, IsTrue, Option, List, [], ◌∷◌, ◌++◌, length, map, take, reverse, get_or, replicate, All, sym, refl, ap, ◌∙◌, inl, inr, arith, append_assoc, append-nil, length-append, suc-mul, zero-mul}
use Rattle.std.proofs.lemmas.List.{reverse-append, reverse-reverse}
use Rattle.std.proofs.lemmas.Bool.{and_parts}
use Rattle.std.proofs.lemmas.List.Elements.{All-nil}
use Rattle.xs_positions.specs.Tree.{Tree, one, empty, chain, nothing, either, repeat, size, copies, sequence_of, choice_of}
use Rattle.xs_positions.specs.Nodes.{tree_at, tree_of, trees_of, ids_of, ids_at, PartsBelow, IsOrdered}
use Rattle.xs_positions.specs.PositionWords.{IsWord, Passes}
use Rattle.xs_positions.specs.Measures.{has_word, has_rounds, measure_of}
use Rattle.xs_positions.specs.Sets.{Describes}
use Rattle.xs_positions.specs.Parts.{IsPartOf, AreParts, sets_of, unused}
use Rattle.xs_positions.specs.Walk.{tree_in, trees_in}
use Rattle.xs_positions.specs.Walking.{CanDo, IsBuilt, Does, Visits}
use Rattle.xs_positions.specs.Listing.{steps}
use Rattle.xs_positions.specs.Copies.{AreCopies}
use Rattle.xs_positions.specs.declared.expr.Node.{Node}
use Rattle.xs_positions.specs.declared.expr.Node.TheVariants.{Symbol, Sequence, Choice, Repeat}
use Rattle.xs_positions.specs.declared.sets.Part.{Part}
use Rattle.xs_positions.specs.declared.measures.Measure.{Measure}
use Rattle.xs_positions.specs.declared.walk.Task.{Task}
use Rattle.xs_positions.specs.declared.walk.Task.TheVariants.{Visit, Build}
use Rattle.xs_positions.specs.declared.walk.Walk.{Walk}
use Rattle.xs_positions.proofs.Growing.{tree_is}
use Rattle.xs_positions.proofs.Walking.{node_tree}
use Rattle.xs_positions.proofs.Measuring.{get_or-map, size-sequence_of}
use Rattle.xs_positions.proofs.Parting.{parts_length, part_pushed, parts_split, copies_size}
use Rattle.xs_positions.proofs.Steps.{choice_size, unused_sets}

-- ---- the parts of a node
abbrev pub all_steps : List Tree → ℕ
all_steps [] = 0
all_steps (t ∷ ts) = steps t + all_steps ts

steps-sequence_of : (ts : List Tree) → steps (sequence_of ts) ≡ all_steps ts + 1
steps-sequence_of [] = refl
steps-sequence_of (t ∷ ts) = let e = steps-sequence_of ts in omega arith

steps-choice_of : (ts : List Tree) → steps (choice_of ts) ≡ all_steps ts + 1
steps-choice_of [] = refl
steps-choice_of (t ∷ ts) = let e = steps-choice_of ts in omega arith

steps-copies : (n : ℕ) (t : Tree) → all_steps (replicate n t) ≡ n * steps t
steps-copies zero t = sym (zero-mul (steps t))
steps-copies (suc n) t = let a = steps-copies n t in let b : suc n * steps t ≡ n * steps t + steps t = suc-mul n (steps t) in omega arith

pub map-copies : (f : ℕ → Tree) (n x : ℕ) → map f (replicate n x) ≡ replicate n (f x)
map-copies f zero x = refl
map-copies f (suc n) x = ap (λ ts. f x ∷ ts) (map-copies f n x)

-- the parts of a tree of a node are not larger, and take fewer steps
node_size : (trees : List Tree) (n : Node) → size (sequence_of (map (tree_at trees) (ids_of n))) ≤ size (tree_of trees n)
node_size trees (Symbol s) = omega arith
node_size trees (Sequence parts) = omega arith
node_size trees (Choice parts) = let e = choice_size (map (tree_at trees) parts.items) in omega arith
node_size trees (Repeat part n m) =
    let e = ap (λ ts. size (sequence_of ts)) (map-copies (tree_at trees) (copies n m) part) ∙ copies_size (copies n m) (tree_at trees part) in omega arith

node_steps : (trees : List Tree) (n : Node) → all_steps (map (tree_at trees) (ids_of n)) < steps (tree_of trees n)
node_steps trees (Symbol s) = omega arith
node_steps trees (Sequence parts) = let e = steps-sequence_of (map (tree_at trees) parts.items) in omega arith
node_steps trees (Choice parts) = let e = steps-choice_of (map (tree_at trees) parts.items) in omega arith
node_steps trees (Repeat part n m) =
    let e = ap all_steps (map-copies (tree_at trees) (copies n m) part) ∙ steps-copies (copies n m) (tree_at trees part) in omega arith

All-copies : (P : ℕ → Type 0) (n x : ℕ) → P x → All P (replicate n x)
All-copies P zero x h k d l = absurd (omega arith)
All-copies P (suc n) x h zero d l = h
All-copies P (suc n) x h (suc k) d l = All-copies P n x h k d (omega arith)

node_ids : (b : ℕ) (n : Node) → PartsBelow b n → All (λ p. p < b) (ids_of n)
node_ids b (Symbol s) h = All-nil (λ p. p < b)
node_ids b (Sequence parts) h = h
node_ids b (Choice parts) h = h
node_ids b (Repeat part n m) h = All-copies (λ p. p < b) (copies n m) part h

some_node : Node
some_node = Symbol 0

module _ (ns : List Node) (ordered : IsOrdered ns) (id : ℕ) (l : id < length ns) where
  ids_is : ids_at ns id ≡ ids_of (get_or ns id some_node)
  ids_is = get_or-map ids_of ns id some_node [] l

  tree_node : tree_in ns id ≡ tree_of (trees_of ns) (get_or ns id some_node)
  tree_node = tree_is ns id some_node ordered l

  pub parts_size : size (sequence_of (trees_in ns (ids_at ns id))) ≤ size (tree_in ns id)
  parts_size = rw (ids_is, tree_node) (node_size (trees_of ns) (get_or ns id some_node))

  pub parts_steps : all_steps (trees_in ns (ids_at ns id)) < steps (tree_in ns id)
  parts_steps = rw (ids_is, tree_node) (node_steps (trees_of ns) (get_or ns id some_node))

  pub parts_known : All (λ p. p < length ns) (ids_at ns id)
  parts_known = rw ids_is (λ k d h. let b = node_ids id (get_or ns id some_node) (ordered id some_node l) k d h in omega arith)

pub ids_here : (ns : List Node) (id j : ℕ) (n : Node) → id < length ns → j ≡ id → n ≡ get_or ns j n → ids_at ns id ≡ ids_of n
ids_here ns id j n l same is = get_or-map ids_of ns id n [] l ∙ (ap (λ k. ids_of (get_or ns k n)) (sym same) ∙ ap ids_of (sym is))

-- the parts that are read at a number take fewer steps, and have numbers of nodes
pub parts_inside : (ns : List Node) → IsOrdered ns → (id : ℕ) → id < length ns → (j : ℕ) (n x : Node) → j ≡ id → n ≡ get_or ns j n → n ≡ x → (ids : List ℕ) → ids ≡ ids_of x →
    (all_steps (trees_in ns ids) < steps (tree_in ns id)) × All (λ p. p < length ns) ids
parts_inside ns ordered id l j n x same is e ids f =
    let here : ids_at ns id ≡ ids = get_or-map ids_of ns id n [] l ∙ (ap (λ k. ids_of (get_or ns k n)) (sym same) ∙ (ap ids_of (sym is ∙ e) ∙ sym f)) in
    (rw here at (parts_steps ns ordered id l), rw here at (parts_known ns ordered id l))

-- ---- the copies of a repeat's part
pub copies_given : (ns : List Node) → IsOrdered ns → (id : ℕ) → id < length ns → (j : ℕ) (n : Node) → j ≡ id → n ≡ get_or ns j n →
    {part least : ℕ} {most : Option ℕ} → n ≡ Repeat part least most → (base : ℕ) (found : List Part) → AreParts base (trees_in ns (ids_at ns id)) found →
    IsTrue (has_word (tree_in ns id)) → base + size (tree_in ns id) < 2 ^ 32 → IsTrue (has_word (tree_in ns part)) → AreCopies (tree_in ns part) base least most found
copies_given ns ordered id l j n same is {part} {least} {most} e base found parts words fits word =
    let t : tree_in ns id ≡ repeat (tree_in ns part) least most = node_tree ns id j n (Repeat part least most) ordered l same is e in
    let h : ids_at ns id ≡ replicate (copies least most) part = ids_here ns id j n l same is ∙ ap ids_of e in
    let m : trees_in ns (replicate (copies least most) part) ≡ replicate (copies least most) (tree_in ns part) = map-copies (tree_in ns) (copies least most) part in
    let rounds = and_parts (has_rounds least most) (least == 0 || has_word (tree_in ns part)) (rw t at words) in
    record { parts = rw m at (rw h at parts); word = word; rounds = rounds.0; fits = rw t at fits }

-- ---- one task
pub passes : (ns : List Node) (id : ℕ) (old new : Walk) (m : Measure) (part : Part) → m ≡ measure_of (tree_in ns id) → size (tree_in ns id) < 2 ^ 32 →
    ((p : ℕ) → Passes (IsWord (tree_in ns id) old.count) p → ⊥) → sets_of part ≡ unused m.size → part.nullable ≡ m.nullable →
    new.found.items ≡ old.found.items ++ part ∷ [] → new.count ≡ old.count + m.size → new.tasks.items ≡ old.tasks.items → Visits ns id old new
passes ns id old new m part e l none made n f k t = inl record {
  part = part;
  is = record { sets = unused_sets (tree_in ns id) old.count m part e l none made; nullable = n ∙ ap (λ x. x.nullable) e };
  found = f;
  count = (let s = ap (λ x. x.size) e in omega arith);
  tasks = t;
}

pub opens : (ns : List Node) (id : ℕ) (old new : Walk) (m : Measure) (ids : List ℕ) → m ≡ measure_of (tree_in ns id) → IsTrue m.inhabited → ids_at ns id ≡ ids →
    new.found.items ≡ old.found.items → new.count ≡ old.count →
    new.tasks.items ≡ (old.tasks.items ++ Build id old.count (length old.found.items) ∷ []) ++ reverse (map Visit ids) → Visits ns id old new
opens ns id old new m ids e w here f k t = inr record {
  words = sym (ap (λ x. x.inhabited) e) ∙ w;
  found = f;
  count = k;
  tasks = t ∙ ap (λ l. (old.tasks.items ++ Build id old.count (length old.found.items) ∷ []) ++ reverse (map Visit l)) (sym here);
}

pub builds_one : (ns : List Node) (id base below : ℕ) (old new : Walk) (m : Measure) (part : Part) → m ≡ measure_of (tree_in ns id) → base + size (tree_in ns id) < 2 ^ 32 →
    Describes (IsWord (tree_in ns id) base) base (size (tree_in ns id)) (sets_of part) → part.nullable ≡ m.nullable →
    new.found.items ≡ take below old.found.items ++ part ∷ [] → new.count ≡ base + m.size → new.tasks.items ≡ old.tasks.items → IsBuilt ns id base below old new
builds_one ns id base below old new m part e l d n f k t = record {
  part = part;
  is = record { sets = d; nullable = n ∙ ap (λ x. x.nullable) e };
  found = f;
  count = (let s = ap (λ x. x.size) e in omega arith);
  tasks = t;
}

-- ---- what tasks lead to
-- The sets of an expression are to be made of the last ones, which are those of its parts.
pub record IsNext (ns : List Node) (id base below : ℕ) (front stack : List Tree) : Type 0 where
  pub known : id < length ns
  pub words : IsTrue (has_word (tree_in ns id))
  pub above : stack ≡ front ++ trees_in ns (ids_at ns id)
  pub begins : base ≡ size (sequence_of front)
  pub under : below ≡ length front

-- the tasks, the first of them first, lead from sets of these expressions to those of the goal alone
abbrev pub Builds : List Node → Tree → List Task → List Tree → Type 0
Builds ns goal [] stack = stack ≡ goal ∷ []
Builds ns goal (Visit id ∷ tasks) stack = (id < length ns) × Builds ns goal tasks (stack ++ tree_in ns id ∷ [])
Builds ns goal (Build id base below ∷ tasks) stack =
    (front : List Tree) × IsNext ns id base below front stack × Builds ns goal tasks (front ++ tree_in ns id ∷ [])

pub record Stands (ns : List Node) (goal : Tree) (tasks : List Task) (found : List Part) (count : ℕ) : Type 0 where
  pub stack : List Tree
  pub builds : Builds ns goal tasks stack
  pub parts : AreParts 0 stack found
  pub counted : count ≡ size (sequence_of stack)

abbrev pub work : List Node → List Task → ℕ
work ns [] = 0
work ns (Visit id ∷ tasks) = 2 * steps (tree_in ns id) + work ns tasks
work ns (Build id base below ∷ tasks) = 1 + work ns tasks

-- ---- steps keep what the tasks lead to
size_append : (xs ys : List Tree) → size (sequence_of (xs ++ ys)) ≡ size (sequence_of xs) + size (sequence_of ys)
size_append [] ys = omega arith
size_append (x ∷ xs) ys = let e = size_append xs ys in omega arith

builds_visits : (ns : List Node) (goal : Tree) (ids : List ℕ) (rest : List Task) (stack : List Tree) → All (λ p. p < length ns) ids →
    Builds ns goal rest (stack ++ trees_in ns ids) → Builds ns goal (map Visit ids ++ rest) stack
builds_visits ns goal [] rest stack k b = rw (append-nil stack) at b
builds_visits ns goal (id ∷ ids) rest stack k b = (
  k 0 0 (omega arith),
  builds_visits ns goal ids rest (stack ++ tree_in ns id ∷ []) (λ j d l. k (suc j) d (omega arith)) (rw (append_assoc stack (tree_in ns id ∷ []) (trees_in ns ids)) b),
)

opened_tasks : (old vs : List Task) (b : Task) → reverse ((old ++ b ∷ []) ++ reverse vs) ≡ vs ++ b ∷ reverse old
opened_tasks old vs b = reverse-append (old ++ b ∷ []) (reverse vs) ∙ (λ i. reverse-reverse vs i ++ reverse-append old (b ∷ []) i)

module _ (ns : List Node) (goal : Tree) (ordered : IsOrdered ns) where
  grows : (tasks : List Task) (stack : List Tree) → Builds ns goal tasks stack → size (sequence_of stack) ≤ size goal
  grows [] stack e = let s = ap (λ ts. size (sequence_of ts)) e in omega arith
  grows (Visit id ∷ tasks) stack (l, b) =
      let g = grows tasks (stack ++ tree_in ns id ∷ []) b in let s = size-sequence_of stack (tree_in ns id) in omega arith
  grows (Build id base below ∷ tasks) stack (front, n, b) =
      let g = grows tasks (front ++ tree_in ns id ∷ []) b in
      let s = size-sequence_of front (tree_in ns id) in
      let a = ap (λ ts. size (sequence_of ts)) n.above ∙ size_append front (trees_in ns (ids_at ns id)) in
      let p = parts_size ns ordered id n.known in
      omega arith

  pub can_do : (task : Task) (walk : Walk) → size goal < 2 ^ 32 → Stands ns goal (task ∷ reverse walk.tasks.items) walk.found.items walk.count → CanDo ns task walk
  can_do (Visit id) walk small s =
      let g = grows (reverse walk.tasks.items) (s.stack ++ tree_in ns id ∷ []) s.builds.1 in
      let e = size-sequence_of s.stack (tree_in ns id) in
      let c = s.counted in
      (s.builds.0, omega arith)
  can_do (Build id base below) walk small s =
      let front : List Tree = s.builds.0 in
      let n = s.builds.1 in
      let g = grows (reverse walk.tasks.items) (front ++ tree_in ns id ∷ []) s.builds.2 in
      let e = size-sequence_of front (tree_in ns id) in
      let split = parts_split 0 front (trees_in ns (ids_at ns id)) walk.found.items (rw n.above at s.parts) in
      record {
        known = n.known;
        words = n.words;
        fits = (let b = n.begins in omega arith);
        held = (let l = parts_length 0 s.stack walk.found.items s.parts in let a = ap length n.above ∙ length-append front (trees_in ns (ids_at ns id)) in let u = n.under in omega arith);
        parts = (let z : 0 + size (sequence_of front) ≡ base = (let b = n.begins in omega arith) in rw n.under (rw z at split.1));
      }

  pub does_stand : (task : Task) (old new : Walk) → Stands ns goal (task ∷ reverse old.tasks.items) old.found.items old.count → Does ns task old new →
      Stands ns goal (reverse new.tasks.items) new.found.items new.count
  does_stand (Visit id) old new s (inl p) = rw (p.tasks, p.found, p.count) record {
    stack = s.stack ++ tree_in ns id ∷ [];
    builds = s.builds.1;
    parts = (let z : 0 + size (sequence_of s.stack) ≡ old.count = (let c = s.counted in omega arith) in part_pushed 0 s.stack old.found.items (tree_in ns id) p.part s.parts (rw z p.is));
    counted = (let e = size-sequence_of s.stack (tree_in ns id) in let c = s.counted in omega arith);
  }
  does_stand (Visit id) old new s (inr o) =
      rw (o.tasks, o.found, o.count, opened_tasks old.tasks.items (map Visit (ids_at ns id)) (Build id old.count (length old.found.items))) record {
        stack = s.stack;
        builds = builds_visits ns goal (ids_at ns id) (Build id old.count (length old.found.items) ∷ reverse old.tasks.items) s.stack (parts_known ns ordered id s.builds.0)
            (s.stack, record { known = s.builds.0; words = o.words; above = refl; begins = s.counted; under = parts_length 0 s.stack old.found.items s.parts }, s.builds.1);
        parts = s.parts;
        counted = s.counted;
      }
  does_stand (Build id base below) old new s b =
      let front : List Tree = s.builds.0 in
      let n = s.builds.1 in
      let split = parts_split 0 front (trees_in ns (ids_at ns id)) old.found.items (rw n.above at s.parts) in
      rw (b.tasks, b.found, b.count) record {
        stack = front ++ tree_in ns id ∷ [];
        builds = s.builds.2;
        parts = (let z : 0 + size (sequence_of front) ≡ base = (let k = n.begins in omega arith) in part_pushed 0 front (take below old.found.items) (tree_in ns id) b.part (rw n.under split.0) (rw z b.is));
        counted = (let e = size-sequence_of front (tree_in ns id) in let k = n.begins in omega arith);
      }

  -- at the beginning and at the end
  pub stands_first : (root : ℕ) → root < length ns → tree_in ns root ≡ goal → Stands ns goal (Visit root ∷ []) [] 0
  stands_first root l e = record { stack = []; builds = (l, ap (λ t. t ∷ []) e); parts = tt; counted = refl }

  pub stands_last : (found : List Part) (count : ℕ) → Stands ns goal [] found count → (0 < length found) × ((p : Part) → p ≡ get_or found 0 p → IsPartOf goal 0 p)
  stands_last found count s = one_part found (rw s.builds at s.parts)
    where
      one_part : (found : List Part) → AreParts 0 (goal ∷ []) found → (0 < length found) × ((p : Part) → p ≡ get_or found 0 p → IsPartOf goal 0 p)
      one_part [] h = absurd h
      one_part (q ∷ qs) h = (omega arith, (λ p e. rw e h.0))

-- ---- steps take work away
pub steps_some : (t : Tree) → 0 < steps t
steps_some (one s) = omega arith
steps_some empty = omega arith
steps_some (chain a b) = let x = steps_some a in omega arith
steps_some nothing = omega arith
steps_some (either a b) = let x = steps_some a in omega arith
steps_some (repeat part n m) = omega arith

module _ (ns : List Node) where
  work_append : (xs ys : List Task) → work ns (xs ++ ys) ≡ work ns xs + work ns ys
  work_append [] ys = omega arith
  work_append (Visit id ∷ xs) ys = let e = work_append xs ys in omega arith
  work_append (Build id base below ∷ xs) ys = let e = work_append xs ys in omega arith

  work_reverse : (xs : List Task) → work ns (reverse xs) ≡ work ns xs
  work_reverse [] = refl
  work_reverse (x ∷ xs) =
      let e = ap (work ns) (reverse-append (x ∷ []) xs) ∙ work_append (reverse xs) (x ∷ []) in
      let f = work_reverse xs in
      let g = work_append (x ∷ []) xs in
      omega arith

  work_visits : (ids : List ℕ) → work ns (map Visit ids) ≡ 2 * all_steps (trees_in ns ids)
  work_visits [] = refl
  work_visits (id ∷ ids) = let e = work_visits ids in omega arith

  pub does_less : (ordered : IsOrdered ns) (task : Task) (old new : Walk) → CanDo ns task old → Does ns task old new → work ns new.tasks.items < work ns (old.tasks.items ++ task ∷ [])
  does_less ordered (Visit id) old new can (inl p) =
      let a = work_append old.tasks.items (Visit id ∷ []) in let s = steps_some (tree_in ns id) in let e = ap (work ns) p.tasks in omega arith
  does_less ordered (Visit id) old new can (inr o) =
      let a = work_append old.tasks.items (Visit id ∷ []) in
      let e = ap (work ns) o.tasks in
      let f = work_append (old.tasks.items ++ Build id old.count (length old.found.items) ∷ []) (reverse (map Visit (ids_at ns id))) in
      let g = work_append old.tasks.items (Build id old.count (length old.found.items) ∷ []) in
      let h = work_reverse (map Visit (ids_at ns id)) in
      let v = work_visits (ids_at ns id) in
      let s = parts_steps ns ordered id can.0 in
      omega arith
  does_less ordered (Build id base below) old new can b =
      let a = work_append old.tasks.items (Build id base below ∷ []) in let e = ap (work ns) b.tasks in omega arith
