-- From the sets of an expression whose positions begin at 0 to its table.
use Rattle.std.proofs.Common.{◌≡◌, ℕ, ◌<◌, ◌^◌, List, length, Vec, Global, sym, ap, ◌∙◌, arith, zero-add}
use Rattle.std.proofs.lemmas.List.{length-map}
use Rattle.xs_positions.specs.Tree.{Tree, size, symbols}
use Rattle.xs_positions.specs.PositionWords.{IsWord}
use Rattle.xs_positions.specs.Sets.{Describes, AreSorted}
use Rattle.xs_positions.specs.declared.sets.Part.{Part}
use Rattle.xs_positions.specs.Parts.{sets_of}
use Rattle.xs_positions.specs.Measures.{has_empty}
use Rattle.xs_positions.specs.Positions.{ArePositionsOf}
use Rattle.xs_positions.specs.Found.{table_of, AreOneEach}
use Rattle.xs_positions.specs.declared.find.Positions.TheInside.{Inside}
use Rattle.xs_positions.proofs.Linking.{lists}
use Rattle.xs_positions.proofs.Walking.{length-symbols}
use Rattle.xs_positions.proofs.Worded.{empty_is}
use Rattle.xs_positions.proofs.Exchange.{exchange}
use Rattle.xs_positions.proofs.Spelling.{spelling_is}

module _ (tree : Tree) (inside : Inside) (part : Part) (listed : inside.symbols.items ≡ symbols tree) (d : Describes (IsWord tree 0) 0 (size tree) (sets_of part))
    (rest : (inside.sets.first ≡ part.first) × (inside.sets.last ≡ part.last) × (inside.sets.useful ≡ part.useful) × (inside.sets.nullable ≡ part.nullable))
    (sorted : AreSorted (sets_of part).follow inside.follow) where
  count_is : length inside.symbols.items ≡ size tree
  count_is = ap length listed ∙ length-symbols tree

  pub one_each : size tree < 2 ^ 32 → AreOneEach inside
  one_each l = (
    sorted.count ∙ (d.follow_count ∙ sym count_is),
    rw rest.2 (d.useful_count ∙ sym count_is),
    (let e = count_is in omega arith),
  )

  pub positions_are : part.nullable ≡ has_empty tree → ArePositionsOf tree (table_of inside)
  positions_are e = record {
    symbols = listed;
    nullable = rw (rest.3, e) (empty_is tree 0);
    first = rw rest.0 d.first;
    last = rw rest.1 d.last;
    follow = λ p q l. (let f = rw zero-add at (d.follow p q l) in let m = sorted.members p q (let c = d.follow_count in omega arith) in
        ((λ h. f.0 (m.0 h)), (λ h. m.1 (f.1 h))));
    useful = λ p l. rw rest.2 (let f = d.useful p l in rw zero-add at f);
    exchange = exchange tree 0;
    spelling = spelling_is tree inside.symbols.items listed;
    count = count_is;
    within = λ p h. (let w = d.within p h in omega arith);
    first_rises = rw rest.0 d.first_rises;
    last_rises = rw rest.1 d.last_rises;
    follow_rises = sorted.rises;
  }

-- the rows of a part, brought in order
pub sorted_is : (part : Part) (old new : List (Vec ℕ Global)) (follow : List (List ℕ)) → old ≡ part.follow.items → AreSorted (lists old) (lists new) → follow ≡ lists new →
    AreSorted (sets_of part).follow follow
sorted_is part old new follow e s f = rw f (rw e at s)

pub rows_small : (tree : Tree) (part : Part) (old new : List (Vec ℕ Global)) → Describes (IsWord tree 0) 0 (size tree) (sets_of part) → size tree < 2 ^ 32 → old ≡ part.follow.items →
    AreSorted (lists old) (lists new) → length new < 2 ^ 32
rows_small tree part old new d small e s =
    let a = length-map new (λ (v : Vec ℕ Global). v.items) in
    let b = length-map old (λ (v : Vec ℕ Global). v.items) in
    let c = s.count in
    let f : length (lists part.follow.items) ≡ size tree = d.follow_count in
    let g = length-map part.follow.items (λ (v : Vec ℕ Global). v.items) in
    let h = ap length e in
    omega arith
